-- To be believed, all.
pub mod Choice
pub mod Value
pub mod Refusals
pub mod Answers
