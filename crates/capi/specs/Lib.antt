-- To be believed, both.
pub mod Words
pub mod Promises
