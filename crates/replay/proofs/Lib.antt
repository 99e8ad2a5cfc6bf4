-- What is proved stands in Theorems. Before it, in this order, what its proofs and those of the functions use: how to show something of a walk,
-- fields, what the run's check of one comes to, both passes, that the log grows, one move, what holds along every run; the first pass, its
-- machine's steps, its moves and its loop; the second pass in the same way.
pub mod Induction
pub mod Fields
pub mod Checks
pub mod Passes
pub mod Grows
pub mod Moves
pub mod Along
pub mod Asking
pub mod Measuring
pub mod Stepping
pub mod Making
pub mod Writing
pub mod Theorems
