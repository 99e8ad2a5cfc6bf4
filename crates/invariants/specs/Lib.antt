-- To be believed, in this order: the invariants of the register's state, what its buffers hold. What is proved of them
-- stands in proofs/Theorems.antt.
pub mod Invariants
pub mod Held
