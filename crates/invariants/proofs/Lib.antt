-- What is proved stands in Theorems. Before it, in this order, what its proofs use: a device (the machine again, in a form in which tests compute),
-- its invariants, that its steps keep them, and the way between it and the contract's own state and moves.
pub mod Device
pub mod Inv
pub mod Tables
pub mod Steps
pub mod Kept
pub mod Link
pub mod Decode
pub mod FromDevice
pub mod ToDevice
pub mod HeldDevice
pub mod HeldKept
pub mod Preserved
pub mod Start
pub mod NoClash
pub mod Runs
pub mod Theorems
