-- To be believed, in this order: the initial state, the numbered steps and the flickers, one move with its refusals, moves one after another,
-- the shape of a state.
pub mod Initial
pub mod Steps
pub mod Move
pub mod Run
pub mod Shaped
-- Mechanical, not to be believed: a setter for each field. A slip there is caught by the proofs against the code.
pub mod Set
-- A device, not to be believed: what the private functions rest on.
pub mod Device
