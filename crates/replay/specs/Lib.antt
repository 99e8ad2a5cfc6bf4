-- To be believed, in this order: the run and its promise, the moves of a schedule.
pub mod Run
pub mod Scheduled
-- A device, not to be believed: what the private functions promise each other.
pub mod Device
