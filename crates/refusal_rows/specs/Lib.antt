-- To be believed, in this order: the rows of a single move; what stands in a file at an offset; the offsets that are reached over good fields;
-- the rows of a file; a schedule's; a log's.
pub mod MoveRows
pub mod Bytes
pub mod Reached
pub mod FileRows
pub mod ScheduleRows
pub mod LogRows
