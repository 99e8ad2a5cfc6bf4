-- What is proved stands in MoveRows (a single move), FileRows (any file), ScheduleRows and ScheduleNumbers, LogRows and LogNumbers. The others are
-- what their proofs use.
pub mod MoveTests
pub mod MoveRows
pub mod Fields
pub mod Behind
pub mod RowToWalk
pub mod FileRows
pub mod FileNumbers
pub mod ScheduleMoves
pub mod ScheduleRuns
pub mod ScheduleRows
pub mod ScheduleNumbers
pub mod LogRows
pub mod LogNumbers
pub mod LogAnswers
