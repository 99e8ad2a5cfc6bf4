-- Laws and proofs. First the tools: counting events, logs with events added at the end, the kinds of events, well-formed logs.
pub mod Counting
pub mod Appending
pub mod EventKinds
pub mod Turns
-- Legal serializations: orders and choices, prefixes, the least choice, failing reads, overlapped reads.
pub mod Choice
pub mod OrderToChoice
pub mod ChoiceToOrder
pub mod Prefixes
pub mod Least
pub mod Serializations
pub mod Failing
pub mod Overlaps
-- The judge: a search by value, the core of its state event by event, a judge that computes, the one answer, the bench lines.
pub mod Written
pub mod Search
pub mod JudgeState
pub mod JudgeSteps
pub mod JudgeRun
pub mod Unique
pub mod BenchLogs
-- Document 000: histories as plays, its example, and the agreement with legal serializations.
pub mod Plays
pub mod Replays
pub mod PlayMore
pub mod Example
pub mod Play
pub mod PlayToChoice
pub mod ChoiceToPlay
pub mod PlayLiteral
pub mod Agreement
pub mod ExecutionTurns
