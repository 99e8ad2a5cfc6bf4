-- To be believed, in this order: the events of a log, its operations, its legal serializations, the judge's answer;
pub mod Events
pub mod Operations
pub mod Serialization
pub mod Verdict
-- the events that the machine itself records, with their ports and numbers;
pub mod Numbered
-- source document 000's legal executions, its read-write objects, and a log as one of its executions.
pub mod Document000
pub mod ReadWrite
pub mod Execution

-- Laws and proofs stand in proofs/.
