-- To be believed, in this order: the schedules and logs of the bench table, and the table's lines P1 to P10 under one statement, the
-- wrong programs of section (c).
pub mod Bytes
pub mod BenchTable
pub mod WrongPrograms
