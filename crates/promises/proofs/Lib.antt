-- What is proved stands in Theorems, in Demands (run and judge joined) and in Determined. Before it, in this order, what its proofs use: what the machine's numbers say of the events so far, event by
-- event; that each move keeps it; that all moves of a run do; the numbers of the writes.
pub mod SoFar
pub mod Follows
pub mod Along
pub mod WriteNumbers
pub mod Theorems
pub mod Demands
pub mod Determined
