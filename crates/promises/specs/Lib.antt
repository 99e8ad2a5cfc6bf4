-- To be believed, in this order: the register's promise over events, demand 3 of the machine itself, what the numbers of the events say, and
-- demand 3 and the judge's half of demand 2 over the promises of run and judge. What is proved of them stands in proofs/Theorems.antt and
-- proofs/Demands.antt.
pub mod RegisterPromise
pub mod MachineDemand
pub mod SeenNumbers
pub mod Demands
