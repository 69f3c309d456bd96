-- Lemmas, in the order of reading.

-- What is saved of a machine can be said in each version that has its side.
pub mod Sayable
-- How long compact texts are at most.
pub mod Sizes
-- The line of every machine is within the limit of lines that load one.
pub mod Fitting
-- A machine's line gives it back, and no other line loads one.
pub mod LinesOfMachines
