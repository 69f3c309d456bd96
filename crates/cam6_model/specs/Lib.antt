-- In the order of reading: the rules of a machine, entries of a cycle, what a cell becomes in a
-- step, a step undone, the machine that a user has and its steps, both ways along a cycle, a machine
-- as it is saved, when a command is refused, what it does, a private machine, what a machine always
-- is, which commands may need memory, and a machine that is lost and loaded elsewhere. Then the
-- tables of rules, and the laws.
pub mod Rules
pub mod Cycles
pub mod Steps
pub mod Undoing
pub mod Machine
pub mod Moves
pub mod Saved
pub mod Refusals
pub mod Effects
pub mod Alone
pub mod Always
pub mod Memory
pub mod Recovery
pub mod TrueTables
pub mod Laws
