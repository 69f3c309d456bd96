-- Lemmas, in the order of reading.

-- The rules of a map, looked up by name.
pub mod CompiledRules
-- Numbers of rules, and their names: they say the same where the names are the rules' own.
pub mod Naming
-- Where the rules of a cycle's entries stay what they are, tables that are true ones stay so.
pub mod UsedRules
-- Numbers of rules after one was dropped: they and the names still say the same.
pub mod Dropped
-- Rules stay at their numbers where one is put.
pub mod StaysNumbered
-- Tables that are filled use by use.
pub mod FilledTables
-- The tables of a position are those of its entry's rules.
pub mod TablesOfPositions
-- A machine that moves by one step by the true tables of its cycle.
pub mod MovesByTables
-- What a rule's table says of whether the rule can be undone.
pub mod Causes
-- The first entry with a rule that can't be undone, entry by entry.
pub mod FirstCauses
