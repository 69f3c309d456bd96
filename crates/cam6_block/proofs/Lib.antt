-- Lemmas, in the order of reading.

-- States of a block and their bits.
pub mod States
-- A map of block states of which no two have one successor takes each state.
pub mod Pigeonhole
-- A search of all block states, which keeps the state of each successor.
pub mod Search
-- The least state with a successor.
pub mod Preimages
-- The lines that a corner of a block shows.
pub mod Lines
-- Phases by their numbers.
pub mod Phases
-- What lines 8 to 11 tell of corners.
pub mod OtherLines
-- Two corners that show one address were two corners with the same bits.
pub mod Rotated
-- What inverted tables do, and that there is one.
pub mod Undoing
-- What is refused is refused for its cause, and what has no cause is reversible.
pub mod Causes
-- What is said of a rule's table is said of the words of its text.
pub mod RuleTables
-- A table that is filled corner by corner.
pub mod Filled
