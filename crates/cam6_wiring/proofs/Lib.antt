-- Lemmas, in the order of reading.

-- A number by its bits.
pub mod Numbers
-- The lines of names, and what an address shows on them.
pub mod LinesOfNames
-- Rotations round a block, by the sides of the block on which cells lie.
pub mod Rotating
-- Each name stands on one line, so its line and the lines' names say the same.
pub mod Named
-- Rows that are the same in each word, or mixed by their columns.
pub mod MixedColumns
-- Columns and rows beside a cell.
pub mod RowsBeside
-- Lines that are written one by one.
pub mod LineByLine
-- Wirings that are the same, and the test of them in memory.
pub mod SameWirings
-- Each text names what it is the text of, and no other text does.
pub mod NamesOfTexts
