-- Lemmas, in the order of reading.

-- The row above a row.
pub mod RowsAbove
-- The columns of words that have the blocks' right columns.
pub mod RightColumns
-- Rows of words whose columns are chosen by a mask.
pub mod ChosenRows
-- The words of a unit's rows.
pub mod RowsOfUnits
-- What cells see in their blocks.
pub mod InBlocks
-- Where cells look, by the cases of code.
pub mod Looking
-- Rows that are written one by one.
pub mod WrittenRows
-- Lines that are written one by one.
pub mod LineByLine
-- The part in which a line is seen.
pub mod SeenParts
-- Units that are seen in parts.
pub mod UnitsSeen
