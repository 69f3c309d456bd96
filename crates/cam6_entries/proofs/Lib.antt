-- Lemmas, in the order of reading.

-- Rows of a band, word by word.
pub mod UnitRows
-- Rows of a band in its units.
pub mod BandRows
-- In planes that are kept every cell keeps its bit.
pub mod KeptPlanes
-- A program that does for the entries makes the new bits.
pub mod ComputedBits
-- One that computes entries without two lines does for them under N/MARG.
pub mod LinesWithoutNames
-- So do look-ups, if all twelve lines are asked for.
pub mod LookedUp
