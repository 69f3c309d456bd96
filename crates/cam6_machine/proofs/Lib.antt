-- Lemmas, in the order of reading.

-- The texts of a plane's rows, row by row.
pub mod PlaneTexts
-- The colours of a row are among those of the states.
pub mod ColoursOfRows
-- What a machine keeps beside its planes stays what is always kept.
pub mod Keeping
-- The machine after a command, by what is stored then.
pub mod Replying
-- What is said of a command is said of it by the machine that was there.
pub mod Answering
-- One step this way along a cycle, with numbers and with names.
pub mod Along
