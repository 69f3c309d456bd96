-- Lemmas, in the order of reading.

-- Units that are combined word by word.
pub mod Combined
-- What lines and slots show at a column.
pub mod Columns
-- Lines where each column shows its own address.
pub mod AddressLines
-- Words that take in one bit after another.
pub mod Packing
-- What is right at every address is right for all that the lines can show.
pub mod EveryAddress
-- A last step that writes the row of the lower level in place of its slot.
pub mod LastSteps
