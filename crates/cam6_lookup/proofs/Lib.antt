-- Lemmas, in the order of reading.

-- The bits of a word that is shifted, or masked, or both.
pub mod Shifted
-- The positions of a word by a binary digit, and one swap of two words.
pub mod Positions
-- Four swaps, one after another.
pub mod Transposing
-- Words of four lanes.
pub mod Lanes
-- An address by its bits, and two more words of a row.
pub mod Addresses
