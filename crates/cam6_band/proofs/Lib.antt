-- Lemmas, in the order of reading.

-- A row of all planes, half by half.
pub mod HalfPlanes
-- The rows of a band that are put into a plane one after the other.
pub mod RowsPut
-- A half's new rows, once they are put into its planes.
pub mod NewBits
-- A step that is a band further, or is moved.
pub mod Further
-- Where the tables of an entry lie, whichever way the cycle is gone along.
pub mod Uses
