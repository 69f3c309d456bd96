-- Lemmas, in the order of reading.

-- The state of a column by its bit in each plane.
pub mod StatesOfWords
-- How many numbers below a bound have a property.
pub mod CountsBelow
-- The states of a row's cells, in its words and on the planes.
pub mod StatesOfRows
