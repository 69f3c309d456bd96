-- Lemmas, in the order of reading.

-- Pieces of bytes one after another, and fronts of them that were written.
pub mod Pieces
-- Bytes pushed one after another: pixels, and decimal numbers of a byte.
pub mod Pushes
-- The lights of a palette, one after another.
pub mod Lights
