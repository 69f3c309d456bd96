-- Lemmas, in the order of reading.

-- What the first line of a connection says, where an LF or the input's end ends it.
pub mod FirstLines
-- What the places of desks have before and after a change of one.
pub mod Changes
-- What a first line is refused by.
pub mod Refusing
-- What is written for a first line that asks for a seat and gets it.
pub mod Seating
