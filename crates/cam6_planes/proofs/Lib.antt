-- Lemmas, in the order of reading.

-- The bits of a word that is shifted by one, with a bit of another word put in.
pub mod Words
-- Words whose columns are chosen by a mask.
pub mod ChosenWords
-- The columns of words that are the same throughout.
pub mod SameWords
-- A row of words, filled word by word.
pub mod WordByWord
-- The bytes of a word, of which the first is the highest.
pub mod Bytes
-- A row of bytes in hexadecimal digits.
pub mod HexText
-- A row's bytes show it, and no others do.
pub mod RowBytes
-- The digits of a row are ASCII.
pub mod AsciiTexts
-- Digits that were made of a row are read as its bits.
pub mod DigitsRead
-- Within the side, coordinates stand for themselves.
pub mod CellsAt
-- Words that are 0 show no cell.
pub mod Blank
-- What every side has.
pub mod SideNumbers
-- What the text of every side has.
pub mod SideTexts
-- A test of each number below a bound, which the check computes.
pub mod AllBelow
