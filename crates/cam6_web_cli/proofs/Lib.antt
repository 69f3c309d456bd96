-- Lemmas, in the order of reading.

-- Words are read one after another.
pub mod Lists
-- What is asked for, by the parts that clap's rows say.
pub mod Parts
-- What the words at `--host` and `--name` ask for, by clap's rows.
pub mod Given
-- Clap's matches and faults are functions of the words.
pub mod Refusing
