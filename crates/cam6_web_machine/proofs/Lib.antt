-- Lemmas.

-- A private machine runs out of memory for a line that says a command.
pub mod Answering
