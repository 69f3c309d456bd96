-- Lemmas.

-- Writes one after another make one prefix.
pub mod Writes
