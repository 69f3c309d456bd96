-- In the order of reading: how programs are seen, what they mean, and when one computes entries.
-- Then what is read and made at a column.
pub mod Limits
pub mod Programs
pub mod Meaning
pub mod Computing
pub mod Running
