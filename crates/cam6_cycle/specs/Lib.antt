-- In the order of reading: which entries are a cycle, the ways along it, and the tables that it
-- needs. Then what stands where none is used, and what follows.
pub mod Limits
pub mod Along
pub mod Tables
pub mod Unused
pub mod Laws
