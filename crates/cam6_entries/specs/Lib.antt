-- In the order of reading: how many entries a table has, the two bits of an entry, what the cells of
-- a band become by a table, and when a program does for its entries.
pub mod Limits
pub mod NewBits
pub mod Bands
pub mod Programs
