-- Lemmas, in the order of reading.

-- Keys that are the same, and the test of keys in memory.
pub mod SameKeys
-- True tables: there is one of a key, and it is found by way of the straight one.
pub mod TrueTables
-- What is cached, as the map of tables has it.
pub mod CachedTables
