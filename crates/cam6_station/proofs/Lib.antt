-- Lemmas, in the order of reading.

-- What the calls of a station make of a lease and of what its board holds.
pub mod Shifts
-- Lists that grow at their end, for the crates above.
pub mod Lists
