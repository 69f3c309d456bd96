-- What callers see of entries. Then how rows of words are transposed; only this crate cites that.
pub mod Entries
pub mod Transposed
