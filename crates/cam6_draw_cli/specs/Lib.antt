-- In the order of reading: Statuses, DrawWords, Placing, RleWords.
pub mod Statuses
pub mod DrawWords
pub mod Placing
pub mod RleWords
