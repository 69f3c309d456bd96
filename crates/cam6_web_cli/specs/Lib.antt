-- In the order of reading: what a word says; the arguments, and what they ask for; and exit statuses.
pub mod Values
pub mod Words
pub mod Statuses
