-- Lemmas, in the order of reading.

-- A step of one user leaves the rows of the others.
pub mod Rows
-- Each kind of step keeps the rule.
pub mod Keeps
-- What a board's seat has in the table, where it says that it holds something.
pub mod Tokens
-- What is put and then collected is asked.
pub mod Asking
-- Desks and seats, one more after the others.
pub mod Counting
-- Seats that hold nothing, one after another.
pub mod Idle
-- Desks at blank machines may be asked, and each is its user's.
pub mod Resting
