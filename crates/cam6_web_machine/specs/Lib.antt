-- How a private machine answers lines.
pub mod Answers
