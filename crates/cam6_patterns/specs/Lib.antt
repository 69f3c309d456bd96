-- In the order of reading: Pattern, Faults, Header, Body, Reading, Writing, Placing, Outcome, Laws.
pub mod Pattern
pub mod Faults
pub mod Header
pub mod Body
pub mod Reading
pub mod Writing
pub mod Placing
pub mod Outcome
pub mod Laws
