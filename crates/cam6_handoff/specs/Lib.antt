-- In the order of reading: the rule of the table, with its steps; where a desk stands and what its
-- calls give; what a board's seat holds and what its calls give; the beginning, with its law.
pub mod Rule
pub mod Steps
pub mod Standing
pub mod Desks
pub mod Holding
pub mod Seats
pub mod Boot
pub mod Laws
pub mod Internal
