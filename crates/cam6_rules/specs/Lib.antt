-- In the order of reading: rules by their numbers, a rule as it is kept, tables that remember for
-- which way they are filled, the laws, and what is said of a rule that is defined. How the code
-- keeps rules by numbers stands apart: no public contract says it.
pub mod Numbers
pub mod Compiled
pub mod Filled
pub mod Laws
pub mod Defining
pub mod Internal
