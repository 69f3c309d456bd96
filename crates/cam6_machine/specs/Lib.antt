-- In the order of reading: all that a machine stores and the laws, and what is said of a command at
-- once. How the code goes about it stands apart: no public contract says it.
pub mod Stored
pub mod Laws
pub mod AtOnce
pub mod Internal
