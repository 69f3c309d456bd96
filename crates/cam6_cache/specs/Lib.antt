-- In the order of reading: the limits; what a table is asked for by, and its true table; what a
-- cache keeps. Last, the laws. How the code keeps keys stands apart: no public contract says it.
pub mod Limits
pub mod Keys
pub mod Cached
pub mod Laws
pub mod Internal
