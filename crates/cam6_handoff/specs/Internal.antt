-- How the code keeps it: no public contract says it.
pub mod Tokens
pub mod Cutting
