-- How the code goes about it: no public contract says it.
pub mod Served
