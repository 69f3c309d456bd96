-- What no public contract says: how the code keeps keys beside their tables.
pub mod Entries
