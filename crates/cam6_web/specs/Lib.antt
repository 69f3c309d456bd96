-- The connections of a server, by what they have.
pub mod Visitors
