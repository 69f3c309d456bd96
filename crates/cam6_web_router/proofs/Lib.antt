pub mod NoWay
pub mod Openings
