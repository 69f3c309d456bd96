-- In the order of reading: steps of a command that are under way; what is parked beside them;
-- leases, and the jobs that fit them; for which machine and command a place stands; what is
-- finished; how many bands are left; what is said of a command at once, and what comes of it; the
-- tables that a lease needs; and the laws.
pub mod Works
pub mod Parking
pub mod Leases
pub mod Stands
pub mod Finished
pub mod Lefts
pub mod AtOnce
pub mod Asked
pub mod Needs
pub mod Laws
