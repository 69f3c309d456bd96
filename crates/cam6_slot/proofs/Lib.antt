-- Lemmas, in the order of reading.

-- Steps that are all done are the command, and its reply is theirs.
pub mod Done
-- Bands that are left, and a lease of which none are.
pub mod Ending
-- A command of which no step is done stands for the machine and for itself.
pub mod Beginning
-- A command that a board takes: its job fits the lease.
pub mod GoingOut
-- A lease after a band: with the job after it, it stands for what it stood for.
pub mod Banding
-- The rules of which tables are needed: they are kept, and can be undone where they are to be.
pub mod NeededRules
