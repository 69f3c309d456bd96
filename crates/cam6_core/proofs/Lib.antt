-- Lemmas, in the order of reading.

-- Lists with one thing changed, by index and by number.
pub mod Numbers
-- A core agrees with the model as before where one user or one board, or one of each, changes in both.
pub mod Frames
-- What the model has of a user or a board that is known.
pub mod Inversions
-- One board of a core, changed in its place.
pub mod Changing
-- An ask.
pub mod Asks
-- A lease.
pub mod Leases
-- A band, a preempt, a fail and a repair.
pub mod Boards
-- A collect.
pub mod Collects
-- Users of a new core, one more after the others.
pub mod Starting
-- The model's users and boards stand where the core's do.
pub mod Standings
-- Events one after another, by one event at a time.
pub mod Chains
-- What the model has of a user is what the events and what came of them say.
pub mod Histories
-- The headline, from what the model says.
pub mod Heads
-- Two lists of events that agree on a user's commands.
pub mod Agreement
