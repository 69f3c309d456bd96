-- What no public contract says: both ways along a cycle, where a machine's planes are, a machine by
-- all that it stores, and one that was saved on its way back.
pub mod Ways
pub mod Images
pub mod Loading
