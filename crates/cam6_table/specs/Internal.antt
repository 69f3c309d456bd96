-- What no public contract says: how a rule becomes code, which lines code reads, how it is run in
-- lanes, and how a table is filled.
pub mod Emitting
pub mod LinesRead
pub mod Filling
pub mod LaneValues
pub mod Sets
pub mod Lanes
