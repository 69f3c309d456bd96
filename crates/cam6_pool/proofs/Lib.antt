-- Lemmas, in the order of reading.

-- What a seat and its board have of each other, before and after each call of the board.
pub mod Serving
-- A worker's seat and its station, from call to call.
pub mod Going
-- A user whom no round takes or passes over is nearer after each take.
pub mod RoundRobin
