-- Lemmas, in the order of reading.

-- A text is split at its LFs, from the front.
pub mod Splitting
-- Lines are answered one after another.
pub mod Answering
-- For which lines memory is taken.
pub mod Taking
-- A line that is kept grows by a part.
pub mod Keeping
-- A line is read in parts, one a look, until its LF, the input's end or a fault.
pub mod Parts
-- Each look at the reader but the last takes a byte at least.
pub mod Spending
-- A session so far: the lines that it took, each answered, and how it goes on or ends from there.
pub mod Runs
-- The same of a reader and a writer of which it isn't known whether they tell their bytes.
pub mod Known
-- Whatever ends a session, what it wrote is a front of the answers to all lines.
pub mod Fronts
-- Lines of events are answered by what comes of the events, one after another.
pub mod Replaying
-- A line is answered by what was told, or serving stops where the writer failed.
pub mod Telling
