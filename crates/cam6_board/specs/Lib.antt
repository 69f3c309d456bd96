-- In the order of reading: images that boards work on, jobs, what one band does to a job, what a
-- board holds, and boards that fail; then bands one after another, how far a job has gone along the
-- cycle of a machine, and the laws. How the code goes about it stands apart.
pub mod Images
pub mod Jobs
pub mod Bands
pub mod Held
pub mod Soft
pub mod Flaky
pub mod Running
pub mod Standing
pub mod Laws
pub mod Internal
