-- In the order of reading: what a word says of a user, the event of a step, and the laws of single
-- steps; then all threads together, what they do, one action after another, and the laws of that.
pub mod Says
pub mod Steps
pub mod Laws
pub mod Configurations
pub mod Actions
pub mod Executions
pub mod Threads
