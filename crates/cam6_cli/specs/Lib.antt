-- In the order of reading: Sharing, CommandLine, Slips, Reads, Replays, Statuses.
pub mod Sharing
pub mod CommandLine
pub mod Slips
pub mod Reads
pub mod Replays
pub mod Statuses
