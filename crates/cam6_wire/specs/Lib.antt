-- In the order of reading: faults, the limit of a line, what stands at a key, wirings, rules,
-- entries, whole numbers and texts, a saved machine as it is written and as it is read, commands,
-- events, replies, outcomes, and the first line of a connection with its answers; then texts of one
-- line, the values by which commands and events are shown, and the laws.
pub mod Faults
pub mod Limits
pub mod Fields
pub mod Wirings
pub mod Rules
pub mod Entries
pub mod Numbers
pub mod Saved
pub mod Loads
pub mod Commands
pub mod Events
pub mod Replies
pub mod Outcomes
pub mod Seats
pub mod OneLine
pub mod Shown
pub mod ShownEvents
pub mod Laws
