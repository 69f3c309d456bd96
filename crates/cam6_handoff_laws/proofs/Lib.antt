-- Lemmas, in the order of reading.

-- Where a user is, from what their word says.
pub mod Said
-- What a step's event makes of its user and its board.
pub mod Leading
-- Each step that changes a word.
pub mod Desks
pub mod Boards
-- All threads: what one step makes of the table, of what words say, and of what desks wait for.
pub mod Tables
pub mod Words
pub mod Awaited
-- Lists of events, and an action that is one event.
pub mod Events
pub mod Going
-- Each action.
pub mod DeskActions
pub mod BoardActions
pub mod OtherActions
pub mod Acting
-- What a board took; the beginning; and actions one after another.
pub mod Holding
pub mod Beginning
pub mod Executing
