-- In the order of reading: Lines, Reading, Frame, LineValue, Replies, Run, Unfinished, Course, Front,
-- Taking, Showing, Laws.
pub mod Lines
pub mod Reading
pub mod Frame
pub mod LineValue
pub mod Replies
pub mod Run
pub mod Unfinished
pub mod Course
pub mod Front
pub mod Taking
pub mod Showing
pub mod Laws
