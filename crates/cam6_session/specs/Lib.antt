-- In the order of reading: the lines of a text, what is kept of a line, reading one, the bytes that
-- reads take; ways of answering lines, answering one, how serving ends, what the machine
-- answers, and the machine at which a desk stands; a private session and its main theorem; what a
-- core answers, and what a replay writes; and the laws.
pub mod Lines
pub mod Held
pub mod Reading
pub mod Spending
pub mod Answering
pub mod Responding
pub mod Sessions
pub mod Answers
pub mod Desks
pub mod Alone
pub mod Headline
pub mod Events
pub mod Replays
pub mod Laws
