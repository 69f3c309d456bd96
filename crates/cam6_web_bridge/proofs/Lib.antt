-- Lemmas, in the order of reading.

-- A bridge goes on by a step, and ends.
pub mod Steps
-- A host at the other end of two streams answers a line, or fails to.
pub mod Handing
-- A message is sent, or it isn't.
pub mod Sending
-- What a host is told in a bridge is the texts, and what is sent are its lines.
pub mod Telling
-- What is heard of a page on a WebSocket, by whether it can be heard.
pub mod Heard
-- A host that ended within a line, or before one.
pub mod Ended
