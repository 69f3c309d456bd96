-- In the order of reading: how much a host has, who is connected to it, the desks at which nobody
-- sits, what is written to a connection for what is read of it, and answers on their way.
pub mod Serving
pub mod Guests
pub mod Places
pub mod Connections
pub mod Outboxes
