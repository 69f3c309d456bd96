-- In the order of reading: texts that are one line; how a host answers lines, and one at the other
-- end of two streams; how a page speaks and is spoken to, and one on a WebSocket; a bridge between the
-- two, and its ends, also on a WebSocket; how the page is told of an end; and the laws.
pub mod Lines
pub mod Hosts
pub mod HostLines
pub mod Pages
pub mod Sockets
pub mod Bridges
pub mod Bridging
pub mod Partings
pub mod Laws
