-- In the order of reading: Look, Netpbm, Terminal, Palette.
pub mod Look
pub mod Netpbm
pub mod Terminal
pub mod Palette
