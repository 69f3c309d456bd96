-- In the order of reading: names, the lines that they stand on, when two wirings are one, and the
-- texts of their parts. Then blocks, what a cell sees and the address that it shows. Last, the
-- laws.
pub mod Name
pub mod Wiring
pub mod Same
pub mod Texts
pub mod Block
pub mod Seen
pub mod Lines
pub mod Laws
