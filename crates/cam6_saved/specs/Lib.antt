-- In the order of reading: the texts of a machine, and what follows from them.
pub mod Texts
pub mod Laws
