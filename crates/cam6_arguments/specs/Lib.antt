-- In the order of reading: the programs; refusals, with their exit statuses; what words say; options.
pub mod Program
pub mod Refusals
pub mod Values
pub mod Options
