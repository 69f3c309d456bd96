-- What writing adds to a writer.
pub mod Front
