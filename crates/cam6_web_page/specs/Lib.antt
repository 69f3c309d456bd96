-- The page's files.
pub mod Files
