-- What no public contract says: which rows an image keeps, which are old before a band and new
-- after it, and what a half's new rows do to its planes.
pub mod SavedRows
pub mod NewRows
pub mod HalfRows
