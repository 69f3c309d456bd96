-- In the order of reading: the states of cells, and what is shown and counted by them; then what
-- only this crate's own contracts say.
pub mod States
pub mod Internal
