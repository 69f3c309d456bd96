-- In the order of reading: the rows of a band; units, and what their lines show; which lines are
-- asked for. How the units are kept stands apart: no public contract says it.
pub mod Limits
pub mod Bands
pub mod Units
pub mod Plans
pub mod Internal
