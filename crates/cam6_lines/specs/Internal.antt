-- What no public contract says: the rows that show what cells see under a name, and from which of
-- them each line's unit is seen.
pub mod Parts
pub mod Views
