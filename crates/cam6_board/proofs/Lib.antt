-- Lemmas, in the order of reading.

-- A band moves a job, by what it makes of the image.
pub mod Moving
-- Calls that are counted.
pub mod Calls
-- A band takes a job on as the machine moves along whose cycle it goes.
pub mod Following
-- How many bands a job takes.
pub mod Counting
-- Bands one after another are the steps of the machine along whose cycle a job goes.
pub mod WholeSteps
