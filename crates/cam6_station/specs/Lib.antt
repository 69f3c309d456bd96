-- In the order of reading: what filling tables makes of a cache; what a station holds of a user, and
-- what its calls make of it. How the code keeps it stands apart.
pub mod Loading
pub mod Held
pub mod Calls
pub mod Internal
