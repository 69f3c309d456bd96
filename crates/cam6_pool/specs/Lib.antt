-- In the order of reading: what a seat and its board have of each other, how a worker ends, how its
-- looks go round all users, and what follows of that. How the code goes about it stands apart.
pub mod Serving
pub mod Ending
pub mod Rounds
pub mod Laws
pub mod Internal
