-- In the order of reading: the names of the server, where a socket leads, which answer a request
-- gets, the response that tells it, and a connection.
pub mod Names
pub mod Ways
pub mod Answers
pub mod Sites
pub mod Greetings
