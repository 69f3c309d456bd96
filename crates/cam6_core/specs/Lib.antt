-- In the order of reading: a private machine over its user's commands; what a core holds; which
-- events are refused; what events do to users and boards, by private machines; when a core agrees
-- with that; one event; a core to begin with; events one after another; the headline, and laws.
-- How the code goes about it stands apart.
pub mod History
pub mod State
pub mod Refusals
pub mod Model
pub mod Good
pub mod Goes
pub mod Fresh
pub mod Runs
pub mod Headline
pub mod Laws
pub mod Internal
