-- What no public contract says: how the code keeps rules by numbers, what was said of a text that
-- was tried, and the use of a rule.
pub mod Numbered
pub mod Verdicts
pub mod Uses
