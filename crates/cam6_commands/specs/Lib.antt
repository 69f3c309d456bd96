-- In the order of reading: limits, names of rules, the text of a rule, the numbers of refusals, and
-- when a number of a command is refused.
pub mod Limits
pub mod Names
pub mod RuleTexts
pub mod Numbers
pub mod Checks
