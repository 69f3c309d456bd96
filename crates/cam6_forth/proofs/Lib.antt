-- Lemmas, in the order of reading.

-- Tokens at the front of a text.
pub mod Cutting
-- The value of digits.
pub mod Values
-- The tokens that are marks.
pub mod Marks
-- What is read of a rule that is being written.
pub mod States
-- What a list of tokens leads to.
pub mod Runs
-- Tokens are read as by `run`, which doesn't count them.
pub mod Counting
-- Items after items, and definitions after definitions.
pub mod Joined
-- An advance refuses a token with the fault that the token has after what is being written.
pub mod FaultsOfSteps
-- Each token that is spelled is read.
pub mod Steps
-- What is spelled in a body is read.
pub mod SpelledBodies
-- What is spelled is read.
pub mod SpelledIsRead
-- What it means that what is being written grows by a token.
pub mod OneMore
-- What is being written grows by each token that an advance reads in a body or between braces.
pub mod MoreInBodies
-- What is being written grows by each token that an advance reads.
pub mod MoreByTokens
-- Tokens with comments, and what is being written by them.
pub mod Following
-- What is read is the rule of a tree, or a fault of what is being written; and the other way
-- round.
pub mod Readings
-- There is always a name that isn't taken.
pub mod Fresh
-- Tokens that were read without a fault can be completed to a rule.
pub mod Completions
-- The laws that tie texts, trees and faults.
pub mod TextLaws
-- Of a text that is a rule something is kept.
pub mod SomethingKept
-- What a known token says by itself.
pub mod Singles
-- A token has the first of its faults.
pub mod FaultOrders
-- What spells a tree is read as that tree.
pub mod OneTree
