-- In the order of reading: how a text is cut, how words are spelled and what a token is, the
-- limits and the faults' numbers. Then what a rule is without where it lies in memory, and what a
-- token says by itself. Then the tree of a rule and its spelling, comments, and which text is which
-- rule. Then a rule that is being written, the tree that is read from a text, the fault of a token,
-- and the faults one by one in their order. Last, how a text is read token by token, what the calls
-- return, and the laws that tie this to the trees.
pub mod Tokens
pub mod Spellings
pub mod Kinds
pub mod Limits
pub mod Defined
pub mod SingleWords
pub mod Tree
pub mod Comments
pub mod Texts
pub mod Unfinished
pub mod Trees
pub mod Faults
pub mod FaultOrder
pub mod Reading
pub mod Outcome
pub mod Laws
