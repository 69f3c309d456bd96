-- In the order of reading: faults and limits, what words do to a stack, what a rule puts out, what
-- a rule means, and what a table is to it. Then what flat code does, what code and a table are to
-- a rule's text, what can be wrong in a text, and what a cell becomes by a table. Last, the laws
-- that tie them. How a rule becomes code, which lines code reads, how it is run in lanes and how a
-- table is filled stand apart: no public contract says it.
pub mod Faults
pub mod Limits
pub mod Words
pub mod Outputs
pub mod Meaning
pub mod Tables
pub mod Codes
pub mod RuleTexts
pub mod Compiling
pub mod Laws
pub mod Internal
