-- Lemmas, in the order of reading.

-- The code of a tree, body by body, and what it is for code to do what is meant.
pub mod BodyCodes
-- The code of a body's words in a row is the code of the body.
pub mod Emission
-- Each word of a tree has what it needs of what stands after it.
pub mod Needs
-- Code is no longer than its size allows.
pub mod Lengths
-- Codes one after another, and choices between them.
pub mod Segments
-- The code of a body does what the body means.
pub mod BodiesDo
-- The code of a rule does what the rule means.
pub mod Correct
-- The last code of a rule's definitions is the rule's code.
pub mod LastCode
-- The search for the least address at which a rule stops.
pub mod Stops
-- A true table, read at the address of what is seen, is the rule.
pub mod TrueTables
-- Trees of one rule mean the same.
pub mod OneMeaning
-- What code of the rule that a text was accepted as is to the text.
pub mod RuleTexts
-- What the trial of a text's code says of the text.
pub mod FaultsOfTexts
-- Jumps of flat code: instructions passed over are instructions left out.
pub mod Jumps
-- Code gives one result at two addresses that agree on the lines which it reads.
pub mod LinesRead
-- How many values a stack word wants.
pub mod Wants
-- What holds of the value in each lane so far holds in one lane more.
pub mod EachLane
-- Masks of 16 bits, of which all are 1 or all are 0, choose values.
pub mod ChosenValues
-- What a lane's stack is, after a row was written.
pub mod Columns
-- What a stack with a gap is, after rows were written.
pub mod Gaps
-- Lanes whose stacks were moved have their states.
pub mod Moving
-- What a stack word leaves of a lane's stack.
pub mod LaneWords
-- What a stack word leaves of a stack, whatever is below the part that it reads.
pub mod DeeperStacks
-- What an output word makes of a lane's state.
pub mod LaneOutputs
-- A table is filled: an entry that is put where it is the result makes no other wrong.
pub mod RightEntries
-- In a lane there is left to do the same after its next instruction.
pub mod Outcomes
-- Lanes do instructions in the same way: what is left in each of them.
pub mod StepByStep
-- Lanes part at an IF and at a case: which of them are where afterwards.
pub mod Parting
-- A flow takes others along: what is left in each of their lanes.
pub mod TakenAlong
