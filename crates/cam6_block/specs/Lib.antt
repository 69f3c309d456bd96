-- In the order of reading: blocks and what their corners see, and what a rule or a table makes of a
-- block. Then why it can't be undone, the table that undoes it, and a rule's table by direction.
-- Last, what follows.
pub mod Blocks
pub mod BlockMaps
pub mod Refusals
pub mod Inverted
pub mod RuleTables
pub mod Laws
