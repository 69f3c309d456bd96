-- In the order of reading: the limit, a step by tables, planes in the middle of a step, and what a
-- band leaves. Then which tables serve a position of a cycle, the lending of planes, and what
-- follows. Which rows an image keeps stands apart: no public contract says it.
pub mod Limits
pub mod ByTables
pub mod Partway
pub mod Next
pub mod AtPosition
pub mod Lending
pub mod Laws
pub mod Internal
