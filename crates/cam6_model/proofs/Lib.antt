-- Lemmas, in the order of reading.

-- Names of rules: they are one where their bytes are.
pub mod Names
-- Rules after one was put under its name: what held of them holds.
pub mod KeptNames
-- Rules after one was dropped: what held of them holds.
pub mod DroppedNames
-- The reply to a command and the machine after it, where it is refused and where it is not.
pub mod Refusing
-- What follows of steps on.
pub mod StepLaws
-- What isn't refused leaves a machine; the blank one is one; and a machine's rules run.
pub mod Staying
-- Rules that are defined one after another, each under a new name, after those that are there.
pub mod LoadedRules
-- What is found of a saved machine, part by part: it is one, or a load is refused.
pub mod SavedParts
-- A machine stays a machine, whatever it is commanded, and its limit stays.
pub mod Commanded
-- What a step makes of planes, or a step undone, is a torus.
pub mod StepsOfATorus
-- A machine that may go back has a cycle of which every rule can be undone.
pub mod ReversibleCycles
-- Where the cells of a block lie, and the bits of a block's state.
pub mod BlocksOfCells
-- Planes whose blocks are changed, and what undoes a change of blocks.
pub mod ChangedBlocks
-- Two ways of seeing that agree on the names of a block show one address.
pub mod AddressesOfBlocks
-- What a cell sees in its block is what its corner sees in the block's state.
pub mod SeenInBlocks
-- A step by rules of blocks changes each block as a whole.
pub mod StepsByBlocks
-- The entry at an index of the cycle, and what its rules are.
pub mod RulesOfEntries
-- A step by the tables of an entry's rules is the entry's step, or backward its step undone.
pub mod StepsByTables
-- A step and the step undone give the planes back.
pub mod StepsUndone
-- Steps that are undone change planes and position alone, and leave a machine.
pub mod StepsBack
-- What follows of steps, whichever way they go.
pub mod BothWays
-- Steps along a cycle and steps back along it undo each other.
pub mod RoundAndBack
-- A machine that may go back is, run and then taken back as far, the machine that it was.
pub mod BackUndoes
-- For which commands memory may be wanted: a text is kept, or the reply has rows.
pub mod WantOfMemory
-- Planes whose rows are written one after another.
pub mod RowsPut
-- The bytes of a plane's rows, row by row, and the cells that they show.
pub mod SavedPlanes
-- What is saved of a machine has the parts of one.
pub mod FoundParts
-- A machine is what is loaded of what was saved of it, and nothing else is loaded.
pub mod SavedLaws
-- What a machine and its replies are if others take the place of those that were lost.
pub mod Recoveries
