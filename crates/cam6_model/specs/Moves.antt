-- Both ways along a cycle.
use Rattle.std.specs.Prelude.{ℕ, ◌+◌, ◌-◌, ◌%◌, ⊤}
use Rattle.cam6_planes.specs.Cells.{Cells}
use Rattle.cam6_cycle.specs.declared.tables.Direction.{Direction}
use Rattle.cam6_cycle.specs.declared.tables.Direction.TheVariants.{Forward, Backward}
use Rattle.cam6_model.specs.Cycles.{EntryRules}
use Rattle.cam6_model.specs.Steps.{step}
use Rattle.cam6_model.specs.Undoing.{unstep}
use Rattle.cam6_model.specs.Machine.{Machine, stepped, steps, unstepped, unsteps}
use Rattle.cam6_model.specs.Machine.{IsReversibleCycle}

-- one step this way
abbrev pub one_moved : Direction → Machine → Machine
one_moved Forward m = stepped m
one_moved Backward m = unstepped m

-- so many steps this way
abbrev pub moved : Direction → ℕ → Machine → Machine
moved Forward n m = steps n m
moved Backward n m = unsteps n m

-- a machine can always go forward, and backward if every rule of its cycle can be undone
abbrev pub CanMove : Direction → Machine → Type 0
CanMove Forward m = ⊤
CanMove Backward m = IsReversibleCycle m

-- the planes f after one step this way by an entry, on a torus of s rows and columns
abbrev pub planes_moved : Direction → ℕ → EntryRules → Cells → Cells
planes_moved Forward s entry f = step s entry f
planes_moved Backward s entry f = unstep s entry f

-- the position that lies n steps this way from a position, round a cycle of this length
abbrev pub position_moved : Direction → ℕ → ℕ → ℕ → ℕ
position_moved Forward length n position = (position + n) % length
position_moved Backward length n position = (position + (length - n % length)) % length
