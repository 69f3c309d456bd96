-- The machine that a user has, and steps along its cycle.
use Rattle.std.specs.Prelude.{ℕ, zero, suc, ◌+◌, ◌%◌, List, [], ◌∷◌, length, Option, Some, None}
use Rattle.std.specs.List.{slice_get, AllByRecursion}
use Rattle.cam6_planes.specs.Side.{side_number}
use Rattle.cam6_planes.specs.declared.sides.Side.{Side}
use Rattle.cam6_planes.specs.declared.sides.Side.TheVariants.{S128, S256, S512}
use Rattle.cam6_planes.specs.Cells.{Cells, no_cells}
use Rattle.cam6_cycle.specs.Along.{previous}
use Rattle.cam6_model.specs.Rules.{Rule}
use Rattle.cam6_model.specs.Cycles.{entry_rules}
use Rattle.cam6_model.specs.Steps.{step}
use Rattle.cam6_model.specs.Undoing.{unstep, IsReversibleEntry}
use Rattle.cam6_commands.specs.declared.commands.NamedEntry.{NamedEntry}

-- four planes on a torus of this side, the largest side that it may change to, rules in their
-- order, the cycle's entries with a position among them, and a colour for each of the sixteen
-- states of a cell; without entries no cycle is set
pub record Machine : Type 0 where
  pub side : Side
  pub limit : Side
  pub planes : Cells
  pub rules : List Rule
  pub cycle : List NamedEntry
  pub position : ℕ
  pub colours : List ℕ

-- each state has its own number as its colour
abbrev pub own_colours : List ℕ
own_colours =
    0 ∷ 1 ∷ 2 ∷ 3 ∷ 4 ∷ 5 ∷ 6 ∷ 7 ∷ 8 ∷ 9 ∷ 10 ∷ 11 ∷ 12 ∷ 13 ∷ 14 ∷ 15 ∷ []

-- the lesser of 256 and the limit
abbrev pub first_side : Side → Side
first_side S128 = S128
first_side S256 = S256
first_side S512 = S256

-- a machine of this limit to begin with: no cell is set, and there are no rules and no cycle
abbrev pub blank : Side → Machine
blank limit = record {
  side = first_side limit;
  limit = limit;
  planes = no_cells;
  rules = [];
  cycle = [];
  position = 0;
  colours = own_colours;
}

-- one step by this entry; the position moves on by one, round the cycle
abbrev pub stepped_by : Option NamedEntry → Machine → Machine
stepped_by None m = m
stepped_by (Some entry) m =
    record m {
      planes = step (side_number m.side) (entry_rules m.rules entry) m.planes;
      position = (m.position + 1) % length m.cycle;
    }

-- one step by the entry at the position
abbrev pub stepped : Machine → Machine
stepped m = stepped_by (slice_get m.cycle m.position) m

-- so many steps
abbrev pub steps : ℕ → Machine → Machine
steps zero m = m
steps (suc n) m = stepped (steps n m)

-- the step by this entry undone; the position becomes the entry's
abbrev pub unstepped_by : ℕ → Option NamedEntry → Machine → Machine
unstepped_by position None m = m
unstepped_by position (Some entry) m =
    record m {
      planes = unstep (side_number m.side) (entry_rules m.rules entry) m.planes;
      position = position;
    }

-- one step undone: that of the entry before the position, round the cycle
abbrev pub unstepped : Machine → Machine
unstepped m =
    let before = previous (length m.cycle) m.position in
    unstepped_by before (slice_get m.cycle before) m

-- so many steps undone
abbrev pub unsteps : ℕ → Machine → Machine
unsteps zero m = m
unsteps (suc n) m = unstepped (unsteps n m)

-- every rule of the cycle can be undone
abbrev pub IsReversibleCycle : Machine → Type 0
IsReversibleCycle m =
    AllByRecursion (λ entry. IsReversibleEntry (entry_rules m.rules entry)) m.cycle
