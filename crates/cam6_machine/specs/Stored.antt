-- What a machine stores, and the machine that it is.
use Rattle.std.specs.Prelude.{◌≡◌, ◌≤◌, ℕ, List, [], length}
use Rattle.std.specs.List.{AllByRecursion}
use Rattle.cam6_planes.specs.Stored.{Stored}
use Rattle.cam6_planes.specs.declared.sides.Side.{Side}
use Rattle.cam6_planes.specs.Cells.{cells}
use Rattle.cam6_commands.specs.Limits.{cell_states, max_colour}
use Rattle.cam6_cycle.specs.Limits.{max_entries}
use Rattle.cam6_cycle.specs.declared.entries.Entry.{Entry}
use Rattle.cam6_model.specs.Rules.{Rule}
use Rattle.cam6_model.specs.Machine.{Machine, own_colours}
use Rattle.cam6_model.specs.Always.{AreRules, IsEntry, IsPosition}
use Rattle.cam6_rules.specs.Numbers.{named_entries, AreNumbered}

-- what is kept beside the planes: the largest side that they may have, rules in their order, the
-- cycle's entries by the numbers of their rules with a position among them, and a colour for each
-- of the sixteen states of a cell; without entries no cycle is set
pub record StoredKept : Type 0 where
  pub limit : Side
  pub rules : List Rule
  pub cycle : List Entry
  pub position : ℕ
  pub colours : List ℕ

-- that and the planes
pub record StoredMachine : Type 0 where
  pub kept : StoredKept
  pub planes : Stored

-- the machine that has these planes and keeps this beside them
abbrev pub machine_over : Stored → StoredKept → Machine
machine_over planes kept = record {
  side = planes.side;
  limit = kept.limit;
  planes = cells planes;
  rules = kept.rules;
  cycle = named_entries kept.rules kept.cycle;
  position = kept.position;
  colours = kept.colours;
}

-- the machine that is stored
abbrev pub machine_of : StoredMachine → Machine
machine_of stored = machine_over stored.planes stored.kept

-- what a blank machine of this limit keeps
abbrev pub nothing_kept : Side → StoredKept
nothing_kept limit = record {
  limit = limit;
  rules = [];
  cycle = [];
  position = 0;
  colours = own_colours;
}

-- what a machine always keeps: rules that are `AreRules`, a few entries that name them by their
-- numbers, a position among the entries, and a colour for each state of a cell
pub record IsKept (kept : StoredKept) : Type 0 where
  pub rules : AreRules kept.rules
  pub numbered : AreNumbered kept.rules kept.cycle
  pub short : length kept.cycle ≤ max_entries
  pub entries : AllByRecursion (IsEntry kept.rules) (named_entries kept.rules kept.cycle)
  pub position : IsPosition (named_entries kept.rules kept.cycle) kept.position
  pub coloured : length kept.colours ≡ cell_states
  pub colours : AllByRecursion (λ colour. colour ≤ max_colour) kept.colours
