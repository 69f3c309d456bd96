-- A machine that was saved on its way back, part by part and row by row.
use Rattle.std.specs.Prelude.{◌≡◌, ℕ, ◌≤◌, true, ◌&&◌, ◌==◌, List, [], nat_lt, slice_index_or}
use Rattle.std.specs.Prelude.{if◌then◌else◌, Some, None, Result, Ok, Err}
use Rattle.std.specs.List.{AllByRecursion}
use Rattle.std.specs.Str.{IsUtf8}
use Rattle.cam6_planes.specs.Row.{byte_column}
use Rattle.cam6_planes.specs.Side.{side_number, side_of}
use Rattle.cam6_planes.specs.declared.sides.Side.{Side}
use Rattle.cam6_planes.specs.Cells.{Cells, torus}
use Rattle.cam6_commands.specs.declared.faults.Fault.{Fault}
use Rattle.cam6_commands.specs.declared.saved.SavedMachine.{SavedMachine}
use Rattle.cam6_model.specs.Refusals.{are_planes, load_refusal}
use Rattle.cam6_rules.specs.Numbers.{entries_of, named_entries, AreNumbered}
use Rattle.cam6_machine.specs.declared.loading.Loaded.{Loaded}
use Rattle.cam6_machine.specs.declared.loading.LoadedPlanes.{LoadedPlanes}

-- the same cells but for the first n rows of plane p, which are these
abbrev pub with_rows : ℕ → Cells → ℕ → ℕ → List (List ℕ) → Cells
with_rows s f p n rows =
    torus s (λ q x y.
    if (q == p) && nat_lt y n then byte_column (slice_index_or rows y []) x else f q x y)

-- the planes of a saved machine, which are within a limit
pub record ArePlanesOf (limit : Side) (saved : SavedMachine) (planes : LoadedPlanes) : Type 0 where
  pub side : side_of saved.side ≡ Some planes.side
  pub within : side_number planes.side ≤ side_number limit
  pub rows : planes.rows ≡ saved.planes
  pub wide : are_planes (side_number planes.side) planes.rows ≡ true

-- what is found of a saved machine that isn't refused under a limit
pub record IsFound (limit : Side) (saved : SavedMachine) (found : Loaded) : Type 0 where
  pub accepted : load_refusal limit saved ≡ None
  pub planes : ArePlanesOf limit saved found.planes
  pub rules : found.rules ≡ saved.rules
  pub texts : AllByRecursion (λ rule. IsUtf8 rule.text) saved.rules
  pub named : named_entries found.rules (entries_of found.cycle) ≡ saved.cycle
  pub numbered : AreNumbered found.rules (entries_of found.cycle)
  pub position : found.position ≡ saved.position
  pub colours : found.colours ≡ saved.colours

-- that, or why it is refused
abbrev pub IsLoaded : Side → SavedMachine → Result Loaded Fault → Type 0
IsLoaded limit saved (Ok found) = IsFound limit saved found
IsLoaded limit saved (Err fault) = load_refusal limit saved ≡ Some fault
