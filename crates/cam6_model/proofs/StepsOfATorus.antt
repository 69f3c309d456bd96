-- What a step makes of planes, or a step undone, is a torus.
use Rattle.std.proofs.Common.{◌≡◌, ◌<◌, ℕ, zero, suc, ◌%◌, length, Option, Some, None, slice_get}
use Rattle.std.proofs.Common.{lit≤, refl}
use Rattle.cam6_planes.specs.Cells.{Cells, torus}
use Rattle.cam6_planes.specs.Side.{side_number}
use Rattle.cam6_planes.specs.declared.sides.Side.{Side}
use Rattle.cam6_planes.specs.declared.sides.Side.TheVariants.{S128, S256, S512}
use Rattle.cam6_planes.proofs.CellsAt.{torus_again}
use Rattle.cam6_wiring.specs.Name.{on_plane}
use Rattle.cam6_wiring.specs.declared.blocks.Grid.{Grid}
use Rattle.cam6_wiring.specs.declared.names.Half.{Half}
use Rattle.cam6_cycle.specs.Along.{previous}
use Rattle.cam6_model.specs.Cycles.{EntryRules, rule_for, setting_for, entry_rules}
use Rattle.cam6_model.specs.Steps.{new_cell, step}
use Rattle.cam6_model.specs.Undoing.{changed_cell, blockwise, undone_by, unstep}
use Rattle.cam6_model.specs.Machine.{Machine, stepped_by, stepped, steps}
use Rattle.cam6_model.specs.Machine.{unstepped_by, unstepped, unsteps}
use Rattle.cam6_commands.specs.declared.commands.NamedEntry.{NamedEntry}

pub step_whole : (s : ℕ) (entry : EntryRules) (f : Cells) → 0 < s →
    torus s (step s entry f) ≡ step s entry f
step_whole s entry f some =
    torus_again s (λ p x y. on_plane p (λ half level.
    new_cell s f (setting_for half entry) (rule_for half entry) level x y)) some

pub blockwise_whole : (s : ℕ) (grid : Grid) (changes : Half → Option (ℕ → ℕ)) (f : Cells) →
    0 < s → torus s (blockwise s grid changes f) ≡ blockwise s grid changes f
unfolding blockwise
blockwise_whole s grid changes f some =
    torus_again s (λ p x y. on_plane p (λ half level.
    changed_cell s f grid half (changes half) level x y)) some

pub unstep_whole : (s : ℕ) (entry : EntryRules) (f : Cells) → 0 < s →
    torus s (unstep s entry f) ≡ unstep s entry f
unstep_whole s entry f some =
    blockwise_whole s entry.grid (λ half. undone_by entry.phase (rule_for half entry)) f some

-- each side is some, and even
pub side_some : (side : Side) → 0 < side_number side
side_some S128 = lit≤ tt
side_some S256 = lit≤ tt
side_some S512 = lit≤ tt

pub side_even : (side : Side) → side_number side % 2 ≡ 0
side_even S128 = refl
side_even S256 = refl
side_even S512 = refl

-- planes of a machine's side
abbrev pub AreWhole : Machine → Type 0
AreWhole m = torus (side_number m.side) m.planes ≡ m.planes

by_whole : (o : Option NamedEntry) (m : Machine) → AreWhole m → AreWhole (stepped_by o m)
by_whole None m whole = whole
by_whole (Some entry) m whole =
    step_whole (side_number m.side) (entry_rules m.rules entry) m.planes (side_some m.side)

pub stepped_whole : (m : Machine) → AreWhole m → AreWhole (stepped m)
stepped_whole m whole = by_whole (slice_get m.cycle m.position) m whole

pub steps_whole : (n : ℕ) (m : Machine) → AreWhole m → AreWhole (steps n m)
steps_whole zero m whole = whole
steps_whole (suc n) m whole = stepped_whole (steps n m) (steps_whole n m whole)

back_whole : (position : ℕ) (o : Option NamedEntry) (m : Machine) → AreWhole m →
    AreWhole (unstepped_by position o m)
back_whole position None m whole = whole
back_whole position (Some entry) m whole =
    unstep_whole (side_number m.side) (entry_rules m.rules entry) m.planes (side_some m.side)

pub unstepped_whole : (m : Machine) → AreWhole m → AreWhole (unstepped m)
unstepped_whole m whole =
    let before = previous (length m.cycle) m.position in
    back_whole before (slice_get m.cycle before) m whole

pub unsteps_whole : (n : ℕ) (m : Machine) → AreWhole m → AreWhole (unsteps n m)
unsteps_whole zero m whole = whole
unsteps_whole (suc n) m whole = unstepped_whole (unsteps n m) (unsteps_whole n m whole)
