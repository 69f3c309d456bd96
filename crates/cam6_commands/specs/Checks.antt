-- When a number of a command is refused, whatever the machine.
use Rattle.std.specs.Prelude.{ℕ, Bool, nat_lt, nat_le, Option, Some, None, if◌then◌else◌}
use Rattle.cam6_planes.specs.Side.{side_number}
use Rattle.cam6_planes.specs.declared.sides.Side.{Side}
use Rattle.cam6_commands.specs.Limits.{max_mask, max_steps}
use Rattle.cam6_commands.specs.declared.faults.Fault.{Fault}
use Rattle.cam6_commands.specs.declared.faults.Fault.TheVariants.{OutOfRange}

-- a row of a torus of this side, by its number
pub record RowOf : Type 0 where
  pub side : Side
  pub number : ℕ

-- the fault, if a test fails
abbrev pub unless : Bool → Fault → Option Fault
unless ok fault = if ok then None else Some fault

-- planes are 0 to 3
abbrev pub plane_refusal : ℕ → Option Fault
plane_refusal plane = unless (nat_lt plane 4) OutOfRange

-- rows are 0 to below the side
abbrev pub row_refusal : Side → ℕ → Option Fault
row_refusal side row = unless (nat_lt row (side_number side)) OutOfRange

-- a mask has no bit but those of states
abbrev pub mask_refusal : ℕ → Option Fault
mask_refusal mask = unless (nat_le mask max_mask) OutOfRange

-- at most 65,535 steps
abbrev pub steps_refusal : ℕ → Option Fault
steps_refusal n = unless (nat_le n max_steps) OutOfRange
