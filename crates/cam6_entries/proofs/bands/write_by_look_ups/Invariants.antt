use Rattle.std.proofs.Common.{◌≡◌, ◌<◌, ◌+◌, ◌*◌, ℕ, length}
use Rattle.cam6_planes.specs.Cells.{Cells}
use Rattle.cam6_wiring.specs.declared.names.Level.TheVariants.{Lower, Upper}
use Rattle.cam6_lines.specs.Bands.{IsBandOf, side_of}
use Rattle.cam6_lines.specs.Limits.{height}
use Rattle.cam6_lines.specs.Units.{columns, bit_in}
use Rattle.cam6_entries.specs.Bands.{new_bit}
use Rattle.cam6_entries.proofs.bands.write_by_look_ups.Given as goal

abbrev pub invariant-loop-unit : goal.invariant-loop-unit
invariant-loop-unit l = record {
  lower_long : length l.lower ≡ 2;
  upper_long : length l.upper ≡ 2;
  lower : (f : Cells) → IsBandOf f l.band → (r x : ℕ) → r < height →
      x < columns l.band.planes.now.side * l.unit → bit_in l.band.planes.now.side l.lower r x
      ≡ new_bit l.entries (side_of l.band) f l.setting l.plan.hood l.plan.minor Lower x (l.band.first + r);
  upper : (f : Cells) → IsBandOf f l.band → (r x : ℕ) → r < height →
      x < columns l.band.planes.now.side * l.unit → bit_in l.band.planes.now.side l.upper r x
      ≡ new_bit l.entries (side_of l.band) f l.setting l.plan.hood l.plan.minor Upper x (l.band.first + r);
}
