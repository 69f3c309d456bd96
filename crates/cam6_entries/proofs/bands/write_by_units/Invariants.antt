use Rattle.std.proofs.Common.{◌≡◌, ◌<◌, ◌*◌, ℕ, false, length}
use Rattle.cam6_planes.specs.Cells.{Cells}
use Rattle.cam6_wiring.specs.declared.names.Level.TheVariants.{Lower, Upper}
use Rattle.cam6_lines.specs.Bands.{IsBandOf}
use Rattle.cam6_lines.specs.Limits.{height}
use Rattle.cam6_lines.specs.Units.{columns, bit_in}
use Rattle.cam6_program.specs.Meaning.{bit_by}
use Rattle.cam6_program.specs.Programs.{keeps}
use Rattle.cam6_entries.specs.Bands.{seen_by}
use Rattle.cam6_entries.proofs.bands.write_by_units.Given as goal

abbrev pub invariant-loop-unit : goal.invariant-loop-unit
invariant-loop-unit l = record {
  lower_long : length l.lower ≡ 2;
  upper_long : length l.upper ≡ 2;
  lower : (f : Cells) → IsBandOf f l.band → keeps Lower l.program ≡ false → (r x : ℕ) →
      r < height → x < columns l.band.planes.now.side * l.unit →
      bit_in l.band.planes.now.side l.lower r x ≡ bit_by Lower l.program (seen_by l.plan l.setting f l.band r x);
  upper : (f : Cells) → IsBandOf f l.band → keeps Upper l.program ≡ false → (r x : ℕ) →
      r < height → x < columns l.band.planes.now.side * l.unit →
      bit_in l.band.planes.now.side l.upper r x ≡ bit_by Upper l.program (seen_by l.plan l.setting f l.band r x);
}
