-- The rows that a half gets for a band.
use Rattle.std.specs.Prelude.{ℕ, ◌+◌, Bool, if◌then◌else◌}
use Rattle.cam6_planes.specs.Cells.{Cells}
use Rattle.cam6_planes.specs.declared.sides.Side.{Side}
use Rattle.cam6_lines.specs.Units.{bit_in}
use Rattle.cam6_wiring.specs.declared.names.Level.{Level}
use Rattle.cam6_wiring.specs.declared.names.Level.TheVariants.{Lower, Upper}
use Rattle.cam6_band.specs.declared.half_rows.HalfRows.{HalfRows}
use Rattle.cam6_band.specs.declared.half_rows.PlaneRows.{PlaneRows}

-- those of the plane of a level
abbrev pub rows_of : Level → HalfRows → PlaneRows
rows_of Lower half = half.lower
rows_of Upper half = half.upper

-- the bit of plane p at column x of row r of the band from row y on, after the rows are put into
-- planes g
abbrev pub bit_put : Side → PlaneRows → Cells → ℕ → ℕ → ℕ → ℕ → Bool
bit_put side plane g p x y r =
    if plane.is_written then bit_in side plane.rows r x else g p x (y + r)
