-- Rows that are looked at together, with the rows beside them.
use Rattle.std.specs.Prelude.{ℕ, ◌≡◌, ◌<◌, ◌≤◌, ◌+◌, ◌-◌}
use Rattle.cam6_planes.specs.Cells.{Cells, cells, IsRow}
use Rattle.cam6_planes.specs.Row.{west_of, east_of}
use Rattle.cam6_planes.specs.Stored.{width}
use Rattle.cam6_lines.specs.Limits.{height}
use Rattle.cam6_lines.specs.declared.bands.Band.{Band}

-- how many columns the band's planes have, and how many rows
abbrev pub side_of : Band → ℕ
side_of band = width band.planes.now

-- the band lies within its planes
abbrev pub IsWithin : Band → Type 0
IsWithin band = band.first + height ≤ side_of band

-- the band has its rows of planes f, the row to its north and the one to its south round the torus
pub record IsBandOf (f : Cells) (band : Band) : Type 0 where
  pub rows : (p x r : ℕ) → p < 4 → x < side_of band → r < height →
      cells band.planes.now p x (band.first + r) ≡ f p x (band.first + r)
  pub north : IsRow (side_of band) f (west_of (side_of band) band.first) band.north.now
  pub south : IsRow (side_of band) f (east_of (side_of band) (band.first + (height - 1)))
      band.south.now
