-- Parts: eighteen rows of a unit's columns. The first is of the row to the north of a band, and the
-- last of the row to its south.
use Rattle.std.specs.Prelude.{ℕ, ◌≡◌, ◌<◌, ◌≤◌, ◌+◌, ◌-◌, ◌*◌, List}
use Rattle.cam6_planes.specs.Cells.{Cells, torus}
use Rattle.cam6_planes.specs.Row.{column_bit, west_of}
use Rattle.cam6_wiring.specs.Lines.{sees_at}
use Rattle.cam6_wiring.specs.Seen.{seen_beside, seen_in_block}
use Rattle.cam6_wiring.specs.declared.blocks.Grid.{Grid}
use Rattle.cam6_wiring.specs.declared.names.Rotation.{Rotation}
use Rattle.cam6_wiring.specs.declared.names.Compass.{Compass}
use Rattle.cam6_wiring.specs.declared.names.Compass.TheVariants.{Center, North, South, West}
use Rattle.cam6_wiring.specs.declared.names.Compass.TheVariants.{East, NorthWest, NorthEast}
use Rattle.cam6_wiring.specs.declared.names.Compass.TheVariants.{SouthWest, SouthEast}
use Rattle.cam6_wiring.specs.declared.names.Name.{Name}
use Rattle.cam6_wiring.specs.declared.names.Name.TheVariants as name
use Rattle.cam6_wiring.specs.declared.neighbours.Setting.{Setting}
use Rattle.cam6_lines.specs.Bands.{side_of}
use Rattle.cam6_lines.specs.Limits.{height}
use Rattle.cam6_lines.specs.Units.{columns, place}
use Rattle.cam6_lines.specs.declared.bands.Band.{Band}

-- the first row of a part from which cells can look in this direction within the eighteen rows
abbrev pub first_beside : Compass → ℕ
first_beside Center = 0
first_beside North = 1
first_beside South = 1
first_beside West = 0
first_beside East = 0
first_beside NorthWest = 1
first_beside NorthEast = 1
first_beside SouthWest = 1
first_beside SouthEast = 1

-- the first row of a part that is made for a name; as many rows are left out at its end
abbrev pub first_row : Name → ℕ
first_row (name.Beside compass level) = first_beside compass
first_row _ = 1

-- the row of the planes that row j of a part comes from
abbrev pub row_above : Band → ℕ → ℕ
row_above band j = west_of (side_of band) (band.first + j)

-- these words show what the cells of the unit see under a name in row j of a part
abbrev pub ShowsRow : Cells → Setting → Name → Band → ℕ → ℕ → List ℕ → Type 0
ShowsRow f setting name band unit j words =
    let side = band.planes.now.side in (i : ℕ) → i < columns side →
    column_bit words i
    ≡ sees_at (side_of band) f setting (columns side * unit + i) (row_above band j) name

-- these words show it in each row that is made
abbrev pub ShowsPart : Cells → Setting → Name → Band → ℕ → List ℕ → Type 0
ShowsPart f setting name band unit part =
    let side = band.planes.now.side in
    (j i : ℕ) → first_row name ≤ j → j < height + 2 - first_row name → i < columns side →
    column_bit part (place side j i)
    ≡ sees_at (side_of band) f setting (columns side * unit + i) (row_above band j) name

-- these words show, in each row of a part, what lies in this direction in plane p
abbrev pub ShowsBeside : Cells → Compass → ℕ → Band → ℕ → List ℕ → Type 0
ShowsBeside f compass p band unit part =
    let side = band.planes.now.side in
    (j i : ℕ) → j < height + 2 → i < columns side → column_bit part (place side j i)
    ≡ seen_beside (side_of band) (torus (side_of band) f) compass p (columns side * unit + i)
    (row_above band j)

-- and, in each row of the band, what lies in the cells' blocks at this rotation
abbrev pub ShowsInBlock : Cells → Grid → Rotation → ℕ → Band → ℕ → List ℕ → Type 0
ShowsInBlock f grid rotation p band unit part =
    let side = band.planes.now.side in
    (j i : ℕ) → 1 ≤ j → j < height + 1 → i < columns side → column_bit part (place side j i)
    ≡ seen_in_block (side_of band) (torus (side_of band) f) grid rotation p
    (columns side * unit + i) (row_above band j)

-- they show it in the rows before row end

abbrev pub ShowsRowsBeside : Cells → Compass → ℕ → Band → ℕ → ℕ → List ℕ → Type 0
ShowsRowsBeside f compass p band unit end part =
    let side = band.planes.now.side in
    (j i : ℕ) → 0 ≤ j → j < end → i < columns side → column_bit part (place side j i)
    ≡ seen_beside (side_of band) (torus (side_of band) f) compass p (columns side * unit + i)
    (row_above band j)

abbrev pub ShowsRowsInBlock : Cells → Grid → Rotation → ℕ → Band → ℕ → ℕ → List ℕ → Type 0
ShowsRowsInBlock f grid rotation p band unit end part =
    let side = band.planes.now.side in
    (j i : ℕ) → 1 ≤ j → j < end → i < columns side → column_bit part (place side j i)
    ≡ seen_in_block (side_of band) (torus (side_of band) f) grid rotation p
    (columns side * unit + i) (row_above band j)
