-- What the cells of a band become by a table.
use Rattle.std.specs.Prelude.{ℕ, ◌+◌, ◌<◌, ◌≡◌, Bool, false, List, map, slice_index}
use Rattle.std.specs.Prelude.{if◌then◌else◌, Option, Some, None}
use Rattle.cam6_planes.specs.Cells.{Cells, torus}
use Rattle.cam6_wiring.specs.Lines.{sees_at}
use Rattle.cam6_wiring.specs.Name.{plane_of}
use Rattle.cam6_wiring.specs.Seen.{address, line_shows}
use Rattle.cam6_wiring.specs.Wiring.{names_of}
use Rattle.cam6_wiring.specs.declared.names.Level.{Level}
use Rattle.cam6_wiring.specs.declared.neighbours.Setting.{Setting}
use Rattle.cam6_wiring.specs.declared.wirings.Hood.{Hood}
use Rattle.cam6_wiring.specs.declared.wirings.Minor.{Minor}
use Rattle.cam6_lines.specs.Bands.{side_of}
use Rattle.cam6_lines.specs.Limits.{height}
use Rattle.cam6_lines.specs.Plans.{Asked}
use Rattle.cam6_lines.specs.Units.{bit_in}
use Rattle.cam6_lines.specs.declared.bands.Band.{Band}
use Rattle.cam6_program.specs.Meaning.{bit_by}
use Rattle.cam6_program.specs.Programs.{Steps, keeps}
use Rattle.cam6_entries.specs.NewBits.{bit_for}

-- the new bit of a level at column x of row y of planes f, by the entry at the address that the
-- cell shows
abbrev pub new_bit : List ℕ → ℕ → Cells → Setting → Hood → Minor → Level → ℕ → ℕ → Bool
new_bit entries s f setting hood minor level x y =
    bit_for level (slice_index entries (address s (torus s f) setting hood minor x y))

-- if a half's plane is written, these are its new rows of planes f in the band. If it isn't, each
-- cell of the band keeps its bit
abbrev pub ShowNewBits :
    List ℕ → Cells → Band → Setting → Hood → Minor → Level → Bool → List (List ℕ) → Type 0
ShowNewBits entries f band setting hood minor level is_written rows =
    (r x : ℕ) → r < height → x < side_of band →
    (if is_written then bit_in band.planes.now.side rows r x
    else f (plane_of setting.half level) x (band.first + r))
    ≡ new_bit entries (side_of band) f setting hood minor level x (band.first + r)

-- what the cell at column x of row r of a band sees on its lines, under a plan's wiring
abbrev pub seen_by : Asked → Setting → Cells → Band → ℕ → ℕ → List Bool
seen_by plan setting f band r x =
    map (line_shows (sees_at (side_of band) f setting x (band.first + r)))
    (names_of plan.hood plan.minor)

-- unless the level is kept, the rows have the bits that a program makes of what the cells see
abbrev pub MakesRows : Steps → Asked → Setting → Cells → Band → Level → List (List ℕ) → Type 0
MakesRows program plan setting f band level rows =
    keeps level program ≡ false → (r x : ℕ) → r < height → x < side_of band →
    bit_in band.planes.now.side rows r x ≡ bit_by level program (seen_by plan setting f band r x)

-- the mask of all twelve lines
abbrev pub all_lines : ℕ
all_lines = 4095

-- the mask of the lines that new rows are made of: those for which the program asks, or all of them
-- without a program
abbrev pub asked_by : Option Steps → ℕ
asked_by None = all_lines
asked_by (Some program) = program.asked
