-- The texts of halves, hoods, minors and grids.
use Rattle.std.specs.Prelude.{ℕ, List, codes, if◌then◌else◌, Option, Some, None}
use Rattle.std.specs.Str.{bytes_eq}
use Rattle.cam6_wiring.specs.declared.names.Half.{Half}
use Rattle.cam6_wiring.specs.declared.names.Half.TheVariants.{A, B}
use Rattle.cam6_wiring.specs.declared.wirings.Hood.{Hood}
use Rattle.cam6_wiring.specs.declared.wirings.Hood.TheVariants.{Moore, VonNeumann, Margolus}
use Rattle.cam6_wiring.specs.declared.wirings.Hood.TheVariants.{MargolusPhase, MargolusHorzVert}
use Rattle.cam6_wiring.specs.declared.wirings.Minor.{Minor}
use Rattle.cam6_wiring.specs.declared.wirings.Minor.TheVariants.{Centers, Phases, HorzVert}
use Rattle.cam6_wiring.specs.declared.blocks.Grid.{Grid}
use Rattle.cam6_wiring.specs.declared.blocks.Grid.TheVariants.{Even, Odd}

-- the text of a half
abbrev pub half_text : Half → List ℕ
half_text A = codes "A"
half_text B = codes "B"

-- the text of a neighbourhood
abbrev pub hood_text : Hood → List ℕ
hood_text Moore = codes "N/MOORE"
hood_text VonNeumann = codes "N/VONN"
hood_text Margolus = codes "N/MARG"
hood_text MargolusPhase = codes "N/MARG-PH"
hood_text MargolusHorzVert = codes "N/MARG-HV"

-- the text of a minor assignment
abbrev pub minor_text : Minor → List ℕ
minor_text Centers = codes "&/CENTERS"
minor_text Phases = codes "&/PHASES"
minor_text HorzVert = codes "&/HV"

-- the text of a grid
abbrev pub grid_text : Grid → List ℕ
grid_text Even = codes "EVEN"
grid_text Odd = codes "ODD"

-- the half that a text names
abbrev pub half_named : List ℕ → Option Half
half_named text =
    if bytes_eq text (half_text A) then Some A
    else if bytes_eq text (half_text B) then Some B
    else None

-- the neighbourhood that a text names
abbrev pub hood_named : List ℕ → Option Hood
hood_named text =
    if bytes_eq text (hood_text Moore) then Some Moore
    else if bytes_eq text (hood_text VonNeumann) then Some VonNeumann
    else if bytes_eq text (hood_text Margolus) then Some Margolus
    else if bytes_eq text (hood_text MargolusPhase) then Some MargolusPhase
    else if bytes_eq text (hood_text MargolusHorzVert) then Some MargolusHorzVert
    else None

-- the minor assignment that a text names
abbrev pub minor_named : List ℕ → Option Minor
minor_named text =
    if bytes_eq text (minor_text Centers) then Some Centers
    else if bytes_eq text (minor_text Phases) then Some Phases
    else if bytes_eq text (minor_text HorzVert) then Some HorzVert
    else None

-- the grid that a text names
abbrev pub grid_named : List ℕ → Option Grid
grid_named text =
    if bytes_eq text (grid_text Even) then Some Even
    else if bytes_eq text (grid_text Odd) then Some Odd
    else None
