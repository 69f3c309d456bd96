-- The names on a half's twelve address lines.
use Rattle.std.specs.Prelude.{ℕ, Bool, true, false, List, [], ◌∷◌, ◌++◌, Option, Some, None}
use Rattle.std.specs.List.{position_from}
use Rattle.cam6_wiring.specs.declared.names.Compass.{Compass}
use Rattle.cam6_wiring.specs.declared.names.Compass.TheVariants.{Center, North, South, West}
use Rattle.cam6_wiring.specs.declared.names.Compass.TheVariants.{East, NorthWest, NorthEast}
use Rattle.cam6_wiring.specs.declared.names.Compass.TheVariants.{SouthWest, SouthEast}
use Rattle.cam6_wiring.specs.declared.names.Rotation.TheVariants.{Clockwise, Opposite, CounterClockwise}
use Rattle.cam6_wiring.specs.declared.names.Level.TheVariants.{Lower, Upper}
use Rattle.cam6_wiring.specs.declared.names.Name.{Name}
use Rattle.cam6_wiring.specs.declared.names.Name.TheVariants.{Beside, InBlock, Phase, Horz}
use Rattle.cam6_wiring.specs.declared.names.Name.TheVariants.{Vert, MinorCenter, MinorPhase}
use Rattle.cam6_wiring.specs.declared.names.Name.TheVariants.{MinorHorz, MinorVert}
use Rattle.cam6_wiring.specs.declared.names.Half.{Half}
use Rattle.cam6_wiring.specs.declared.wirings.Wiring.{Wiring}
use Rattle.cam6_wiring.specs.declared.wirings.Hood.{Hood}
use Rattle.cam6_wiring.specs.declared.wirings.Hood.TheVariants.{Moore, VonNeumann, Margolus}
use Rattle.cam6_wiring.specs.declared.wirings.Hood.TheVariants.{MargolusPhase, MargolusHorzVert}
use Rattle.cam6_wiring.specs.declared.wirings.Minor.{Minor}
use Rattle.cam6_wiring.specs.declared.wirings.Minor.TheVariants.{Centers, Phases, HorzVert}
use Rattle.cam6_wiring.specs.Name.{is_same_name}

-- a name without a prime: it reads the half's lower plane
abbrev pub lower : Compass → Option Name
lower compass = Some (Beside compass Lower)

-- a name with a prime: it reads the half's upper plane
abbrev pub upper : Compass → Option Name
upper compass = Some (Beside compass Upper)

-- lines 0 to 7 of the Margolus neighbourhoods, and then these
abbrev pub block_names : List (Option Name) → List (Option Name)
block_names last =
    lower Center ∷ upper Center
    ∷ Some (InBlock Clockwise Lower) ∷ Some (InBlock CounterClockwise Lower)
    ∷ Some (InBlock Opposite Lower)
    ∷ Some (InBlock Clockwise Upper) ∷ Some (InBlock CounterClockwise Upper)
    ∷ Some (InBlock Opposite Upper)
    ∷ last

-- lines 0 to 9
abbrev pub hood_names : Hood → List (Option Name)
hood_names Moore =
    lower Center ∷ upper Center ∷ lower North ∷ lower South ∷ lower West ∷ lower East
    ∷ lower NorthWest ∷ lower NorthEast ∷ lower SouthWest ∷ lower SouthEast ∷ []
hood_names VonNeumann =
    lower Center ∷ upper Center ∷ lower North ∷ lower South ∷ lower West ∷ lower East
    ∷ upper North ∷ upper South ∷ upper West ∷ upper East ∷ []
hood_names Margolus = block_names (None ∷ None ∷ [])
hood_names MargolusPhase = block_names (Some (Phase Lower) ∷ Some (Phase Upper) ∷ [])
hood_names MargolusHorzVert = block_names (Some Horz ∷ Some Vert ∷ [])

-- lines 10 and 11
abbrev pub minor_names : Minor → List (Option Name)
minor_names Centers = Some (MinorCenter Lower) ∷ Some (MinorCenter Upper) ∷ []
minor_names Phases = Some (MinorPhase Lower) ∷ Some (MinorPhase Upper) ∷ []
minor_names HorzVert = Some MinorHorz ∷ Some MinorVert ∷ []

-- the name of each line, the lowest line first, if it has one
abbrev pub names_of : Hood → Minor → List (Option Name)
names_of hood minor = hood_names hood ++ minor_names minor

-- whether a line has this name
abbrev pub is_at : Name → Option Name → Bool
is_at name None = false
is_at name (Some known) = is_same_name known name

-- the line of a name, if the wiring has the name
unfoldable pub line_of : Hood → Minor → Name → Option ℕ
line_of hood minor name = position_from (is_at name) 0 (names_of hood minor)

-- a half with the names on its lines
abbrev pub wired : Half → Hood → Minor → Wiring
wired half hood minor = record { half = half; hood = hood; minor = minor }

-- whether each cell belongs to a block under this neighbourhood
abbrev pub is_margolus : Hood → Bool
is_margolus Moore = false
is_margolus VonNeumann = false
is_margolus Margolus = true
is_margolus MargolusPhase = true
is_margolus MargolusHorzVert = true
