-- Each name stands on one line, so its line and the lines' names say the same.
use Rattle.std.proofs.Common.{◌≡◌, ℕ, zero, suc, ◌+◌, Bool, true, false, not, ◌&&◌, ◌||◌, List, []}
use Rattle.std.proofs.Common.{◌∷◌, map, get_or, Option, Some, None, cond, refl, sym, ◌∙◌, ap, arith}
use Rattle.std.specs.List.{position_from, list_any}
use Rattle.cam6_wiring.specs.Laws.{LinesAreNamed, IsItselfAlone}
use Rattle.cam6_wiring.specs.Name.{is_same_level, is_same_rotation, is_same_compass, is_same_name}
use Rattle.cam6_wiring.specs.Seen.{Sees, line_shows}
use Rattle.cam6_wiring.specs.Wiring.{is_at, line_of, names_of}
use Rattle.cam6_wiring.specs.declared.names.Compass.{Compass}
use Rattle.cam6_wiring.specs.declared.names.Compass.TheVariants.{Center, North, South, West}
use Rattle.cam6_wiring.specs.declared.names.Compass.TheVariants.{East, NorthWest, NorthEast}
use Rattle.cam6_wiring.specs.declared.names.Compass.TheVariants.{SouthWest, SouthEast}
use Rattle.cam6_wiring.specs.declared.names.Rotation.{Rotation}
use Rattle.cam6_wiring.specs.declared.names.Rotation.TheVariants.{Clockwise, Opposite, CounterClockwise}
use Rattle.cam6_wiring.specs.declared.names.Level.{Level}
use Rattle.cam6_wiring.specs.declared.names.Level.TheVariants.{Lower, Upper}
use Rattle.cam6_wiring.specs.declared.names.Name.{Name}
use Rattle.cam6_wiring.specs.declared.names.Name.TheVariants.{Beside, InBlock, Phase, Horz}
use Rattle.cam6_wiring.specs.declared.names.Name.TheVariants.{Vert, MinorCenter, MinorPhase}
use Rattle.cam6_wiring.specs.declared.names.Name.TheVariants.{MinorHorz, MinorVert}
use Rattle.cam6_wiring.specs.declared.wirings.Hood.{Hood}
use Rattle.cam6_wiring.specs.declared.wirings.Hood.TheVariants.{Moore, VonNeumann, Margolus}
use Rattle.cam6_wiring.specs.declared.wirings.Hood.TheVariants.{MargolusPhase, MargolusHorzVert}
use Rattle.cam6_wiring.specs.declared.wirings.Minor.{Minor}
use Rattle.cam6_wiring.specs.declared.wirings.Minor.TheVariants.{Centers, Phases, HorzVert}
use Rattle.cam6_wiring.proofs.LinesOfNames.{same_name, at_line}

level_itself : (l : Level) → is_same_level l l ≡ true
level_itself Lower = refl
level_itself Upper = refl

rotation_itself : (c : Rotation) → is_same_rotation c c ≡ true
rotation_itself Clockwise = refl
rotation_itself Opposite = refl
rotation_itself CounterClockwise = refl

place_itself : (c : Compass) → is_same_compass c c ≡ true
place_itself Center = refl
place_itself North = refl
place_itself South = refl
place_itself West = refl
place_itself East = refl
place_itself NorthWest = refl
place_itself NorthEast = refl
place_itself SouthWest = refl
place_itself SouthEast = refl

itself : (name : Name) → is_same_name name name ≡ true
itself (Beside c l) = ap (λ b. b && is_same_level l l) (place_itself c) ∙ level_itself l
itself (InBlock c l) = ap (λ b. b && is_same_level l l) (rotation_itself c) ∙ level_itself l
itself (Phase l) = level_itself l
itself Horz = refl
itself Vert = refl
itself (MinorCenter l) = level_itself l
itself (MinorPhase l) = level_itself l
itself MinorHorz = refl
itself MinorVert = refl

pub itself_alone : IsItselfAlone
itself_alone first second = (
  λ same. same_name first second same,
  λ equal. ap (is_same_name first) (sym equal) ∙ itself first,
)

-- the line that shows whether it has this name has it
named_line : (name : Name) (lines : List (Option Name)) (i : ℕ) →
    get_or (map (line_shows (λ known. is_same_name known name)) lines) i false ≡ true →
    get_or lines i None ≡ Some name
named_line name [] i e = cc e
named_line name (None ∷ lines) zero e = cc e
named_line name (Some known ∷ lines) zero e = ap Some (same_name known name e)
named_line name (known ∷ lines) (suc i) e = named_line name lines i e

-- no name stands on two of the lines
is_new : Option Name → List (Option Name) → Bool
is_new None later = true
is_new (Some name) later = not (list_any (is_at name) later)

are_apart : List (Option Name) → Bool
are_apart [] = true
are_apart (known ∷ later) = is_new known later && are_apart later

apart : (hood : Hood) (minor : Minor) → are_apart (names_of hood minor) ≡ true
unfolding are_apart is_new
apart Moore Centers = refl
apart Moore Phases = refl
apart Moore HorzVert = refl
apart VonNeumann Centers = refl
apart VonNeumann Phases = refl
apart VonNeumann HorzVert = refl
apart Margolus Centers = refl
apart Margolus Phases = refl
apart Margolus HorzVert = refl
apart MargolusPhase Centers = refl
apart MargolusPhase Phases = refl
apart MargolusPhase HorzVert = refl
apart MargolusHorzVert Centers = refl
apart MargolusHorzVert Phases = refl
apart MargolusHorzVert HorzVert = refl

is_at_itself : (name : Name) (known : Option Name) → known ≡ Some name → is_at name known ≡ true
is_at_itself name known e = ap (is_at name) e ∙ itself name

or_later : (a b : Bool) → b ≡ true → (a || b) ≡ true
or_later true b h = refl
or_later false b h = h

-- a name on one of the lines is found among them
any_at : (name : Name) (lines : List (Option Name)) (i : ℕ) → get_or lines i None ≡ Some name →
    list_any (is_at name) lines ≡ true
any_at name [] i e = cc e
any_at name (known ∷ lines) zero e =
    ap (λ b. b || list_any (is_at name) lines) (is_at_itself name known e)
any_at name (known ∷ lines) (suc i) e =
    or_later (is_at name known) (list_any (is_at name) lines) (any_at name lines i e)

new_first : (a b : Bool) → (a && b) ≡ true → a ≡ true
new_first true b e = refl
new_first false b e = cc e

apart_later : (a b : Bool) → (a && b) ≡ true → b ≡ true
apart_later true b e = e
apart_later false b e = cc e

-- a line before it has another name
other_at : (name : Name) (known : Option Name) (lines : List (Option Name)) →
    is_new known lines ≡ true → list_any (is_at name) lines ≡ true → (b : Bool) →
    is_at name known ≡ b → is_at name known ≡ false
unfolding is_new
other_at name known lines new later false e = e
other_at name None lines new later true e = cc
other_at name (Some known) lines new later true e =
    let found : list_any (is_at known) lines ≡ true =
    ap (λ n. list_any (is_at n) lines) (same_name known name e) ∙ later in
    cc (new, found)

-- so a name on a line is found at that line
found_from : (name : Name) (lines : List (Option Name)) (start i : ℕ) → are_apart lines ≡ true →
    get_or lines i None ≡ Some name → position_from (is_at name) start lines ≡ Some (start + i)
unfolding are_apart
found_from name [] start i so e = cc e
found_from name (known ∷ lines) start zero so e =
    ap (λ b. cond b (Some start) (position_from (is_at name) (start + 1) lines))
    (is_at_itself name known e) ∙ ap Some (omega arith)
found_from name (known ∷ lines) start (suc i) so e =
    ap (λ b. cond b (Some start) (position_from (is_at name) (start + 1) lines))
    (other_at name known lines (new_first (is_new known lines) (are_apart lines) so)
    (any_at name lines i e) (is_at name known) refl)
    ∙ found_from name lines (start + 1) i (apart_later (is_new known lines) (are_apart lines) so) e
    ∙ ap Some (omega arith)

pub lines_are_named : LinesAreNamed
unfolding line_of
lines_are_named hood minor name line = (
  λ found.
      let names = names_of hood minor in
      let sees : Sees = λ known. is_same_name known name in
      let (k, here, shows) = at_line sees name names 0 line found in
      let same : line ≡ k = omega (arith, here) in
      ap (λ i. get_or names i None) same ∙ named_line name names k (shows ∙ itself name),
  λ named. found_from name (names_of hood minor) 0 line (apart hood minor) named
      ∙ ap Some (omega arith),
)
