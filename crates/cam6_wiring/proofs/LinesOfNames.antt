-- The lines of names, and what an address shows on them.
use Rattle.std.proofs.Common.{◌≡◌, ℕ, zero, suc, ◌+◌, ◌<◌, ◌==◌, Bool, true, false, ◌&&◌, List, []}
use Rattle.std.proofs.Common.{◌∷◌, map, get_or, Option, Some, None, cond, refl, ◌∙◌, ap, arith}
use Rattle.std.specs.List.{position_from}
use Rattle.std.proofs.lemmas.Option.{same_Some}
use Rattle.cam6_planes.specs.Row.{bit_number}
use Rattle.cam6_wiring.specs.Laws.{ShowsWhatIsSeen, ShowsNothingElse}
use Rattle.cam6_wiring.specs.Name.{is_same_level, is_same_rotation, is_same_compass, is_same_name}
use Rattle.cam6_wiring.specs.Seen.{Sees, line_shows, address_of}
use Rattle.cam6_wiring.specs.Wiring.{is_at, line_of, names_of}
use Rattle.cam6_wiring.specs.declared.names.Compass.{Compass}
use Rattle.cam6_wiring.specs.declared.names.Compass.TheVariants.{Center, North, South, West}
use Rattle.cam6_wiring.specs.declared.names.Compass.TheVariants.{East, NorthWest, NorthEast}
use Rattle.cam6_wiring.specs.declared.names.Compass.TheVariants.{SouthWest, SouthEast}
use Rattle.cam6_wiring.specs.declared.names.Rotation.{Rotation}
use Rattle.cam6_wiring.specs.declared.names.Rotation.TheVariants.{Clockwise, Opposite, CounterClockwise}
use Rattle.cam6_wiring.specs.declared.names.Level.{Level}
use Rattle.cam6_wiring.specs.declared.names.Level.TheVariants.{Lower, Upper}
use Rattle.cam6_wiring.specs.declared.names.Name.{Name}
use Rattle.cam6_wiring.specs.declared.names.Name.TheVariants.{Beside, InBlock, Phase, Horz}
use Rattle.cam6_wiring.specs.declared.names.Name.TheVariants.{Vert, MinorCenter, MinorPhase}
use Rattle.cam6_wiring.specs.declared.names.Name.TheVariants.{MinorHorz, MinorVert}
use Rattle.cam6_wiring.specs.declared.wirings.Hood.{Hood}
use Rattle.cam6_wiring.specs.declared.wirings.Hood.TheVariants.{Moore, VonNeumann, Margolus}
use Rattle.cam6_wiring.specs.declared.wirings.Hood.TheVariants.{MargolusPhase, MargolusHorzVert}
use Rattle.cam6_wiring.specs.declared.wirings.Minor.{Minor}
use Rattle.cam6_wiring.proofs.Numbers.{bit_at-number_of, number_of-below_4096, length-names_of}

same_level : (l m : Level) → is_same_level l m ≡ true → l ≡ m
same_level Lower Lower e = refl
same_level Upper Upper e = refl
same_level _ _ e = cc

same_rotation : (c d : Rotation) → is_same_rotation c d ≡ true → c ≡ d
same_rotation Clockwise Clockwise e = refl
same_rotation Opposite Opposite e = refl
same_rotation CounterClockwise CounterClockwise e = refl
same_rotation _ _ e = cc

same_place : (c d : Compass) → is_same_compass c d ≡ true → c ≡ d
same_place Center Center e = refl
same_place North North e = refl
same_place South South e = refl
same_place West West e = refl
same_place East East e = refl
same_place NorthWest NorthWest e = refl
same_place NorthEast NorthEast e = refl
same_place SouthWest SouthWest e = refl
same_place SouthEast SouthEast e = refl
same_place _ _ e = cc

left_true : (a b : Bool) → (a && b) ≡ true → a ≡ true
left_true true b e = refl
left_true false b e = cc

right_true : (a b : Bool) → (a && b) ≡ true → b ≡ true
right_true true b e = e
right_true false b e = cc

pub same_name : (known name : Name) → is_same_name known name ≡ true → known ≡ name
same_name (Beside c l) (Beside d m) e =
    ap (λ place. Beside place l) (same_place c d (left_true _ _ e)) ∙
    ap (λ level. Beside d level) (same_level l m (right_true (is_same_compass c d) _ e))
same_name (InBlock c l) (InBlock d m) e =
    ap (λ rotation. InBlock rotation l) (same_rotation c d (left_true _ _ e)) ∙
    ap (λ level. InBlock d level) (same_level l m (right_true (is_same_rotation c d) _ e))
same_name (Phase l) (Phase m) e = ap Phase (same_level l m e)
same_name Horz Horz e = refl
same_name Vert Vert e = refl
same_name (MinorCenter l) (MinorCenter m) e = ap MinorCenter (same_level l m e)
same_name (MinorPhase l) (MinorPhase m) e = ap MinorPhase (same_level l m e)
same_name MinorHorz MinorHorz e = refl
same_name MinorVert MinorVert e = refl
same_name _ _ e = cc

-- a line that has the name shows what is seen under it
line_is : (sees : Sees) (name : Name) (known : Option Name) → is_at name known ≡ true →
    line_shows sees known ≡ sees name
line_is sees name None e = cc
line_is sees name (Some known) e = ap sees (same_name known name e)

-- the found line shows it, where it is the first of the lines or, if not, where the later ones do
at_first : (sees : Sees) (name : Name) (known : Option Name) (lines : List (Option Name))
    (start line : ℕ) (b : Bool) → is_at name known ≡ b →
    cond b (Some start) (position_from (is_at name) (start + 1) lines) ≡ Some line →
    (position_from (is_at name) (start + 1) lines ≡ Some line →
    (k : ℕ) × (line ≡ start + 1 + k) × (get_or (map (line_shows sees) lines) k false ≡ sees name)) →
    (k : ℕ) × (line ≡ start + k) ×
    (get_or (line_shows sees known ∷ map (line_shows sees) lines) k false ≡ sees name)
at_first sees name known lines start line true e found later =
    (0, omega (arith, same_Some start line found), line_is sees name known e)
at_first sees name known lines start line false e found later =
    let (k, here, shows) = later found in
    (suc k, omega (arith, here), shows)

-- the line that is found from a start on shows what is seen under the name
pub at_line : (sees : Sees) (name : Name) (lines : List (Option Name)) (start line : ℕ) →
    position_from (is_at name) start lines ≡ Some line →
    (k : ℕ) × (line ≡ start + k) × (get_or (map (line_shows sees) lines) k false ≡ sees name)
at_line sees name [] start line found = cc
at_line sees name (known ∷ lines) start line found =
    at_first sees name known lines start line (is_at name known) refl found
    (λ later. at_line sees name lines (start + 1) line later)

pub bit_number-one : (b : Bool) → (bit_number b == 1) ≡ b
bit_number-one true = refl
bit_number-one false = refl

pub shows_what_is_seen : ShowsWhatIsSeen
unfolding address_of line_of
shows_what_is_seen hood minor sees name line found =
    let bits = map (line_shows sees) (names_of hood minor) in
    let (k, here, shows) = at_line sees name (names_of hood minor) 0 line found in
    let same : line ≡ k = omega (arith, here) in
    ap (λ n. n == 1) (bit_at-number_of bits line) ∙ bit_number-one (get_or bits line false) ∙
    ap (λ i. get_or bits i false) same ∙ shows

-- a line without a name shows nothing, and neither does one past the last
blank_line : (sees : Sees) (lines : List (Option Name)) (i : ℕ) → get_or lines i None ≡ None →
    get_or (map (line_shows sees) lines) i false ≡ false
blank_line sees [] i e = refl
blank_line sees (known ∷ lines) zero e = ap (line_shows sees) e
blank_line sees (known ∷ lines) (suc i) e = blank_line sees lines i e

pub shows_nothing_else : ShowsNothingElse
unfolding address_of
shows_nothing_else hood minor sees line blank =
    let bits = map (line_shows sees) (names_of hood minor) in
    ap (λ n. n == 1) (bit_at-number_of bits line) ∙ bit_number-one (get_or bits line false) ∙
    blank_line sees (names_of hood minor) line blank

pub address_of-lt : (hood : Hood) (minor : Minor) (sees : Sees) → address_of hood minor sees < 4096
unfolding address_of
address_of-lt hood minor sees =
    number_of-below_4096 (line_shows sees) (names_of hood minor)
    (omega (arith, length-names_of hood minor))

pub line_of-center : (hood : Hood) (minor : Minor) →
    line_of hood minor (Beside Center Lower) ≡ Some 0
unfolding line_of
line_of-center Moore minor = refl
line_of-center VonNeumann minor = refl
line_of-center Margolus minor = refl
line_of-center MargolusPhase minor = refl
line_of-center MargolusHorzVert minor = refl

pub line_of-center_upper : (hood : Hood) (minor : Minor) →
    line_of hood minor (Beside Center Upper) ≡ Some 1
unfolding line_of
line_of-center_upper Moore minor = refl
line_of-center_upper VonNeumann minor = refl
line_of-center_upper Margolus minor = refl
line_of-center_upper MargolusPhase minor = refl
line_of-center_upper MargolusHorzVert minor = refl
