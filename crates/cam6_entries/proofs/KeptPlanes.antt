-- Planes in which every cell keeps its bit.
use Rattle.std.proofs.Common.{◌≡◌, ℕ, ◌<◌, ◌%◌, ◌∙◌, ap, refl, Bool, true, false, not}
use Rattle.std.proofs.Common.{List, [], map, get_or, Option, Some, None}
use Rattle.std.specs.Bool.{if◌then◌else◌}
use Rattle.std.specs.Option.{is_none}
use Rattle.std.proofs.Math.Nat.{mod-eq_of_lt}
use Rattle.cam6_planes.specs.Cells.{Cells, torus}
use Rattle.cam6_wiring.specs.Lines.{sees_at}
use Rattle.cam6_wiring.specs.Name.{plane_of}
use Rattle.cam6_wiring.specs.Seen.{line_shows}
use Rattle.cam6_wiring.specs.Wiring.{names_of}
use Rattle.cam6_wiring.specs.declared.names.Half.{Half}
use Rattle.cam6_wiring.specs.declared.names.Half.TheVariants.{A, B}
use Rattle.cam6_wiring.specs.declared.names.Level.{Level}
use Rattle.cam6_wiring.specs.declared.names.Level.TheVariants.{Lower, Upper}
use Rattle.cam6_wiring.specs.declared.neighbours.Setting.{Setting}
use Rattle.cam6_wiring.specs.declared.wirings.Hood.{Hood}
use Rattle.cam6_wiring.specs.declared.wirings.Hood.TheVariants.{Moore, VonNeumann, Margolus}
use Rattle.cam6_wiring.specs.declared.wirings.Hood.TheVariants.{MargolusPhase, MargolusHorzVert}
use Rattle.cam6_wiring.specs.declared.wirings.Minor.{Minor}
use Rattle.cam6_program.specs.Meaning.{bit_by, given, after_steps}
use Rattle.cam6_program.specs.Programs.{Steps, number, keeps, source_of}
use Rattle.cam6_program.specs.declared.steps.Source.{Source}
use Rattle.cam6_lines.specs.Units.{asked_for}

given_kept : (level : Level) (bits lines slots : List Bool) (source : Option Source) →
    is_none source ≡ true → given level bits lines slots source ≡ get_or bits (number level) false
given_kept level bits lines slots None none = refl
given_kept level bits lines slots (Some source) none = cc

-- a program that keeps a level makes its bit what the level's line shows
pub bit_kept : (level : Level) (program : Steps) (bits : List Bool) → keeps level program ≡ true →
    bit_by level program bits ≡ get_or bits (number level) false
bit_kept level program bits =
    given_kept level bits (asked_for program.asked bits)
    (after_steps (asked_for program.asked bits) program.steps [])
    (source_of level program)

cell_here : (s : ℕ) (f : Cells) (half : Half) (level : Level) (x y : ℕ) → x < s → y < s →
    torus s f (plane_of half level) x y ≡ f (plane_of half level) x y
cell_here s f A Lower x y h k =
    ap (λ u. f 0 u (y % s)) (mod-eq_of_lt h) ∙ ap (f 0 x) (mod-eq_of_lt k)
cell_here s f A Upper x y h k =
    ap (λ u. f 1 u (y % s)) (mod-eq_of_lt h) ∙ ap (f 1 x) (mod-eq_of_lt k)
cell_here s f B Lower x y h k =
    ap (λ u. f 2 u (y % s)) (mod-eq_of_lt h) ∙ ap (f 2 x) (mod-eq_of_lt k)
cell_here s f B Upper x y h k =
    ap (λ u. f 3 u (y % s)) (mod-eq_of_lt h) ∙ ap (f 3 x) (mod-eq_of_lt k)

-- a level's line shows the cell's own bit
pub own_bit : (s : ℕ) (f : Cells) (setting : Setting) (hood : Hood) (minor : Minor) (level : Level)
    (x y : ℕ) → x < s → y < s →
    get_or (map (line_shows (sees_at s f setting x y)) (names_of hood minor)) (number level) false
    ≡ f (plane_of setting.half level) x y
own_bit s f setting Moore minor Lower x y = cell_here s f setting.half Lower x y
own_bit s f setting Moore minor Upper x y = cell_here s f setting.half Upper x y
own_bit s f setting VonNeumann minor Lower x y = cell_here s f setting.half Lower x y
own_bit s f setting VonNeumann minor Upper x y = cell_here s f setting.half Upper x y
own_bit s f setting Margolus minor Lower x y = cell_here s f setting.half Lower x y
own_bit s f setting Margolus minor Upper x y = cell_here s f setting.half Upper x y
own_bit s f setting MargolusPhase minor Lower x y = cell_here s f setting.half Lower x y
own_bit s f setting MargolusPhase minor Upper x y = cell_here s f setting.half Upper x y
own_bit s f setting MargolusHorzVert minor Lower x y = cell_here s f setting.half Lower x y
own_bit s f setting MargolusHorzVert minor Upper x y = cell_here s f setting.half Upper x y

-- what isn't kept is written
pub not_kept : {A : Type 0} (told kept : Bool) → told ≡ kept → kept ≡ false → not told ≡ false → A
not_kept true true e k n = cc
not_kept true false e k n = cc
not_kept false true e k n = cc
not_kept false false e k n = cc

-- a bit that is written, or else kept
pub written_or_kept : (told kept written own bit : Bool) → told ≡ kept →
    (kept ≡ false → written ≡ bit) → (kept ≡ true → own ≡ bit) →
    (if not told then written else own) ≡ bit
written_or_kept true true written own bit e w k = k refl
written_or_kept true false written own bit e w k = cc
written_or_kept false true written own bit e w k = cc
written_or_kept false false written own bit e w k = w refl
