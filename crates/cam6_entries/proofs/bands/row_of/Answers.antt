use Rattle.std.proofs.Common.{◌≡◌, ℕ, ◌+◌, ◌*◌, ◌<◌, ◌∙◌, ap, sym, subst, arith, refl, get_or, List, [], ◌∷◌}
use Rattle.cam6_planes.specs.Row.{column_bit}
use Rattle.cam6_planes.specs.Side.{side_number}
use Rattle.cam6_planes.specs.declared.sides.Side.{Side}
use Rattle.cam6_planes.specs.declared.sides.Side.TheVariants.{S128, S256, S512}
use Rattle.cam6_lines.specs.Units.{columns, bit_in}
use Rattle.cam6_entries.proofs.UnitRows.{same_two, same_four}
use Rattle.cam6_entries.proofs.BandRows.{in_one, in_two}
use Rattle.cam6_entries.proofs.bands.row_of.Goals as goal

pub returns-in-S128 : goal.returns-in-S128
returns-in-S128 c =
    let a = c.args in
    let words = c.words_of_row.result in
    let unit = get_or a.units.now 0 [] in
    let at : ℕ = words * a.r in
    let row : List ℕ = get_or unit at 0 ∷ get_or unit (at + 1) 0 ∷ 0 ∷ 0 ∷ 0 ∷ 0 ∷ 0 ∷ 0 ∷ [] in
    let e : 64 * words ≡ columns S128 =
    c.words_of_row.ensures.value ∙ ap columns c.in-S128.is in
    subst (λ (z : Side). (x : ℕ) → x < side_number z →
    column_bit row x ≡ bit_in z a.units.now a.r x) (sym c.in-S128.is)
    (in_one a.units.now row S128 words a.r e refl
    (λ k l. same_two row unit 0 (words * a.r) refl refl k (omega (arith, l, e))))

pub returns-in-S256 : goal.returns-in-S256
returns-in-S256 c =
    let a = c.args in
    let words = c.words_of_row.result in
    let unit = get_or a.units.now 0 [] in
    let at : ℕ = words * a.r in
    let row : List ℕ = get_or unit at 0 ∷ get_or unit (at + 1) 0 ∷ get_or unit (at + 2) 0
    ∷ get_or unit (at + 3) 0 ∷ 0 ∷ 0 ∷ 0 ∷ 0 ∷ [] in
    let e : 64 * words ≡ columns S256 =
    c.words_of_row.ensures.value ∙ ap columns c.in-S256.is in
    subst (λ (z : Side). (x : ℕ) → x < side_number z →
    column_bit row x ≡ bit_in z a.units.now a.r x) (sym c.in-S256.is)
    (in_one a.units.now row S256 words a.r e refl
    (λ k l. same_four row unit 0 (words * a.r) refl refl refl refl k (omega (arith, l, e))))

pub returns-in-S512 : goal.returns-in-S512
returns-in-S512 c =
    let a = c.args in
    let words = c.words_of_row.result in
    let first = get_or a.units.now 0 [] in
    let second = get_or a.units.now 1 [] in
    let at : ℕ = words * a.r in
    let row : List ℕ = get_or first at 0 ∷ get_or first (at + 1) 0 ∷ get_or first (at + 2) 0
    ∷ get_or first (at + 3) 0 ∷ get_or second at 0 ∷ get_or second (at + 1) 0
    ∷ get_or second (at + 2) 0 ∷ get_or second (at + 3) 0 ∷ [] in
    let e : 64 * words ≡ columns S512 =
    c.words_of_row.ensures.value ∙ ap columns c.in-S512.is in
    subst (λ (z : Side). (x : ℕ) → x < side_number z →
    column_bit row x ≡ bit_in z a.units.now a.r x) (sym c.in-S512.is)
    (in_two a.units.now row words a.r e
    (λ k l. same_four row first 0 (words * a.r) refl refl refl refl k (omega (arith, l, e)))
    (λ k l. same_four row second 4 (words * a.r) refl refl refl refl k (omega (arith, l, e))))
