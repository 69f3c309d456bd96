-- Four values that are planes, one by one.
use Rattle.std.specs.Prelude.{⊤}
use Rattle.std.proofs.Common.{◌≡◌, ◌==◌, ℕ, suc, List, [], ◌∷◌, length, false}
use Rattle.std.proofs.Common.{Option, Some, None, IfSome, option_and_then, get_or}
use Rattle.std.proofs.Common.{refl, sym, ap, ◌∙◌, arith}
use Rattle.std.proofs.lemmas.Bool.{ne_eqb}
use Rattle.serde_json.specs.View.{view, items_view}
use Rattle.serde_json.specs.declared.value.Value.{Value}
use Rattle.cam6_wire.specs.Loads.{rows_in, planes_of, of_four}
use Rattle.cam6_wire.proofs.Steps.{of_two}
use Rattle.cam6_wire.proofs.ColourCount.{whatever}

pub four_found : (values : List Value) (t u v w : Value) (a b c d : List (List ℕ)) →
    length values ≡ 4 → t ≡ get_or values 0 t → u ≡ get_or values 1 u → v ≡ get_or values 2 v →
    w ≡ get_or values 3 w → rows_in (view t) ≡ Some a → rows_in (view u) ≡ Some b →
    rows_in (view v) ≡ Some c → rows_in (view w) ≡ Some d →
    Some (a ∷ b ∷ c ∷ d ∷ []) ≡ option_and_then of_four (planes_of (items_view values))
four_found [] t u v w a b c d four i j k l e f g h = absurd (omega (arith, four))
four_found (p ∷ []) t u v w a b c d four i j k l e f g h = absurd (omega (arith, four))
four_found (p ∷ q ∷ []) t u v w a b c d four i j k l e f g h = absurd (omega (arith, four))
four_found (p ∷ q ∷ r ∷ []) t u v w a b c d four i j k l e f g h = absurd (omega (arith, four))
four_found (p ∷ q ∷ r ∷ s ∷ o ∷ more) t u v w a b c d four i j k l e f g h =
    absurd (omega (arith, four))
four_found (p ∷ q ∷ r ∷ s ∷ []) t u v w a b c d four i j k l e f g h =
    let in_p : rows_in (view p) ≡ Some a = ap (λ x. rows_in (view x)) (sym i) ∙ e in
    let in_q : rows_in (view q) ≡ Some b = ap (λ x. rows_in (view x)) (sym j) ∙ f in
    let in_r : rows_in (view r) ≡ Some c = ap (λ x. rows_in (view x)) (sym k) ∙ g in
    let in_s : rows_in (view s) ≡ Some d = ap (λ x. rows_in (view x)) (sym l) ∙ h in
    rw (in_p, in_q, in_r, in_s) refl

as_many : (values : List Value) →
    IfSome (planes_of (items_view values)) (λ planes. length planes ≡ length values)
as_many [] = refl
as_many (value ∷ values) =
    of_two (λ rows. ⊤) (λ planes. length planes ≡ length values)
    (λ planes. length planes ≡ length (value ∷ values)) (λ rows planes. rows ∷ planes)
    (λ rows planes given many. ap suc many) (rows_in (view value))
    (planes_of (items_view values)) (whatever (rows_in (view value))) (as_many values)

pub not_four : (values : List Value) → (length values ≡ 4 → ⊥) →
    None ≡ option_and_then of_four (planes_of (items_view values))
not_four values other = by_planes (planes_of (items_view values)) (as_many values)
  where
    by_planes : (o : Option (List (List (List ℕ)))) →
        IfSome o (λ planes. length planes ≡ length values) → None ≡ option_and_then of_four o
    by_planes None same = refl
    by_planes (Some planes) same =
        let apart : (length planes == 4) ≡ false =
        ne_eqb (length planes) 4 (λ four. other (omega (arith, same, four))) in
        rw apart refl
