-- What the text of every side has.
use Rattle.std.proofs.Common.{◌≡◌, Bool, true, false, ◌||◌, List, ℕ, Some, sym, ap, refl}
use Rattle.std.specs.List.{list_any}
use Rattle.std.specs.Str.{bytes_eq}
use Rattle.std.proofs.lemmas.Slice.Eq.{bytes_eq-Decides}
use Rattle.std.specs.Fmt.{decimal, digits}
use Rattle.cam6_planes.specs.Side.{side_named, side_number, side_text, side_texts}
use Rattle.cam6_planes.specs.declared.sides.Side.{Side}
use Rattle.cam6_planes.specs.declared.sides.Side.TheVariants.{S128, S256, S512}

-- it is the side's number in decimal digits
pub text_is_decimal : (side : Side) → side_text side ≡ decimal (side_number side)
unfolding digits
text_is_decimal S128 = refl
text_is_decimal S256 = refl
text_is_decimal S512 = refl

-- a text that is one of theirs names a side
abbrev pub NamesSide : List ℕ → Type 0
NamesSide text = (side : Side) × (side_named text ≡ Some side)

pub one_of_texts : (text : List ℕ) → list_any (λ one. bytes_eq one text) side_texts ≡ true
    → NamesSide text
one_of_texts text among = by_first (bytes_eq (side_text S128) text) refl among
  where
    by_third : (b : Bool) → bytes_eq (side_text S512) text ≡ b → b || false ≡ true → NamesSide text
    by_third true is passes =
        (S512, ap side_named (sym ((bytes_eq-Decides (side_text S512) text).0 is)))
    by_third false is passes = let never : ⊥ = cc in absurd never

    by_second : (b : Bool) → bytes_eq (side_text S256) text ≡ b
        → b || (bytes_eq (side_text S512) text || false) ≡ true → NamesSide text
    by_second true is passes =
        (S256, ap side_named (sym ((bytes_eq-Decides (side_text S256) text).0 is)))
    by_second false is passes = by_third (bytes_eq (side_text S512) text) refl passes

    by_first : (b : Bool) → bytes_eq (side_text S128) text ≡ b
        → b || (bytes_eq (side_text S256) text || (bytes_eq (side_text S512) text || false)) ≡ true
        → NamesSide text
    by_first true is passes =
        (S128, ap side_named (sym ((bytes_eq-Decides (side_text S128) text).0 is)))
    by_first false is passes = by_second (bytes_eq (side_text S256) text) refl passes
