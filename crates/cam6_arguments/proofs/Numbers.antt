-- What the code reads of an option's text is the number there.
use Rattle.std.proofs.Common.{◌≡◌, ◌≤◌, ◌<◌, ◌^◌, ◌&&◌, ℕ, Bool, true, false, cond, Some, None}
use Rattle.std.proofs.Common.{nat_le, nat_lt, refl, sym, ap, ◌∙◌, arith}
use Rattle.std.specs.Str.Parse.{IsNumeral, digits_value, without_leading_plus}
use Rattle.clap.proofs.ValueTestLemmas.{accepts-Accepts, Accepts-accepts}
use Rattle.clap.proofs.WalkLemmas.{both}
use Rattle.clap.specs.Walk.{Text}
use Rattle.clap.specs.Values.{IsUnsignedIn}
use Rattle.clap.specs.ValueTests.{is_unsigned_in}
use Rattle.clap.specs.declared.builder.value_parser.ValueParser.TheVariants.{Unsigned}
use Rattle.cam6_arguments.specs.Values.{number_said}

-- a numeral is its number, if that is in the range
pub number_by_range : (least most n : ℕ) (word : Text) → IsNumeral 10 (without_leading_plus word)
    → digits_value 10 (without_leading_plus word) < 2 ^ 64
    → n ≡ digits_value 10 (without_leading_plus word)
    → number_said least most word ≡ cond (nat_le least n && nat_le n most) (Some n) None
number_by_range least most n word numeral fits is =
    let d = digits_value 10 (without_leading_plus word) in
    let largest : d ≤ 18446744073709551615 = omega arith in
    let test = both _ _ (Accepts-accepts false (Unsigned 0 18446744073709551615) word
    (numeral, fits, omega arith, largest)) in
    let fits_64 = both _ _ test.1 in
    ap (λ b. cond (b && (nat_lt d (2 ^ 64) && (nat_le least d && nat_le d most))) (Some d) None)
    test.0
    ∙ ap (λ b. cond (b && (nat_le least d && nat_le d most)) (Some d) None) fits_64.0
    ∙ ap (λ d. cond (nat_le least d && nat_le d most) (Some d) None) (sym is)

-- a word that is out of any range is no number
pub no_number : (least most : ℕ) (word : Text) → (IsUnsignedIn least most word → ⊥)
    → number_said least most word ≡ None
no_number least most word out = by_test (is_unsigned_in least most word) refl
  where
    by_test : (b : Bool) → is_unsigned_in least most word ≡ b
        → cond b (Some (digits_value 10 (without_leading_plus word))) None ≡ None
    by_test true is = absurd (out (accepts-Accepts false (Unsigned least most) word is))
    by_test false is = refl
