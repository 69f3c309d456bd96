-- Bytes pushed one after another: pixels, and decimal numbers of a byte.
use Rattle.std.proofs.Common.{◌≡◌, ◌≤◌, ◌<◌, ◌+◌, ◌/◌, ◌%◌, ℕ, List, [], ◌∷◌, ◌++◌, Result, Ok, Err}
use Rattle.std.proofs.Common.{IfOk, is_ok, cond, decimal, ap, ◌∙◌, append_assoc, arith}
use Rattle.std.proofs.lemmas.Fmt.{decimal_digit, decimal_step}
use Rattle.cam6_show_pictures.specs.Look.{Look, light_shown}
use Rattle.cam6_show_pictures.specs.Netpbm.{light_bytes}

-- the bytes of a pixel of a row
abbrev pub pixel : Look → List (List ℕ) → ℕ → ℕ → List ℕ
pixel look frame j i = light_bytes (light_shown look frame i j)

module _ {E : Type 0} where
  -- what was pushed, where that went well
  pub pushed : (r : Result (Unit {0}) E) (old new more want : List ℕ) → more ≡ want
      → new ≡ cond (is_ok r) (old ++ more) old → IfOk r (λ _. new ≡ old ++ want)
  pushed (Ok done) old new more want same is = is ∙ ap (λ l. old ++ l) same
  pushed (Err fault) old new more want same is = tt

  -- three pushes
  pub pushed_thrice : (r : Result (Unit {0}) E) (old one two new a b c : List ℕ) → one ≡ old ++ a
      → two ≡ one ++ b → new ≡ cond (is_ok r) (two ++ c) two
      → IfOk r (λ _. new ≡ old ++ ((a ++ b) ++ c))
  pushed_thrice (Ok done) old one two new a b c first second third =
      third ∙ ap (λ l. l ++ c) (second ∙ ap (λ l. l ++ b) first ∙ append_assoc old a b)
      ∙ append_assoc old (a ++ b) c
  pushed_thrice (Err fault) old one two new a b c first second third = tt

pub two_digits : (n : ℕ) → 10 ≤ n → n < 100 → decimal n ≡ (48 + n / 10) ∷ (48 + n % 10) ∷ []
two_digits n least most =
    decimal_step n least (omega arith)
    ∙ ap (λ l. l ++ (48 + n % 10) ∷ []) (decimal_digit (n / 10) (omega arith))

pub three_digits : (n : ℕ) → 100 ≤ n → n < 256
    → decimal n ≡ (48 + n / 100) ∷ (48 + n / 10 % 10) ∷ (48 + n % 10) ∷ []
three_digits n least most =
    let hundreds : n / 10 / 10 ≡ n / 100 = omega arith in
    decimal_step n (omega arith) (omega arith)
    ∙ ap (λ l. l ++ (48 + n % 10) ∷ []) (two_digits (n / 10) (omega arith) (omega arith))
    ∙ ap (λ h. (48 + h) ∷ (48 + n / 10 % 10) ∷ (48 + n % 10) ∷ []) hundreds
