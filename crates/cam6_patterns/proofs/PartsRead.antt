-- What the parts of a text make of what was read.
use Rattle.std.proofs.Common.{◌≡◌, ◌<◌, ◌≤◌, ◌+◌, ◌-◌, ◌*◌, ◌/◌, ◌%◌, ◌^◌, ℕ, zero, suc, List, [], ◌∷◌, ◌++◌}
use Rattle.std.proofs.Common.{Bool, true, false, Option, Some, None, Result, Ok, Err, length, cond, refl}
use Rattle.std.proofs.Common.{sym, ap, ◌∙◌, arith, subst}
use Rattle.std.specs.Prelude.{decimal, ◌==◌, nat_lt, nat_le, if◌then◌else◌}
use Rattle.std.proofs.lemmas.Bool.{ltb-false, ltb-true, le-ltb, lt-ltb, eqb-true}
use Rattle.std.proofs.lemmas.Bool.Decides.{nat_tests}
use Rattle.std.proofs.lemmas.Fmt.{AppendsLastDigit, decimal_from_appends, length-decimal-le_succ}
use Rattle.cam6_patterns.specs.Pattern.{most_cells}
use Rattle.cam6_patterns.specs.Writing.{counted}
use Rattle.cam6_patterns.specs.Body.{Bounds, Read, Step, more, over, decimal_digit, sign, step}
use Rattle.cam6_patterns.specs.Body.{times, is_counting, and_then, line_read}
use Rattle.cam6_patterns.specs.declared.faults.PatternFault.{PatternFault}
use Rattle.cam6_patterns.specs.declared.faults.Cause.TheVariants.{CountTooLarge}

-- the same rows and cells with this number
abbrev pub counting : Read → Option ℕ → Read
counting r count = record { rows = r.rows; cells = r.cells; count = count }

module _ (b : Bounds) (line : ℕ) where
  -- bytes after others are read after them
  pub append_read : (xs ys : List ℕ) (column : ℕ) (r : Read)
      → line_read b line (xs ++ ys) column r
      ≡ and_then (line_read b line xs column r) (line_read b line ys (column + length xs))
  append_read [] ys column r =
      let same : column ≡ column + 0 = omega arith in
      ap (λ n. line_read b line ys n r) same
  append_read (x ∷ xs) ys column r =
      then_read xs ys column (step b line column r (sign x))
      (λ next. append_read xs ys (column + 1) next)
    where
      then_read : (xs ys : List ℕ) (column : ℕ) (s : Result Step PatternFault)
          → ((next : Read) → line_read b line (xs ++ ys) (column + 1) next
          ≡ and_then (line_read b line xs (column + 1) next)
          (line_read b line ys (column + 1 + length xs)))
          → and_then s (line_read b line (xs ++ ys) (column + 1))
          ≡ and_then (and_then s (line_read b line xs (column + 1)))
          (line_read b line ys (column + suc (length xs)))
      then_read xs ys column (Err e) later = refl
      then_read xs ys column (Ok (over rows)) later = refl
      then_read xs ys column (Ok (more next)) later =
          let same : column + 1 + length xs ≡ column + suc (length xs) = omega arith in
          later next
          ∙ ap (λ n. and_then (line_read b line xs (column + 1) next) (line_read b line ys n)) same

  sign_of_digit : (d : ℕ) → d < 10 → sign (48 + d) ≡ decimal_digit (48 + d - 48)
  sign_of_digit d small =
      let low : nat_le 48 (48 + d) ≡ true = grind (arith, nat_tests) in
      let high : nat_lt (48 + d) 58 ≡ true = grind (arith, nat_tests) in
      rw (low, high) refl

  -- a digit after a number
  pub digit_read : (r : Read) (count : Option ℕ) (d n column : ℕ) → d < 10 → n ≤ most_cells
      → 10 * (if is_counting count then times count else 0) + d ≡ n
      → line_read b line ((48 + d) ∷ []) column (counting r count) ≡ Ok (more (counting r (Some n)))
  digit_read r count d n column small few is =
      let value : 10 * (if is_counting count then times count else 0) + (48 + d - 48) ≡ n =
      omega (arith, is) in
      let fits : nat_lt most_cells n ≡ false = le-ltb most_cells n few in
      ap (λ s. and_then (step b line column (counting r count) s)
      (line_read b line [] (column + 1))) (sign_of_digit d small)
      ∙ ap (λ m. and_then (cond (nat_lt most_cells m) (Err (record {
        line = line;
        column = column;
        cause = CountTooLarge;
      })) (Ok (more (counting r (Some m))))) (line_read b line [] (column + 1))) value
      ∙ ap (λ t. and_then (cond t (Err (record {
        line = line;
        column = column;
        cause = CountTooLarge;
      })) (Ok (more (counting r (Some n))))) (line_read b line [] (column + 1))) fits

-- a number's digits, the last of them apart
abbrev pub digits_by : ℕ → ℕ → List ℕ
digits_by zero n = []
digits_by (suc k) n =
    if nat_lt n 10 then (48 + n) ∷ [] else digits_by k (n / 10) ++ (48 + n % 10) ∷ []

appends : AppendsLastDigit digits_by
appends = record {
  one = λ k n small. rw (lt-ltb n 10 small) refl;
  more = λ k n large. rw (le-ltb n 10 large) refl;
}

pub decimal_is : (n : ℕ) → n ≤ most_cells → decimal n ≡ digits_by (n + 20) n
decimal_is n few =
    let small : n < 2 ^ 64 = omega (arith, few) in
    let short : length (decimal n) ≤ n + 1 = length-decimal-le_succ n small in
    sym (decimal_from_appends digits_by appends (n + 20) n small (omega (arith, short)))

module _ (b : Bounds) (line : ℕ) (r : Read) where
  digits_read : (k n column : ℕ) → n < k → n ≤ most_cells
      → line_read b line (digits_by k n) column (counting r None)
      ≡ Ok (more (counting r (Some n)))
  digits_read zero n column fuel few = absurd (omega (arith, fuel))
  digits_read (suc k) n column fuel few =
      by_size k n column few (nat_lt n 10) refl
      (λ ten. digits_read k (n / 10) column (omega (arith, ten, fuel)) (omega (arith, few)))
    where
      by_size : (k n column : ℕ) → n ≤ most_cells → (t : Bool) → nat_lt n 10 ≡ t
          → (10 ≤ n → line_read b line (digits_by k (n / 10)) column (counting r None)
          ≡ Ok (more (counting r (Some (n / 10)))))
          → line_read b line
          (cond t ((48 + n) ∷ []) (digits_by k (n / 10) ++ (48 + n % 10) ∷ [])) column
          (counting r None) ≡ Ok (more (counting r (Some n)))
      by_size k n column few true small front =
          digit_read b line r None n n column (ltb-true n 10 small) few (omega arith)
      by_size k n column few false large front =
          let at : ℕ = column + length (digits_by k (n / 10)) in
          let ten : 10 ≤ n = ltb-false n 10 large in
          append_read b line (digits_by k (n / 10)) ((48 + n % 10) ∷ []) column (counting r None)
          ∙ ap (λ s. and_then s (line_read b line ((48 + n % 10) ∷ []) at)) (front ten)
          ∙ digit_read b line r (Some (n / 10)) (n % 10) n at (omega arith) few (omega arith)

  -- a number is read as it is written
  pub number_read : (n column : ℕ) → n ≤ most_cells
      → line_read b line (decimal n) column (counting r None) ≡ Ok (more (counting r (Some n)))
  number_read n column few =
      ap (λ ds. line_read b line ds column (counting r None)) (decimal_is n few)
      ∙ digits_read (n + 20) n column (omega arith) few

-- a number that counts so many, as it is left out where it is 1
abbrev pub count_of : ℕ → Option ℕ
count_of n = if n == 1 then None else Some n

pub times_count : (n : ℕ) → times (count_of n) ≡ n
times_count n = by_one n (n == 1) refl
  where
    by_one : (n : ℕ) (t : Bool) → (n == 1) ≡ t → times (cond t None (Some n)) ≡ n
    by_one n true is = sym (eqb-true n 1 is)
    by_one n false is = refl

-- how long a part's number is
abbrev pub number_length : ℕ → ℕ
number_length n = if n == 1 then 0 else length (decimal n)

module _ (b : Bounds) (line : ℕ) (r : Read) where
  -- so many of a sign are read as the sign with that number
  pub part_read : (n letter column : ℕ) (next : Step) → n ≤ most_cells
      → ((at : ℕ) → step b line at (counting r (count_of n)) (sign letter) ≡ Ok next)
      → line_read b line (counted n letter) column (counting r None) ≡ Ok next
  part_read n letter column next few leads = by_one (n == 1) refl
    where
      then_nothing : (s : Step) (at : ℕ) → and_then (Ok s) (line_read b line [] at) ≡ Ok s
      then_nothing (more x) at = refl
      then_nothing (over rows) at = refl

      by_one : (t : Bool) → (n == 1) ≡ t
          → line_read b line (cond t (letter ∷ []) (decimal n ++ letter ∷ [])) column
          (counting r None) ≡ Ok next
      by_one true is =
          let one : step b line column (counting r None) (sign letter) ≡ Ok next =
          subst (λ t. step b line column (counting r (cond t None (Some n))) (sign letter) ≡ Ok next)
          is (leads column) in
          ap (λ s. and_then s (line_read b line [] (column + 1))) one
          ∙ then_nothing next (column + 1)
      by_one false is =
          let at : ℕ = column + length (decimal n) in
          let one : step b line at (counting r (Some n)) (sign letter) ≡ Ok next =
          subst (λ t. step b line at (counting r (cond t None (Some n))) (sign letter) ≡ Ok next)
          is (leads at) in
          append_read b line (decimal n) (letter ∷ []) column (counting r None)
          ∙ ap (λ s. and_then s (line_read b line (letter ∷ []) at)) (number_read b line r n column few)
          ∙ ap (λ s. and_then s (line_read b line [] (at + 1))) one
          ∙ then_nothing next (at + 1)
