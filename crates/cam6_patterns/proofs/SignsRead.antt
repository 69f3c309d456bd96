-- The signs of a text say what they were written for, and none of them is an LF.
use Rattle.std.proofs.Common.{◌≡◌, ◌≢◌, ◌<◌, ◌≤◌, ◌+◌, ◌-◌, ◌/◌, ◌%◌, ◌∙◌, ◌++◌}
use Rattle.std.proofs.Common.{ℕ, zero, suc, List, [], ◌∷◌, Bool, true, false, Option, None}
use Rattle.std.proofs.Common.{Ok, length, replicate, cond, refl, sym, ap, subst, arith, ne_eqb, length-append}
use Rattle.std.specs.Prelude.{decimal, ◌==◌, nat_lt, nat_le}
use Rattle.std.proofs.lemmas.Bool.{leb-true, le-ltb, lt-ltb, le-leb, lt-leb}
use Rattle.std.proofs.lemmas.Bool.{eqb-true, eqb-false}
use Rattle.std.proofs.lemmas.List.{length-replicate}
use Rattle.cam6_patterns.specs.Pattern.{most_cells}
use Rattle.cam6_patterns.specs.Writing.{letter, counted}
use Rattle.cam6_patterns.specs.Body.{Bounds, more, cell, row_end, sign, step, times}
use Rattle.cam6_patterns.proofs.Each.{each_append}
use Rattle.cam6_patterns.proofs.PartsRead.{digits_by, decimal_is}
use Rattle.cam6_patterns.proofs.LinesRead.{NoLf}

-- a letter from A to X is a cell
upper_sign : (b : ℕ) → 65 ≤ b → b < 89 → sign b ≡ cell (b - 64)
upper_sign b low high =
    let from : nat_le 48 b ≡ true = le-leb 48 b (omega (arith, low)) in
    let no_digit : nat_lt b 58 ≡ false = le-ltb b 58 (omega (arith, low)) in
    let no_space : (b == 32) ≡ false = ne_eqb b 32 (omega (arith, low)) in
    let no_tab : (b == 9) ≡ false = ne_eqb b 9 (omega (arith, low)) in
    let no_return : (b == 13) ≡ false = ne_eqb b 13 (omega (arith, low)) in
    let no_end_of_row : (b == 36) ≡ false = ne_eqb b 36 (omega (arith, low)) in
    let no_end : (b == 33) ≡ false = ne_eqb b 33 (omega (arith, low)) in
    let no_b : (b == 98) ≡ false = ne_eqb b 98 (omega (arith, high)) in
    let no_dot : (b == 46) ≡ false = ne_eqb b 46 (omega (arith, low)) in
    let no_o : (b == 111) ≡ false = ne_eqb b 111 (omega (arith, high)) in
    let least : nat_le 65 b ≡ true = le-leb 65 b low in
    let most : nat_lt b 89 ≡ true = lt-ltb b 89 high in
    rw (
      from,
      no_digit,
      no_space,
      no_tab,
      no_return,
      no_end_of_row,
      no_end,
      no_b,
      no_dot,
      no_o,
      least,
      most,
    )
    refl

-- a state's letter says the state
pub letter_sign : (states state : ℕ) → state < states → state < 25
    → sign (letter states state) ≡ cell state
letter_sign states state within few =
    by_states (nat_le states 2) (state == 0) refl refl
  where
    by_states : (two dead : Bool) → nat_le states 2 ≡ two → (state == 0) ≡ dead
        → sign (cond two (cond dead 98 111) (cond dead 46 (64 + state))) ≡ cell state
    by_states true true two dead = ap cell (sym (eqb-true state 0 dead))
    by_states true false two dead =
        let one : 1 ≡ state =
        omega (arith, leb-true states 2 two, eqb-false state 0 dead, within) in
        ap cell one
    by_states false true two dead = ap cell (sym (eqb-true state 0 dead))
    by_states false false two dead =
        let same : 64 + state - 64 ≡ state = omega arith in
        upper_sign (64 + state) (omega (arith, eqb-false state 0 dead)) (omega (arith, few))
        ∙ ap cell same

-- no letter is an LF
pub letter_is_no_lf : (states state : ℕ) → letter states state ≢ 10
letter_is_no_lf states state = by_states (nat_le states 2) (state == 0)
  where
    by_states : (two dead : Bool) → cond two (cond dead 98 111) (cond dead 46 (64 + state)) ≢ 10
    by_states true true = omega arith
    by_states true false = omega arith
    by_states false true = omega arith
    by_states false false = omega arith

-- no digit is an LF
digits_without_lf : (k n : ℕ) → NoLf (digits_by k n)
digits_without_lf zero n = tt
digits_without_lf (suc k) n = by_size (nat_lt n 10) (digits_without_lf k (n / 10))
  where
    by_size : (t : Bool) → NoLf (digits_by k (n / 10))
        → NoLf (cond t ((48 + n) ∷ []) (digits_by k (n / 10) ++ (48 + n % 10) ∷ []))
    by_size true front = (omega arith, tt)
    by_size false front =
        each_append (λ b. b ≢ 10) (digits_by k (n / 10)) ((48 + n % 10) ∷ []) front
        (omega arith, tt)

-- there is none in a number
pub number_without_lf : (n : ℕ) → n ≤ most_cells → NoLf (decimal n)
number_without_lf n few = subst NoLf (sym (decimal_is n few)) (digits_without_lf (n + 20) n)

-- nor in a part
pub counted_without_lf : (n sign : ℕ) → n ≤ most_cells → sign ≢ 10 → NoLf (counted n sign)
counted_without_lf n sign few other = by_one (n == 1)
  where
    by_one : (t : Bool) → NoLf (cond t (sign ∷ []) (decimal n ++ sign ∷ []))
    by_one true = (other, tt)
    by_one false =
        each_append (λ b. b ≢ 10) (decimal n) (sign ∷ []) (number_without_lf n few) (other, tt)

module _ (b : Bounds) (line column : ℕ) (rows : List (List ℕ)) (cells : List ℕ)
    (count : Option ℕ) where
  -- cells of a state are read where there is room for them
  pub cells_step : (state : ℕ) → state < b.states → length cells + times count ≤ b.width
      → length rows < b.height
      → step b line column (record { rows = rows; cells = cells; count = count }) (cell state)
      ≡ Ok (more (record {
        rows = rows;
        cells = cells ++ replicate (times count) state;
        count = None;
      }))
  cells_step state known fits room =
      let few : nat_le b.states state ≡ false = lt-leb b.states state known in
      let longer : List ℕ = cells ++ replicate (times count) state in
      let wide : nat_lt b.width (length (cells ++ replicate (times count) state)) ≡ false =
      le-ltb b.width (length longer)
      (omega (
        arith,
        length-append cells (replicate (times count) state),
        length-replicate (times count) state,
        fits,
      )) in
      let high : nat_le b.height (length rows) ≡ false = lt-leb b.height (length rows) room in
      rw (few, wide, high) refl

  -- and so are the ends of rows
  pub row_ends_step : 0 < times count → length rows + times count ≤ b.height
      → step b line column (record { rows = rows; cells = cells; count = count }) row_end
      ≡ Ok (more (record {
        rows = rows ++ cells ∷ replicate (times count - 1) [];
        cells = [];
        count = None;
      }))
  row_ends_step some room =
      let high : nat_lt b.height (length rows + times count) ≡ false =
      le-ltb b.height (length rows + times count) room in
      let any : (times count == 0) ≡ false = ne_eqb (times count) 0 (omega (arith, some)) in
      rw (high, any) refl
