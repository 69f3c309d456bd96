-- Calls that are counted.
use Rattle.std.proofs.Common.{◌≡◌, ◌+◌, ◌-◌, ◌<◌, ◌≤◌, ◌++◌, ◌∙◌, ℕ, zero, suc, List, [], ◌∷◌, length, drop, take}
use Rattle.std.proofs.Common.{get_or, set, ap, arith, count_by, Bool, true, false, cond, ◌==◌, ◌||◌}
use Rattle.std.proofs.Common.{refl, sym, lit≤}
use Rattle.std.proofs.lemmas.Bool.{eqb-true, lt-ltb}
use Rattle.std.proofs.lemmas.List.{length-map}
use Rattle.std.proofs.lemmas.List.Sums.{sum_by-cons}
use Rattle.cam6_board.specs.Flaky.{is_due, later, is_to_come}

-- one call more that has been
pub next_call : (xs : List ℕ) (i v past : ℕ) → i < length xs →
    v ≡ get_or (later (take i xs) ++ drop i xs) i past - 1 →
    set (later (take i xs) ++ drop i xs) i v ≡ later (take (i + 1) xs) ++ drop (i + 1) xs
next_call [] i v past within e = absurd (omega (arith, within))
next_call (x ∷ xs) zero v past within e = ap (λ w. w ∷ xs) e
next_call (x ∷ xs) (suc i) v past within e =
    let one : suc i + 1 ≡ suc (i + 1) = omega arith in
    ap (λ l. (x - 1) ∷ l) (next_call xs i v past (omega (arith, within)) e) ∙
    ap (λ n. later (take n (x ∷ xs)) ++ drop n (x ∷ xs)) (sym one)

-- whether a call is still to come, as a number
abbrev weight : ℕ → ℕ
weight call = cond (is_to_come call) 1 0

at_most_one : (b : Bool) → cond b 1 0 ≤ 1
at_most_one true = lit≤ tt
at_most_one false = lit≤ tt

no_more : (call : ℕ) → weight (call - 1) ≤ weight call
no_more zero = lit≤ tt
no_more (suc call) =
    let some : weight (suc call) ≡ 1 =
    ap {B = ℕ} (λ b. cond b 1 0) (lt-ltb 0 (suc call) (omega arith)) in
    omega (arith, some, at_most_one (is_to_come (suc call - 1)))

-- with each call that has been no more are to come
pub fewer_to_come : (xs : List ℕ) → count_by is_to_come (later xs) ≤ count_by is_to_come xs
fewer_to_come [] = lit≤ tt
fewer_to_come (x ∷ xs) =
    omega (
      arith,
      sum_by-cons weight x xs,
      sum_by-cons weight (x - 1) (later xs),
      fewer_to_come xs,
      no_more x,
    )

-- and one less, where it was one of them
pub one_less_to_come : (xs : List ℕ) → is_due xs ≡ true →
    count_by is_to_come (later xs) + 1 ≤ count_by is_to_come xs
one_less_to_come [] due = cc due
one_less_to_come (x ∷ xs) due =
    by_test (x == 1) refl due (λ e. one_less_to_come xs e)
  where
    by_test : (b : Bool) → (x == 1) ≡ b → (b || is_due xs) ≡ true →
        (is_due xs ≡ true → count_by is_to_come (later xs) + 1 ≤ count_by is_to_come xs) →
        count_by is_to_come (later (x ∷ xs)) + 1 ≤ count_by is_to_come (x ∷ xs)
    by_test true is e rest =
        let one : x ≡ 1 = eqb-true x 1 is in
        let now : weight x ≡ 1 = ap weight one in
        let then : weight (x - 1) ≡ 0 = ap (λ n. weight (n - 1)) one in
        omega (
          arith,
          sum_by-cons weight x xs,
          sum_by-cons weight (x - 1) (later xs),
          fewer_to_come xs,
          now,
          then,
        )
    by_test false is e rest =
        omega (
          arith,
          sum_by-cons weight x xs,
          sum_by-cons weight (x - 1) (later xs),
          rest e,
          no_more x,
        )

-- each fault was at a call of the list, once one more has been that is none of it
pub keeps_count : (xs new : List ℕ) (faults : ℕ) → new ≡ later xs →
    faults + count_by is_to_come xs ≤ length xs → faults + count_by is_to_come new ≤ length new
keeps_count xs new faults same kept =
    omega (
      arith,
      kept,
      ap (count_by is_to_come) same,
      ap length same,
      length-map xs (λ call. call - 1),
      fewer_to_come xs,
    )

-- and once one more has been that is one of it
pub counts_fault : (xs new : List ℕ) (faults : ℕ) → new ≡ later xs → is_due xs ≡ true →
    faults + count_by is_to_come xs ≤ length xs →
    (faults + 1) + count_by is_to_come new ≤ length new
counts_fault xs new faults same due kept =
    omega (
      arith,
      kept,
      ap (count_by is_to_come) same,
      ap length same,
      length-map xs (λ call. call - 1),
      one_less_to_come xs due,
    )
