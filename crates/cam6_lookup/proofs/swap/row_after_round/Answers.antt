use Rattle.std.proofs.Common.{◌≡◌, ◌/◌, ◌%◌, ℕ, ◌<◌, [], ◌∷◌, get_or, sym, ◌∙◌, ap, arith}
use Rattle.std.specs.Int.{bit_at}
use Rattle.cam6_lookup.specs.Transposed.{cell, swapped_row, swapped_position}
use Rattle.cam6_lookup.proofs.Positions.{first_cell, second_cell}
use Rattle.cam6_lookup.proofs.Transposing.{below_two}
use Rattle.cam6_lookup.proofs.swap.row_after_round.Goals as goal

pub returns-then-k-worth-eq0 : goal.returns-then-k-worth-eq0
returns-then-k-worth-eq0 c = λ i p h l.
    let a = c.args in
    let first = c.first in
    let next = c.first-then-k-worth-eq0 in
    let none = ap (λ n. a.k / n % 2) (sym c.worth-worth.ensures.value) ∙ c.if-k-worth-eq0.true in
    below_two (λ i. (p : ℕ) → p < 64 → bit_at (get_or (first.result ∷ next.result ∷ []) i 0) p
    ≡ cell a.rows.now (swapped_row a.digit a.k p) i (swapped_position a.digit a.k p))
    (first_cell a.digit a.rows.now a.k 0 first.result none first.ensures.kept
    (rw c.worth-worth.ensures.value at first.ensures.taken))
    (first_cell a.digit a.rows.now a.k 1 next.result none next.ensures.kept
    (rw c.worth-worth.ensures.value at next.ensures.taken)) i h p l

pub returns-else-k-worth-eq0 : goal.returns-else-k-worth-eq0
returns-else-k-worth-eq0 c = λ i p h l.
    let a = c.args in
    let first = c.second in
    let next = c.second-else-k-worth-eq0 in
    let one = ap (λ n. a.k / n % 2) (sym c.worth-worth.ensures.value) ∙ omega arith in
    below_two (λ i. (p : ℕ) → p < 64 → bit_at (get_or (first.result ∷ next.result ∷ []) i 0) p
    ≡ cell a.rows.now (swapped_row a.digit a.k p) i (swapped_position a.digit a.k p))
    (second_cell a.digit a.rows.now a.k 0 first.result one
    (rw c.worth-worth.ensures.value at first.ensures.taken) first.ensures.kept)
    (second_cell a.digit a.rows.now a.k 1 next.result one
    (rw c.worth-worth.ensures.value at next.ensures.taken) next.ensures.kept) i h p l
