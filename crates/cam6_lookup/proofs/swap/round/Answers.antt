use Rattle.std.proofs.Common.{◌≡◌, ℕ, ◌<◌, ◌+◌, ◌*◌, List, [], ◌∷◌}
use Rattle.cam6_lookup.specs.Transposed.{cell, swapped_row, swapped_position}
use Rattle.cam6_lookup.proofs.Transposing.{below_four, by_fours}
use Rattle.cam6_lookup.proofs.swap.round.Goals as goal

pub returns : goal.returns
unfolding cell
returns c =
    let rows : List (List ℕ) =
    c.row_after_round.result ∷ c.row_after_round-2.result ∷ c.row_after_round-3.result ∷ c.row_after_round-4.result
    ∷ c.row_after_round-5.result ∷ c.row_after_round-6.result ∷ c.row_after_round-7.result ∷ c.row_after_round-8.result
    ∷ c.row_after_round-9.result ∷ c.row_after_round-10.result ∷ c.row_after_round-11.result ∷ c.row_after_round-12.result
    ∷ c.row_after_round-13.result ∷ c.row_after_round-14.result ∷ c.row_after_round-15.result
    ∷ c.row_after_round-16.result ∷ [] in
    let Row : ℕ → Type 0 = λ k. (i p : ℕ) → i < 2 → p < 64 → cell rows k i p
    ≡ cell c.args.rows.now (swapped_row c.args.digit k p) i (swapped_position c.args.digit k p) in
    λ k i p h l m.
    by_fours Row 4 (below_four (λ i. (j : ℕ) → j < 4 → Row (4 * i + j))
    (below_four (λ j. Row (4 * 0 + j)) c.row_after_round.ensures c.row_after_round-2.ensures
    c.row_after_round-3.ensures c.row_after_round-4.ensures)
    (below_four (λ j. Row (4 * 1 + j)) c.row_after_round-5.ensures c.row_after_round-6.ensures
    c.row_after_round-7.ensures c.row_after_round-8.ensures)
    (below_four (λ j. Row (4 * 2 + j)) c.row_after_round-9.ensures c.row_after_round-10.ensures
    c.row_after_round-11.ensures c.row_after_round-12.ensures)
    (below_four (λ j. Row (4 * 3 + j)) c.row_after_round-13.ensures c.row_after_round-14.ensures
    c.row_after_round-15.ensures c.row_after_round-16.ensures)) k h i p l m
