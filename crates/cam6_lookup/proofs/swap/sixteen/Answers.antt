use Rattle.std.proofs.Common.{◌≡◌, ℕ, ◌<◌, ◌+◌, ◌*◌, List, [], ◌∷◌, Bor, length, map, get_or}
use Rattle.std.proofs.Common.{◌∙◌, ap, sym, arith}
use Rattle.std.proofs.lemmas.List.{get_or-map}
use Rattle.std.specs.Int.{bit_at}
use Rattle.cam6_lookup.specs.Transposed.{cell}
use Rattle.cam6_lookup.proofs.Transposing.{below_three, below_four, by_fours}
use Rattle.cam6_lookup.proofs.swap.sixteen.Goals as goal

abbrev zeros : List ℕ
zeros = 0 ∷ 0 ∷ []

-- a pair of words has the bits of the line's words
bits : (pair : List ℕ) (lines : List (Bor (List ℕ))) (none : Bor (List ℕ)) (word k : ℕ) →
    k < length lines →
    ((i : ℕ) → i < 2 → get_or pair i 0 ≡ get_or (get_or lines k none).now (word + i) 0) →
    (i p : ℕ) → i < 2 →
    bit_at (get_or pair i 0) p ≡ cell (map (λ line. line.now) lines) k (word + i) p
unfolding cell
bits pair lines none word k within same i p h =
    ap (λ n. bit_at n p) (same i h ∙ ap (λ line. get_or line (word + i) 0)
    (sym (get_or-map (λ line. line.now) lines k none [] within)))

pub returns : goal.returns
unfolding cell
returns g c =
    let lines = c.args.lines.now in
    let shown : List (List ℕ) = map (λ line. line.now) lines in
    let word = c.args.word in
    let twelve = c.told-lines in
    let rows : List (List ℕ) =
    c.pair.result ∷ c.pair-2.result ∷ c.pair-3.result ∷ c.pair-4.result
    ∷ c.pair-5.result ∷ c.pair-6.result ∷ c.pair-7.result ∷ c.pair-8.result
    ∷ c.pair-9.result ∷ c.pair-10.result ∷ c.pair-11.result ∷ c.pair-12.result
    ∷ zeros ∷ zeros ∷ zeros ∷ zeros ∷ [] in
    let Row : ℕ → Type 0 = λ k. (i p : ℕ) → i < 2 → cell rows k i p ≡ cell shown k (word + i) p in
    λ k i p h l.
    by_fours Row 3 (below_three (λ i. (j : ℕ) → j < 4 → Row (4 * i + j))
    (below_four (λ j. Row (4 * 0 + j))
    (bits c.pair.result lines _ word 0 (omega (arith, twelve)) c.pair.ensures)
    (bits c.pair-2.result lines _ word 1 (omega (arith, twelve)) c.pair-2.ensures)
    (bits c.pair-3.result lines _ word 2 (omega (arith, twelve)) c.pair-3.ensures)
    (bits c.pair-4.result lines _ word 3 (omega (arith, twelve)) c.pair-4.ensures))
    (below_four (λ j. Row (4 * 1 + j))
    (bits c.pair-5.result lines _ word 4 (omega (arith, twelve)) c.pair-5.ensures)
    (bits c.pair-6.result lines _ word 5 (omega (arith, twelve)) c.pair-6.ensures)
    (bits c.pair-7.result lines _ word 6 (omega (arith, twelve)) c.pair-7.ensures)
    (bits c.pair-8.result lines _ word 7 (omega (arith, twelve)) c.pair-8.ensures))
    (below_four (λ j. Row (4 * 2 + j))
    (bits c.pair-9.result lines _ word 8 (omega (arith, twelve)) c.pair-9.ensures)
    (bits c.pair-10.result lines _ word 9 (omega (arith, twelve)) c.pair-10.ensures)
    (bits c.pair-11.result lines _ word 10 (omega (arith, twelve)) c.pair-11.ensures)
    (bits c.pair-12.result lines _ word 11 (omega (arith, twelve)) c.pair-12.ensures))) k h i p l
