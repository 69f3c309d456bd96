-- Rows of a band, word by word.
use Rattle.std.proofs.Common.{◌≡◌, ℕ, zero, suc, ◌+◌, ◌*◌, ◌<◌, ◌∙◌, ap, sym, arith}
use Rattle.std.proofs.Common.{List, get_or, ◌/◌, ◌%◌}
use Rattle.cam6_planes.specs.Row.{word_column, column_bit}
use Rattle.cam6_planes.proofs.WordByWord.{column_bit-at}

-- so many words of a row are those of a unit
pub same_words : (row unit : List ℕ) (from at m : ℕ) →
    ((k : ℕ) → k < m → get_or row (from + k) 0 ≡ get_or unit (at + k) 0) →
    (i : ℕ) → i < 64 * m → column_bit row (64 * from + i) ≡ column_bit unit (64 * at + i)
same_words row unit from at m same i h =
    let k : ℕ = i / 64 in
    let c : ℕ = i % 64 in
    let small : i % 64 < 64 = omega arith in
    let there : 64 * from + i ≡ 64 * (from + i / 64) + i % 64 = omega arith in
    let here : 64 * (at + i / 64) + i % 64 ≡ 64 * at + i = omega arith in
    ap (column_bit row) there ∙ column_bit-at row (from + k) c small ∙
    ap (λ w. word_column w c) (same k (omega (arith, h))) ∙
    sym (column_bit-at unit (at + k) c small) ∙ ap (column_bit unit) here

pub same_two : (row unit : List ℕ) (from at : ℕ) →
    get_or row from 0 ≡ get_or unit at 0 → get_or row (from + 1) 0 ≡ get_or unit (at + 1) 0 →
    (k : ℕ) → k < 2 → get_or row (from + k) 0 ≡ get_or unit (at + k) 0
same_two row unit from at a b zero h =
    let e : from + 0 ≡ from = omega arith in
    let d : at ≡ at + 0 = omega arith in
    ap (λ n. get_or row n 0) e ∙ a ∙ ap (λ n. get_or unit n 0) d
same_two row unit from at a b (suc zero) h = b
same_two row unit from at a b (suc (suc k)) h = absurd (omega (arith, h))

pub same_four : (row unit : List ℕ) (from at : ℕ) →
    get_or row from 0 ≡ get_or unit at 0 → get_or row (from + 1) 0 ≡ get_or unit (at + 1) 0 →
    get_or row (from + 2) 0 ≡ get_or unit (at + 2) 0 →
    get_or row (from + 3) 0 ≡ get_or unit (at + 3) 0 →
    (k : ℕ) → k < 4 → get_or row (from + k) 0 ≡ get_or unit (at + k) 0
same_four row unit from at a b c d zero h =
    let e : from + 0 ≡ from = omega arith in
    let f : at ≡ at + 0 = omega arith in
    ap (λ n. get_or row n 0) e ∙ a ∙ ap (λ n. get_or unit n 0) f
same_four row unit from at a b c d (suc zero) h = b
same_four row unit from at a b c d (suc (suc zero)) h = c
same_four row unit from at a b c d (suc (suc (suc zero))) h = d
same_four row unit from at a b c d (suc (suc (suc (suc k)))) h = absurd (omega (arith, h))
