use Rattle.std.proofs.Common.{◌≡◌, ℕ, ◌+◌, ◌*◌, ◌<◌, [], ◌∷◌, get_or, subst, refl, arith}
use Rattle.cam6_planes.specs.Row.{word_column, column_bit, west_of}
use Rattle.cam6_planes.proofs.WordByWord.{west_here}
use Rattle.cam6_lines.proofs.RowsOfUnits.{each_of_four, before_word}
use Rattle.cam6_lines.proofs.rows.words_west.Goals as goal

pub returns : goal.returns
returns c = λ k x four within l.
    let row = c.args.row.now in
    let n : ℕ = c.args.words in
    let first : ℕ = c.args.first in
    let a = c.moved_east in
    let b = c.moved_east-2 in
    let d = c.moved_east-3 in
    let e = c.moved_east-4 in
    let made = a.result ∷ b.result ∷ d.result ∷ e.result ∷ [] in
    each_of_four (λ k. first + k < n → (x : ℕ) → x < 64 → word_column (get_or made k 0) x
    ≡ column_bit row (west_of (64 * n) (64 * (first + k) + x)))
    (subst (λ m. m < n → (x : ℕ) → x < 64 → word_column a.result x
    ≡ column_bit row (west_of (64 * n) (64 * m + x))) (omega arith)
    (λ h. west_here row n first c.word_before.result a.result h (c.word_before.ensures.word h)
    a.ensures.first a.ensures.others))
    (λ h. west_here row n (first + 1) first b.result h
    (before_word n (first + 1) first refl h) b.ensures.first b.ensures.others)
    (λ h. west_here row n (first + 2) (first + 1) d.result h
    (before_word n (first + 2) (first + 1) (omega arith) h) d.ensures.first d.ensures.others)
    (λ h. west_here row n (first + 3) (first + 2) e.result h
    (before_word n (first + 3) (first + 2) (omega arith) h) e.ensures.first e.ensures.others)
    k four within x l
