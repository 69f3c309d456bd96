use Rattle.std.proofs.Common.{◌≡◌, ℕ, ◌+◌, ◌*◌, ◌<◌, [], ◌∷◌, get_or, subst, refl, arith}
use Rattle.cam6_planes.specs.Row.{word_column, column_bit, east_of}
use Rattle.cam6_planes.proofs.WordByWord.{east_here}
use Rattle.cam6_lines.proofs.RowsOfUnits.{each_of_four, after_word}
use Rattle.cam6_lines.proofs.rows.words_east.Goals as goal

pub returns : goal.returns
returns c = λ k x four within l.
    let row = c.args.row.now in
    let n : ℕ = c.args.words in
    let first : ℕ = c.args.first in
    let even = c.requires.even in
    let even_first = c.requires.even_first in
    let a = c.moved_west in
    let b = c.moved_west-2 in
    let d = c.moved_west-3 in
    let e = c.moved_west-4 in
    let made = a.result ∷ b.result ∷ d.result ∷ e.result ∷ [] in
    each_of_four (λ k. first + k < n → (x : ℕ) → x < 64 → word_column (get_or made k 0) x
    ≡ column_bit row (east_of (64 * n) (64 * (first + k) + x)))
    (subst (λ m. m < n → (x : ℕ) → x < 64 → word_column a.result x
    ≡ column_bit row (east_of (64 * n) (64 * m + x))) (omega arith)
    (λ h. east_here row n first (first + 1) a.result h
    (after_word n first (first + 1) refl (omega (arith, h, even, even_first))) a.ensures.last
    a.ensures.others))
    (λ h. east_here row n (first + 1) c.word_after.result b.result h
    (c.word_after.ensures.word h) b.ensures.last b.ensures.others)
    (λ h. east_here row n (first + 2) (first + 3) d.result h
    (after_word n (first + 2) (first + 3) (omega arith) (omega (arith, h, even, even_first)))
    d.ensures.last d.ensures.others)
    (λ h. east_here row n (first + 3) c.word_after-2.result e.result h
    (c.word_after-2.ensures.word h) e.ensures.last e.ensures.others)
    k four within x l
