-- An array that a loop fills, column by column, has as its front what was put there.
use Rattle.std.proofs.Common.{◌≡◌, ◌<◌, ◌≤◌, ◌∙◌, ℕ, List, length, take, get_or, map, sym, arith}
use Rattle.std.proofs.lemmas.List.{ext_get_or, get_or-take, length-take-le}
use Rattle.std.proofs.lemmas.List.FromFn.{length-map-range_with_len, get_or-map-range_with_len}
use Rattle.std.specs.List.{range_with_len}
use Rattle.cam6_show_frames.specs.Frame.{colours}

-- the columns before x have these colours
abbrev pub FilledTo : (ℕ → ℕ) → List ℕ → ℕ → Type 0
FilledTo f row x = (k : ℕ) → k < x → (get_or row k 0 ≡ f k) × (get_or row k 0 < colours)

-- the front is what was put there
pub front_filled : (f : ℕ → ℕ) (row : List ℕ) (x : ℕ) → x ≤ length row → FilledTo f row x
    → take x row ≡ map f (range_with_len 0 x)
front_filled f row x within filled =
    let long = length-take-le x row within in
    ext_get_or 0 (take x row) (map f (range_with_len 0 x))
    (long ∙ sym (length-map-range_with_len f 0 x))
    (λ k h.
    let before : k < x = omega (arith, long, h) in
    get_or-take x row k 0 before ∙ (filled k before).0
    ∙ sym (get_or-map-range_with_len f 0 x k k 0 before (omega arith)))
