-- The colours of a row are among those of the states.
use Rattle.std.proofs.Common.{◌≤◌, ℕ, zero, suc, List, [], ◌∷◌, map, get_or, arith}
use Rattle.std.specs.List.{AllByRecursion, range_with_len}
use Rattle.cam6_planes.specs.Cells.{Cells}
use Rattle.cam6_view.specs.States.{state_at, row_colours}

-- a number of a list is small where all are
one_small : (bound : ℕ) (numbers : List ℕ) (i : ℕ) →
    AllByRecursion (λ n. n ≤ bound) numbers → get_or numbers i 0 ≤ bound
one_small bound [] i all = omega arith
one_small bound (n ∷ numbers) zero all = all.0
one_small bound (n ∷ numbers) (suc i) all = one_small bound numbers i all.1

each_small : (bound : ℕ) (numbers : List ℕ) (at : ℕ → ℕ) (xs : List ℕ) →
    AllByRecursion (λ n. n ≤ bound) numbers →
    AllByRecursion (λ n. n ≤ bound) (map (λ x. get_or numbers (at x) 0) xs)
each_small bound numbers at [] all = tt
each_small bound numbers at (x ∷ xs) all =
    (one_small bound numbers (at x) all, each_small bound numbers at xs all)

pub row_colours-small : (s bound : ℕ) (colours : List ℕ) (f : Cells) (y : ℕ) →
    AllByRecursion (λ n. n ≤ bound) colours →
    AllByRecursion (λ n. n ≤ bound) (row_colours s colours f y)
unfolding row_colours
row_colours-small s bound colours f y all =
    each_small bound colours (λ x. state_at f x y) (range_with_len 0 s) all
