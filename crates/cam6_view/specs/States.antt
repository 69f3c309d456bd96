-- The state of a cell, and colours and counts by it.
use Rattle.std.specs.Prelude.{ℕ, zero, suc, ◌+◌, ◌*◌, ◌==◌, Bool, List, map, slice_index}
use Rattle.std.specs.List.{range_with_len}
use Rattle.std.specs.Int.{bit_at}
use Rattle.cam6_planes.specs.Cells.{Cells}
use Rattle.cam6_planes.specs.Row.{bit_number}

-- the sum of 2 to the power p over the planes p that are set
abbrev pub state_by : (ℕ → Bool) → ℕ
state_by plane =
    bit_number (plane 0) + 2 * bit_number (plane 1)
    + 4 * bit_number (plane 2) + 8 * bit_number (plane 3)

-- the state of the cell at column x of row y
abbrev pub state_at : Cells → ℕ → ℕ → ℕ
state_at f x y = state_by (λ p. f p x y)

-- the colours of a row of s cells, from column 0 on, by a colour for each state
unfoldable pub row_colours : ℕ → List ℕ → Cells → ℕ → List ℕ
row_colours s map_of_states f y =
    map (λ x. slice_index map_of_states (state_at f x y)) (range_with_len 0 s)

-- a state is in the set that a mask names: its bit is set there
abbrev pub is_in : ℕ → ℕ → Bool
is_in mask state = bit_at mask state == 1

-- how many of the numbers below n have a property
unfoldable pub count_below : (ℕ → Bool) → ℕ → ℕ
count_below p zero = 0
count_below p (suc n) = count_below p n + bit_number (p n)

-- the sum of f over the numbers below n
unfoldable pub sum_below : (ℕ → ℕ) → ℕ → ℕ
sum_below f zero = 0
sum_below f (suc n) = sum_below f n + f n

-- how many of s by s cells have a state of the set
abbrev pub count_of : ℕ → Cells → ℕ → ℕ
count_of s f mask = sum_below (λ y. count_below (λ x. is_in mask (state_at f x y)) s) s
