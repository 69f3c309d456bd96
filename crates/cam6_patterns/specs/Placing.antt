-- A pattern on a torus: the rows of its planes, as command lines that set them.
use Rattle.std.specs.Prelude.{ℕ, ◌+◌, ◌-◌, ◌%◌, ◌/◌, List, [], ◌∷◌, ◌++◌, codes, decimal, flat_map}
use Rattle.std.specs.Prelude.{Bool, false, ◌==◌, nat_lt, if◌then◌else◌}
use Rattle.std.specs.Int.{bit_at}
use Rattle.std.specs.List.{range_with_len}
use Rattle.cam6_planes.specs.Digits.{row_text}
use Rattle.cam6_patterns.specs.Pattern.{Pattern, state_in}

-- the column of a pattern that lies at column x of a torus of this side, if its first one lies at
-- column first; the pattern may have fewer columns
abbrev pub column_of : ℕ → ℕ → ℕ → ℕ
column_of side first x = (x + (side - first % side)) % side

-- whether bit k is set in the state at column x, in the pattern's row y
abbrev pub bit_placed : ℕ → ℕ → Pattern → ℕ → ℕ → ℕ → Bool
bit_placed side first p k y x =
    let column = column_of side first x in
    if nat_lt column p.width then bit_at (state_in p.rows column y) k == 1 else false

-- {"bits":"digits","do":"set","plane":plane,"row":row}
abbrev pub set_line : ℕ → ℕ → ℕ → (ℕ → Bool) → List ℕ
set_line side plane row bits =
    codes "{\"bits\":\"" ++ row_text (side / 4) bits
    ++ codes "\",\"do\":\"set\",\"plane\":" ++ decimal plane
    ++ codes ",\"row\":" ++ decimal row ++ codes "}\n"

-- the lines of the pattern's row y, plane by plane: the first of these planes takes bit k of a
-- state, the next one bit k + 1
abbrev pub row_lines : ℕ → ℕ → ℕ → Pattern → ℕ → ℕ → List ℕ → List ℕ
row_lines side column row p y k [] = []
row_lines side column row p y k (plane ∷ planes) =
    set_line side plane ((row + p.row + y) % side) (bit_placed side (column + p.column) p k y)
    ++ row_lines side column row p y (k + 1) planes

-- the lines of all its rows, its upper left corner moved by so many columns and rows from where it lies
unfoldable pub placed : ℕ → ℕ → ℕ → List ℕ → Pattern → List ℕ
placed side column row planes p =
    flat_map (λ y. row_lines side column row p y 0 planes) (range_with_len 0 p.height)
