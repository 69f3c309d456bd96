-- The bits of a row in words and in bytes, a bit as a number, and the columns beside a column.
use Rattle.std.specs.Prelude.{ℕ, ◌+◌, ◌-◌, ◌/◌, ◌%◌, Bool, true}
use Rattle.std.specs.Prelude.{false, List, slice_index, ◌==◌}
use Rattle.std.specs.Int.{bit_at}

-- the bit at column c of a 64-bit word; column 0 is its highest bit
unfoldable pub word_column : ℕ → ℕ → Bool
word_column word c = bit_at word (63 - c) == 1

-- the bit at column x of a row of words
unfoldable pub column_bit : List ℕ → ℕ → Bool
column_bit row x = word_column (slice_index row (x / 64)) (x % 64)

-- the bit at column x of a row of bytes; the first column of each byte is its highest bit
unfoldable pub byte_column : List ℕ → ℕ → Bool
byte_column bytes x = bit_at (slice_index bytes (x / 8)) (7 - x % 8) == 1

-- a bit as a number
abbrev pub bit_number : Bool → ℕ
bit_number false = 0
bit_number true = 1

-- the column to the west of x, on a ring of s columns
abbrev pub west_of : ℕ → ℕ → ℕ
west_of s x = (x + (s - 1)) % s

-- the column to the east of x
abbrev pub east_of : ℕ → ℕ → ℕ
east_of s x = (x + 1) % s
