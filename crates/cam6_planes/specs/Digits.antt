-- A row's hexadecimal digits and its bytes: how it makes them, and the bytes that digits mean.
use Rattle.std.specs.Prelude.{ℕ, ◌+◌, ◌*◌, ◌/◌, Bool, List, map, codes, slice_index, length}
use Rattle.std.specs.Prelude.{Option, option_and_then}
use Rattle.std.specs.List.{range_with_len}
use Rattle.std.specs.Result.{result_ok}
use Rattle.hex.specs.Hex.{decode_sized}
use Rattle.cam6_planes.specs.Row.{bit_number}
use Rattle.cam6_planes.specs.Side.{side_number, side_of}

-- the four columns from x on as a number, the first of them the highest bit
abbrev pub four_columns : (ℕ → Bool) → ℕ → ℕ
four_columns row x =
    8 * bit_number (row x) + 4 * bit_number (row (x + 1))
    + 2 * bit_number (row (x + 2)) + bit_number (row (x + 3))

-- the lower case hexadecimal digit of columns 4k to 4k+3
abbrev pub digit_at : (ℕ → Bool) → ℕ → ℕ
digit_at row k = slice_index (codes "0123456789abcdef") (four_columns row (4 * k))

-- a row's text of n digits, from column 0 on
unfoldable pub row_text : ℕ → (ℕ → Bool) → List ℕ
row_text n row = map (digit_at row) (range_with_len 0 n)

-- the eight columns from x on as a number, the first of them the highest bit
abbrev pub eight_columns : (ℕ → Bool) → ℕ → ℕ
eight_columns row x = 16 * four_columns row x + four_columns row (x + 4)

-- a row's n bytes, from column 0 on
unfoldable pub row_bytes : ℕ → (ℕ → Bool) → List ℕ
row_bytes n row = map (λ k. eight_columns row (8 * k)) (range_with_len 0 n)

-- the bytes of hexadecimal digits of either case, if a row of one of the sides has so many
abbrev pub bits_of_digits : List ℕ → Option (List ℕ)
bits_of_digits digits =
    option_and_then (λ side. result_ok (decode_sized digits (side_number side / 8)))
    (side_of (4 * length digits))
