-- The laws of a row's digits and of its bytes.
use Rattle.std.specs.Prelude.{◌≡◌, ◌<◌, ◌*◌, ◌/◌, ℕ, Bool, List, length, slice_index, Some}
use Rattle.hex.specs.Hex.{encode_lower}
use Rattle.cam6_planes.specs.Side.{side_number}
use Rattle.cam6_planes.specs.declared.sides.Side.{Side}
use Rattle.cam6_planes.specs.Row.{byte_column}
use Rattle.cam6_planes.specs.Digits.{row_text, row_bytes, bits_of_digits}

-- these bytes are as many as a row of this side has, and show the row's bit at each of its columns
pub record AreBitsOf (side : Side) (row : ℕ → Bool) (bytes : List ℕ) : Type 0 where
  pub long : 8 * length bytes ≡ side_number side
  pub columns : (x : ℕ) → x < side_number side → byte_column bytes x ≡ row x

-- a row's digits, at every side, are read as the row's bits
abbrev pub DigitsAreReadBack : Type 0
DigitsAreReadBack =
    (side : Side) (row : ℕ → Bool) → (bytes : List ℕ)
    × (bits_of_digits (row_text (side_number side / 4) row) ≡ Some bytes)
    × AreBitsOf side row bytes

-- these are n numbers, each less than 256, that show the row
pub record ShowsRow (n : ℕ) (row : ℕ → Bool) (bytes : List ℕ) : Type 0 where
  pub long : length bytes ≡ n
  pub small : (i : ℕ) → slice_index bytes i < 256
  pub columns : (x : ℕ) → x < 8 * n → byte_column bytes x ≡ row x

-- the bytes that are made of a row show it
abbrev pub BytesShowTheRow : Type 0
BytesShowTheRow = (n : ℕ) (row : ℕ → Bool) → ShowsRow n row (row_bytes n row)

-- and no others show it
abbrev pub NoOthersShowIt : Type 0
NoOthersShowIt =
    (n : ℕ) (row : ℕ → Bool) (bytes : List ℕ) → ShowsRow n row bytes → bytes ≡ row_bytes n row

-- the digits of a row's bytes are the row's
abbrev pub BytesHaveItsDigits : Type 0
BytesHaveItsDigits =
    (n : ℕ) (row : ℕ → Bool) → encode_lower (row_bytes n row) ≡ row_text (2 * n) row
