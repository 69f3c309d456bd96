-- The laws of the texts that are made of rows.
use Rattle.std.specs.Prelude.{◌≡◌, ℕ, ◌/◌, Bool, List, map, codes, slice_index, Some}
use Rattle.std.specs.List.{range_with_len}
use Rattle.cam6_planes.specs.Digits.{row_text}
use Rattle.cam6_planes.specs.Row.{bit_number}
use Rattle.cam6_planes.specs.Side.{side_number}
use Rattle.cam6_planes.specs.declared.sides.Side.{Side}
use Rattle.cam6_show_frames.specs.Frame.{IsRowOf}
use Rattle.cam6_show_frames.specs.Replies.{colours_of_text, bits_of_text}

-- the lower case hexadecimal digit of a colour
abbrev pub colour_digit : ℕ → ℕ
colour_digit colour = slice_index (codes "0123456789abcdef") colour

-- the text of a row of colours, a digit for each, is read as the row
abbrev pub ColoursAreReadBack : Type 0
ColoursAreReadBack =
    (side : Side) (row : List ℕ) → IsRowOf side row
    → colours_of_text (map colour_digit row) ≡ Some row

-- the text of a row of bits, four to a digit, is read as a colour for each: 1 where it is set, and
-- 0 elsewhere
abbrev pub BitsAreReadBack : Type 0
BitsAreReadBack =
    (side : Side) (row : ℕ → Bool)
    → bits_of_text (row_text (side_number side / 4) row)
    ≡ Some (map (λ x. bit_number (row x)) (range_with_len 0 (side_number side)))
