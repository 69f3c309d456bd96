-- What a line of a reply says of cells in colours.
use Rattle.std.specs.Prelude.{ℕ, ◌/◌, ◌%◌, ◌*◌, List, [], ◌∷◌, map, codes, slice_index, length}
use Rattle.std.specs.Prelude.{Bool, true, false, ◌&&◌, ◌==◌, if◌then◌else◌, Option, Some, None, option_map}
use Rattle.std.specs.Prelude.{option_and_then, is_some}
use Rattle.std.specs.List.{range_with_len}
use Rattle.std.specs.Result.{result_ok}
use Rattle.std.specs.Str.{bytes_eq, is_utf8}
use Rattle.hex.specs.Hex.{decode_sized}
use Rattle.serde_json.specs.Data.{Data, Items, no_items, item}
use Rattle.serde_json.specs.Find.{get, as_str, as_array, as_object}
use Rattle.serde_json.specs.Read.{read}
use Rattle.cam6_planes.specs.Side.{side_number, side_of}
use Rattle.cam6_planes.specs.Digits.{bits_of_digits}
use Rattle.cam6_planes.specs.Row.{bit_number, byte_column}
use Rattle.cam6_show_frames.specs.declared.replies.ReplyCells.{ReplyCells}
use Rattle.cam6_show_frames.specs.declared.replies.ReplyCells.TheVariants.{Colours, Plane, Other}

-- the text at a key
abbrev pub text_at : List ℕ → Data → Option (List ℕ)
text_at key d = option_and_then as_str (get key d)

-- the digit at column x of bytes that hold two digits each, the higher one first
abbrev pub digit_column : List ℕ → ℕ → ℕ
digit_column bytes x =
    if x % 2 == 0 then slice_index bytes (x / 2) / 16 else slice_index bytes (x / 2) % 16

-- a row of colours: hexadecimal digits of either case, as many as a row of one of the sides has
-- columns
abbrev pub colours_of_text : List ℕ → Option (List ℕ)
colours_of_text text =
    option_and_then
    (λ side. option_map
    (λ bytes. map (digit_column bytes) (range_with_len 0 (side_number side)))
    (result_ok (decode_sized text (side_number side / 2))))
    (side_of (length text))

-- a row of one plane: the colour 1 where its bit is set, and 0 elsewhere
abbrev pub bits_of_text : List ℕ → Option (List ℕ)
bits_of_text text =
    option_map
    (λ bytes. map (λ x. bit_number (byte_column bytes x)) (range_with_len 0 (8 * length bytes)))
    (bits_of_digits text)

-- the rows of a plane's texts
abbrev pub rows_of_texts : Items → Option (List (List ℕ))
rows_of_texts no_items = Some []
rows_of_texts (item d ds) =
    option_and_then
    (λ row. option_map (λ rows. row ∷ rows) (rows_of_texts ds))
    (option_and_then bits_of_text (as_str d))

-- whether each row has so many columns
abbrev pub are_long : ℕ → List (List ℕ) → Bool
are_long columns [] = true
are_long columns (row ∷ rows) = if length row == columns then are_long columns rows else false

-- rows that are a frame: as many as each has columns, and that is one of the sides
abbrev pub frame_of_rows : List (List ℕ) → Option (List (List ℕ))
frame_of_rows rows =
    if is_some (side_of (length rows)) && are_long (length rows) rows then Some rows else None

-- {"colours":"digits","ok":"colours"}
abbrev pub colours_in : Data → Option ReplyCells
colours_in d =
    option_map Colours (option_and_then colours_of_text (text_at (codes "colours") d))

-- {"ok":"plane","rows":[texts]}
abbrev pub plane_in : Data → Option ReplyCells
plane_in d =
    option_map Plane
    (option_and_then frame_of_rows
    (option_and_then rows_of_texts (option_and_then as_array (get (codes "rows") d))))

-- by the word at the key ok, if there is one
abbrev pub by_word : Option (List ℕ) → Data → Option ReplyCells
by_word None d = Some Other
by_word (Some word) d =
    if bytes_eq word (codes "colours") then colours_in d
    else if bytes_eq word (codes "plane") then plane_in d else Some Other

-- what an object says; anything else is no reply
abbrev pub reply_in : Data → Option ReplyCells
reply_in d = if is_some (as_object d) then by_word (text_at (codes "ok") d) d else None

-- the first if there is one, or else the second
abbrev pub get_or_itself : Option Data → Data → Data
get_or_itself None d = d
get_or_itself (Some inner) d = inner

-- the outcome of an event says what its reply says, if it has one:
-- {"ok":"collect","reply":{..}}
abbrev pub said_in : Data → Option ReplyCells
said_in d = reply_in (get_or_itself (get (codes "reply") d) d)

-- what a line says, if it is a reply
unfoldable pub said : List ℕ → Option ReplyCells
said line = if is_utf8 line then option_and_then said_in (read line) else None
