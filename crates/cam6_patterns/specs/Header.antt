-- The lines before the cells: remarks, which may say where the pattern lies, and the header.
use Rattle.std.specs.Prelude.{ℕ, ◌+◌, ◌*◌, ◌-◌, ◌%◌, List, [], ◌∷◌, codes}
use Rattle.std.specs.Prelude.{Bool, true, ◌==◌, ◌||◌, ◌&&◌, nat_lt, nat_le, if◌then◌else◌}
use Rattle.std.specs.Prelude.{Option, Some, None, option_map, option_and_then}
use Rattle.cam6_patterns.specs.Pattern.{most_cells}

-- the first if there is one, or else the second
abbrev pub if_none : {A : Type 0} → Option A → Option A → Option A
if_none None second = second
if_none (Some x) second = Some x

-- a space, a tab, or a CR
abbrev pub is_blank : ℕ → Bool
is_blank b = (b == 32) || ((b == 9) || (b == 13))

-- the bytes without the blanks at their front
abbrev pub past_blanks : List ℕ → List ℕ
past_blanks [] = []
past_blanks (b ∷ bytes) = if is_blank b then past_blanks bytes else b ∷ bytes

abbrev pub is_decimal : ℕ → Bool
is_decimal b = nat_le 48 b && nat_lt b 58

-- the number of n's digits and the digits at the front, and what comes after them
abbrev pub number_after : ℕ → List ℕ → ℕ × List ℕ
number_after n [] = (n, [])
number_after n (b ∷ bytes) =
    if is_decimal b then number_after (10 * n + (b - 48)) bytes else (n, b ∷ bytes)

-- a number of one digit at least, and what comes after it
abbrev pub number_at_front : List ℕ → Option (ℕ × List ℕ)
number_at_front [] = None
number_at_front (b ∷ bytes) =
    if is_decimal b then Some (number_after (b - 48) bytes) else None

-- what comes after the first bytes, if the others begin with them
abbrev pub strip_prefix : List ℕ → List ℕ → Option (List ℕ)
strip_prefix [] bytes = Some bytes
strip_prefix (x ∷ xs) [] = None
strip_prefix (x ∷ xs) (b ∷ bytes) = if x == b then strip_prefix xs bytes else None

-- what comes after blanks and then this byte
abbrev pub after_sign : ℕ → List ℕ → Option (List ℕ)
after_sign x bytes = strip_prefix (x ∷ []) (past_blanks bytes)

-- the number after a letter and an equals sign, with blanks between, as in "x = 12"; and what comes
-- after it
abbrev pub extent_at_front : ℕ → List ℕ → Option (ℕ × List ℕ)
extent_at_front letter bytes =
    option_and_then (λ rest. number_at_front (past_blanks rest))
    (option_and_then (after_sign 61) (after_sign letter bytes))

-- nothing more, or a comma; after it there may be anything, for example "rule = B3/S23"
abbrev pub ends_header : List ℕ → Bool
ends_header [] = true
ends_header (b ∷ bytes) = b == 44

-- "x = 12, y = 7", or the same with a comma after it: the width and the height
abbrev pub extents_in : List ℕ → Option (ℕ × ℕ)
extents_in line =
    option_and_then
    (λ wide. option_and_then
    (λ high. if ends_header (past_blanks high.1) then Some (wide.0, high.0) else None)
    (option_and_then (extent_at_front 121) (after_sign 44 wide.1)))
    (extent_at_front 120 line)

-- a whole number modulo most_cells, and what comes after it: "-3" is most_cells - 3
abbrev pub offset_at_front : List ℕ → Option (ℕ × List ℕ)
offset_at_front [] = None
offset_at_front (b ∷ bytes) =
    if b == 45
    then option_map (λ n. ((most_cells - n.0 % most_cells) % most_cells, n.1)) (number_at_front bytes)
    else option_map (λ n. (n.0 % most_cells, n.1)) (number_at_front (b ∷ bytes))

-- two such numbers with this byte between them
abbrev pub corner_at_front : ℕ → List ℕ → Option (ℕ × ℕ)
corner_at_front between bytes =
    option_and_then
    (λ column. option_map (λ row. (column.0, row.0))
    (option_and_then offset_at_front (strip_prefix (between ∷ []) column.1)))
    (offset_at_front bytes)

-- what comes after the first place where these bytes stand
abbrev pub after_first : List ℕ → List ℕ → Option (List ℕ)
after_first xs [] = None
after_first xs (b ∷ bytes) = if_none (strip_prefix xs (b ∷ bytes)) (after_first xs bytes)

-- where a remark says that the pattern lies, if it does: "#CXRLE Pos=-3,4", "#P -3 4" or "#R -3 4"
abbrev pub corner_in : List ℕ → Option (ℕ × ℕ)
corner_in line =
    if_none (option_and_then (λ rest. option_and_then (corner_at_front 44) (after_first (codes "Pos=") rest))
    (strip_prefix (codes "#CXRLE ") line))
    (if_none (option_and_then (corner_at_front 32) (strip_prefix (codes "#P ") line))
    (option_and_then (corner_at_front 32) (strip_prefix (codes "#R ") line)))
