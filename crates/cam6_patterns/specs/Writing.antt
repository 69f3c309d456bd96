-- The run-length text of rows of cells.
use Rattle.std.specs.Prelude.{ℕ, ◌+◌, List, [], ◌∷◌, ◌++◌, length, codes, decimal}
use Rattle.std.specs.Prelude.{◌==◌, nat_lt, nat_le, if◌then◌else◌, get_or}
use Rattle.std.specs.List.{list_all}
use Rattle.cam6_patterns.specs.Pattern.{most_states}

-- without the cells of state 0 after the last cell of another state
abbrev pub trimmed_by : ℕ → List ℕ → List ℕ
trimmed_by cell [] = if cell == 0 then [] else cell ∷ []
trimmed_by cell (next ∷ rest) = cell ∷ next ∷ rest

abbrev pub trimmed : List ℕ → List ℕ
trimmed [] = []
trimmed (cell ∷ cells) = trimmed_by cell (trimmed cells)

-- a state's letter: b and o for two states, a dot and A, B, .. for more
abbrev pub letter : ℕ → ℕ → ℕ
letter states state =
    if nat_le states 2 then (if state == 0 then 98 else 111)
    else if state == 0 then 46 else 64 + state

-- a number and a letter, or the letter alone for 1
abbrev pub counted : ℕ → ℕ → List ℕ
counted n letter = if n == 1 then letter ∷ [] else decimal n ++ letter ∷ []

-- the runs of a row, after n cells of this state
abbrev pub runs_after : ℕ → ℕ → ℕ → List ℕ → List (List ℕ)
runs_after states n state [] = counted n (letter states state) ∷ []
runs_after states n state (cell ∷ cells) =
    if cell == state then runs_after states (n + 1) state cells
    else counted n (letter states state) ∷ runs_after states 1 cell cells

-- the runs of a row
abbrev pub runs : ℕ → List ℕ → List (List ℕ)
runs states [] = []
runs states (cell ∷ cells) = runs_after states 1 cell cells

-- the ends of n rows
abbrev pub row_ends : ℕ → List (List ℕ)
row_ends n = if n == 0 then [] else counted n 36 ∷ []

-- the rows, after n row ends that weren't written yet; and the end
abbrev pub row_by_row : ℕ → ℕ → List (List ℕ) → List (List ℕ)
row_by_row states n [] = codes "!" ∷ []
row_by_row states n (row ∷ rows) =
    if length (trimmed row) == 0 then row_by_row states (n + 1) rows
    else row_ends n ++ runs states (trimmed row) ++ row_by_row states 1 rows

-- the most bytes of a line, if none of the parts is longer
abbrev pub line_length : ℕ
line_length = 70

-- the parts after the first `used` bytes of a line, each on a new line if it doesn't fit; and an LF
abbrev pub filled : ℕ → List (List ℕ) → List ℕ
filled used [] = codes "\n"
filled used (part ∷ parts) =
    if nat_lt line_length (used + length part)
    then codes "\n" ++ part ++ filled (length part) parts
    else part ++ filled (used + length part) parts

-- the header, with the name of a rule if there is one
abbrev pub header : ℕ → ℕ → List ℕ → List ℕ
header width height rule =
    codes "x = " ++ decimal width ++ codes ", y = " ++ decimal height
    ++ (if length rule == 0 then [] else codes ", rule = " ++ rule) ++ codes "\n"

-- the text of rows of cells, as many columns as the first has
unfoldable pub pattern_text : ℕ → List ℕ → List (List ℕ) → List ℕ
pattern_text states rule rows =
    header (length (get_or rows 0 [])) (length rows) rule ++ filled 0 (row_by_row states 0 rows)

-- two states if every cell is 0 or 1, or else sixteen
abbrev pub states_of : List (List ℕ) → ℕ
states_of rows =
    if list_all (λ row. list_all (λ cell. nat_lt cell 2) row) rows then 2 else most_states

-- the text of a torus in colours, each colour a state
unfoldable pub text_of_frame : List ℕ → List (List ℕ) → List ℕ
text_of_frame rule rows = pattern_text (states_of rows) rule rows
