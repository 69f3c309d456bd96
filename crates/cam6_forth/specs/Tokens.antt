-- A text is cut into tokens.
use Rattle.std.specs.Prelude.{ℕ, Bool, true, false, List, [], ◌∷◌, ◌==◌, ◌||◌, ◌++◌}
use Rattle.std.specs.List.{slice_split, filter}

-- a token: its bytes
abbrev pub Token : Type 0
Token = List ℕ

-- space, tab, CR and LF
abbrev pub is_space : ℕ → Bool
is_space byte = byte == 32 || byte == 9 || byte == 13 || byte == 10

-- at least one byte
abbrev pub is_filled : Token → Bool
is_filled [] = false
is_filled (byte ∷ bytes) = true

-- the tokens of a text: its longest runs of other bytes
abbrev pub tokens : List ℕ → List Token
tokens text = filter is_filled (slice_split is_space text)

-- parts, with these bytes before the first one
abbrev pub with_front : List ℕ → List (List ℕ) → List (List ℕ)
with_front front [] = front ∷ []
with_front front (part ∷ parts) = (front ++ part) ∷ parts
