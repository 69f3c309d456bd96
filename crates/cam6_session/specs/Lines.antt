-- The lines of a text.
use Rattle.std.specs.Prelude.{ℕ, List, [], ◌∷◌, ◌++◌, if◌then◌else◌, ◌==◌}

-- a byte at the front of the first line; if there is no line, a line of this byte
abbrev pub begin_line : ℕ → List (List ℕ) → List (List ℕ)
begin_line b [] = (b ∷ []) ∷ []
begin_line b (line ∷ later) = (b ∷ line) ∷ later

-- the bytes up to each LF, without it; bytes after the last LF, if any, are a line too
abbrev pub lines : List ℕ → List (List ℕ)
lines [] = []
lines (b ∷ bytes) = if b == 10 then [] ∷ lines bytes else begin_line b (lines bytes)

-- a byte at the front of the first line, if there is one
abbrev pub grow_line : ℕ → List (List ℕ) → List (List ℕ)
grow_line b [] = []
grow_line b (line ∷ later) = (b ∷ line) ∷ later

-- the bytes up to each LF, without it
abbrev pub ended_lines : List ℕ → List (List ℕ)
ended_lines [] = []
ended_lines (b ∷ bytes) =
    if b == 10 then [] ∷ ended_lines bytes else grow_line b (ended_lines bytes)

-- lines with an LF after each
abbrev pub joined : List (List ℕ) → List ℕ
joined [] = []
joined (line ∷ later) = line ++ 10 ∷ joined later
