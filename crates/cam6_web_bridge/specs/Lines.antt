-- Texts that are one line.
use Rattle.std.specs.Prelude.{◌≢◌, ◌≤◌, ◌++◌, ◌∷◌, [], ℕ, List, All, length}

-- no byte of it is an LF
abbrev pub HasNoLf : List ℕ → Type 0
HasNoLf = All (λ b. b ≢ 10)

-- the most bytes of a message: those of the longest line
abbrev pub max_message : ℕ
max_message = 2097152

-- a text is one line, and no longer than any line may be
pub record IsLine (line : List ℕ) : Type 0 where
  pub one_line : HasNoLf line
  pub fits : length line ≤ max_message

-- a line as it is sent, with its LF
abbrev pub sent_line : List ℕ → List ℕ
sent_line line = line ++ 10 ∷ []

-- lines as they are sent, one after another
abbrev pub sent_lines : List (List ℕ) → List ℕ
sent_lines [] = []
sent_lines (line ∷ later) = sent_line line ++ sent_lines later
