-- What is kept of a line.
use Rattle.std.specs.Prelude.{◌≡◌, ◌<◌, ◌≤◌, ℕ, List, ◌++◌, length, MatchBool, Bool, not, ◌&&◌}
use Rattle.std.specs.Prelude.{◌==◌}
use Rattle.cam6_wire.specs.Limits.{limit_of}

-- the bytes of a line, unless there are too many
pub record Held : Type 0 where
  pub bytes : List ℕ
  pub is_long : Bool

-- what is kept stands for this line
abbrev pub Holds : Held → List ℕ → Type 0
Holds held line =
    MatchBool held.is_long (limit_of line < length line)
    ((held.bytes ≡ line) × (length line ≤ limit_of line))

-- if the old stands for some line, the new stands for that line with a part after it
abbrev pub Grows : Held → Held → List ℕ → Type 0
Grows old new part = (line : List ℕ) → Holds old line → Holds new (line ++ part)

-- the line has no byte
abbrev pub is_empty : Held → Bool
is_empty held = not held.is_long && (length held.bytes == 0)
