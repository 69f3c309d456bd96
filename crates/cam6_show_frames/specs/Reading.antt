-- A line of a reader. Its bytes may not be known.
use Rattle.std.specs.Prelude.{◌≡◌, ℕ, List, [], ◌∷◌, Option, Some, IfSome, ⊤}
use Rattle.cam6_show_frames.specs.Lines.{lines}
use Rattle.cam6_show_frames.specs.declared.lines.Reading.{Reading}
use Rattle.cam6_show_frames.specs.declared.lines.Reading.TheVariants.{Line, EndOfInput}
use Rattle.cam6_show_frames.specs.declared.lines.Reading.TheVariants.{ReadFault, NoMemory}

-- the first line of the bytes was read, or no byte is left
abbrev pub ReadsOf : Reading → List ℕ → Option (List ℕ) → List ℕ → Type 0
ReadsOf Line all new line =
    (rest : List ℕ) × (new ≡ Some rest) × (lines all ≡ line ∷ lines rest)
ReadsOf EndOfInput all new line = all ≡ []
ReadsOf ReadFault all new line = ⊤
ReadsOf NoMemory all new line = ⊤

-- the same for a reader with known bytes
abbrev pub Reads : Reading → Option (List ℕ) → Option (List ℕ) → List ℕ → Type 0
Reads reading old new line = IfSome old (λ all. ReadsOf reading all new line)
