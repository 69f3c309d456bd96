-- What a host is told in a bridge, and what it says, as bytes.
use Rattle.std.specs.Prelude.{List, ℕ, [], ◌∷◌, ◌++◌}
use Rattle.std.specs.Io.KnownBytes.{Appends, Consumes}
use Rattle.cam6_web_bridge.specs.HostLines.{Lines, by_lines}
use Rattle.cam6_web_bridge.specs.Lines.{sent_lines}
use Rattle.cam6_web_bridge.specs.Pages.{PageWays}
use Rattle.cam6_web_bridge.specs.Bridges.{Heard, Life, Line, Nothing, Bridges}

-- the texts that were handed over in a bridge, in order
abbrev pub texts_of : List Heard → List (List ℕ)
texts_of [] = []
texts_of (Line line answer ∷ before) = texts_of before ++ line ∷ []
texts_of (Life ∷ before) = texts_of before
texts_of (Nothing ∷ before) = texts_of before

-- the texts that were sent in it, in order
abbrev pub answers_of : List Heard → List (List ℕ)
answers_of [] = []
answers_of (Line line answer ∷ before) = answers_of before ++ answer ∷ []
answers_of (Life ∷ before) = answers_of before
answers_of (Nothing ∷ before) = answers_of before

-- the host was told the texts, each with its LF, and the answers are the lines that it said
abbrev pub HostIsToldTheTexts : {P : Type 0} → PageWays P → Type 0
HostIsToldTheTexts {P} page =
    (s t : P) (h k : Lines) (heard : List Heard) → Bridges page by_lines s h heard t k →
    Appends h.told k.told (sent_lines (texts_of heard)) ×
    Consumes h.left k.left (sent_lines (answers_of heard))
