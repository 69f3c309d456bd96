-- Ways of answering lines. The machine's is one of them.
use Rattle.std.specs.Prelude.{◌≡◌, ℕ, List, [], ◌∷◌, ◌++◌}

-- how lines are answered. By `answers`, from where what is asked stands, a line may be answered by
-- these bytes, with an LF, and then what is asked stands there. By `does`, what a line says is done
-- from the one to the other, so that memory may be taken to write its answer
pub record Answering (S : Type 0) : Type 1 where
  pub answers : S → List ℕ → List ℕ → S → Type 0
  pub does : S → List ℕ → S → Type 0

-- lines may be answered by these bytes, one after another, from s on, and then it is t
abbrev pub AreAnswered : {S : Type 0} → Answering S → S → List (List ℕ) → List ℕ → S → Type 0
AreAnswered by s [] written t = (written ≡ []) × (t ≡ s)
AreAnswered {S} by s (line ∷ later) written t =
    (text rest : List ℕ) × (u : S) × by.answers s line text u × (written ≡ text ++ rest) ×
    AreAnswered by u later rest t
