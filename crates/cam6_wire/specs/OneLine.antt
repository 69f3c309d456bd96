-- Texts that are one line.
use Rattle.std.specs.Prelude.{◌≢◌, ℕ, List, All}

-- no byte of it is an LF
abbrev pub HasNoLf : List ℕ → Type 0
HasNoLf = All (λ x. x ≢ 10)
