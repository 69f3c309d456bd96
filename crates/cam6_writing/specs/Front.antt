-- What writing adds to a writer. Its bytes may be unknown.
use Rattle.std.specs.Prelude.{◌≡◌, ℕ, List, ◌++◌, Option, Result, Ok, Err}
use Rattle.std.specs.Io.KnownBytes.{Appends}
use Rattle.cam6_writing.specs.declared.writers.WriteFault.{WriteFault}

-- some prefix of these bytes was written
abbrev pub WritesSome : Option (List ℕ) → Option (List ℕ) → List ℕ → Type 0
WritesSome old new bytes =
    (part rest : List ℕ) × (bytes ≡ part ++ rest) × Appends old new part

-- all of these bytes were written if it went well, or else some prefix of them
abbrev pub WritesFront : Result (Unit {0}) WriteFault → Option (List ℕ) → Option (List ℕ) → List ℕ
    → Type 0
WritesFront (Ok done) old new bytes = Appends old new bytes
WritesFront (Err fault) old new bytes = WritesSome old new bytes
