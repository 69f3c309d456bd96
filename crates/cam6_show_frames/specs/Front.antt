-- What writing adds to a writer. Its bytes may not be known.
use Rattle.std.specs.Prelude.{ℕ, List, Option, Result, Ok, Err}
use Rattle.std.specs.Io.KnownBytes.{Appends}
use Rattle.cam6_writing.specs.Front.{WritesSome}
use Rattle.cam6_show_frames.specs.declared.showing.Unshown.{Unshown}

-- all of these bytes were written if it went well, or else a prefix of them
abbrev pub WritesFront : Result (Unit {0}) Unshown → Option (List ℕ) → Option (List ℕ) → List ℕ
    → Type 0
WritesFront (Ok done) old new bytes = Appends old new bytes
WritesFront (Err fault) old new bytes = WritesSome old new bytes
