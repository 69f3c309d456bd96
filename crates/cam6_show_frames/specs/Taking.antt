-- What a line makes of the rows under way, and of what was written.
use Rattle.std.specs.Prelude.{◌≡◌, ℕ, List, [], ◌∷◌, flat_map, ⊤}
use Rattle.std.specs.Prelude.{Option, Some, None, option_and_then, Result, Ok, Err}
use Rattle.std.specs.Option.{option_to_list}
use Rattle.std.specs.Io.KnownBytes.{Keeps, Appends}
use Rattle.cam6_show_frames.specs.declared.replies.ReplyCells.{ReplyCells}
use Rattle.cam6_show_frames.specs.Replies.{said}
use Rattle.cam6_show_frames.specs.Run.{Taken, taken}
use Rattle.cam6_writing.specs.Front.{WritesSome}
use Rattle.cam6_show_frames.specs.declared.showing.End.{End}
use Rattle.cam6_show_frames.specs.declared.showing.End.TheVariants as end
use Rattle.cam6_show_frames.specs.declared.showing.Stop.{Stop}
use Rattle.cam6_show_frames.specs.declared.showing.Stop.TheVariants.{NoReply, BreaksOff, WriteFault}
use Rattle.cam6_show_frames.specs.declared.showing.Stop.TheVariants.{NoMemory}

-- what a line makes of rows, if it is a reply and the frame under way doesn't break off
abbrev pub step : List ℕ → List (List ℕ) → Option Taken
step line rows = option_and_then (taken rows) (said line)

-- the frame that was completed, if one was
abbrev pub frames_of : Option Taken → List (List (List ℕ))
frames_of None = []
frames_of (Some t) = option_to_list t.frame

-- the frame under way breaks off at the line
abbrev pub BreaksAt : List ℕ → List (List ℕ) → Type 0
BreaksAt line rows = (s : ReplyCells) × (said line ≡ Some s) × (taken rows s ≡ None)

-- a line is taken, or why it isn't
abbrev pub TakesReply : List ℕ → List (List ℕ) → Result (Option (List (List ℕ))) Stop
    → List (List ℕ) → Type 0
TakesReply line old (Ok frame) new = step line old ≡ Some (record { rows = new; frame = frame })
TakesReply line old (Err NoReply) new = said line ≡ None
TakesReply line old (Err BreaksOff) new = BreaksAt line old
TakesReply line old (Err WriteFault) new = ⊥
TakesReply line old (Err NoMemory) new = ⊤

-- a picture was written, or else a prefix of it
abbrev pub ShowsFrame : Result (Unit {0}) Stop → Option (List ℕ) → Option (List ℕ) → List ℕ → Type 0
ShowsFrame (Ok done) old new bytes = Appends old new bytes
ShowsFrame (Err NoReply) old new bytes = ⊥
ShowsFrame (Err BreaksOff) old new bytes = ⊥
ShowsFrame (Err WriteFault) old new bytes = WritesSome old new bytes
ShowsFrame (Err NoMemory) old new bytes = WritesSome old new bytes

-- rows before and after a line, and what was written before and after it
pub record Change : Type 0 where
  pub old : List (List ℕ)
  pub new : List (List ℕ)
  pub before : Option (List ℕ)
  pub after : Option (List ℕ)

-- a line is taken, and the frame that it completes is shown, or why that isn't so
abbrev pub TakesLine : (List (List ℕ) → List ℕ) → List ℕ → Result (Unit {0}) Stop → Change
    → Type 0
TakesLine picture line (Ok done) c =
    (frame : Option (List (List ℕ)))
    × (step line c.old ≡ Some (record { rows = c.new; frame = frame }))
    × Appends c.before c.after (flat_map picture (option_to_list frame))
TakesLine picture line (Err NoReply) c = (said line ≡ None) × Keeps c.before c.after
TakesLine picture line (Err BreaksOff) c = BreaksAt line c.old × Keeps c.before c.after
TakesLine picture line (Err WriteFault) c =
    WritesSome c.before c.after (flat_map picture (frames_of (step line c.old)))
TakesLine picture line (Err NoMemory) c =
    WritesSome c.before c.after (flat_map picture (frames_of (step line c.old)))

-- how showing ends if line n isn't taken
abbrev pub end_at : ℕ → Stop → End
end_at n NoReply = end.NoReply n
end_at n BreaksOff = end.BreaksOff n
end_at n WriteFault = end.WriteFault
end_at n NoMemory = end.NoMemory

-- how showing ends after n lines, if none is left
abbrev pub end_after : ℕ → List (List ℕ) → End
end_after n [] = end.EndOfInput
end_after n (row ∷ rows) = end.BreaksOff n
