-- What is written for lines of replies: the pictures of the frames that they show, in their order.
use Rattle.std.specs.Prelude.{◌≡◌, ◌≤◌, ℕ, List, [], ◌++◌, length, Option, Some, IfSome, flat_map, ⊤}
use Rattle.cam6_show_frames.specs.Lines.{lines}
use Rattle.cam6_show_frames.specs.Course.{Course, course, Verdict, whole, no_reply, breaks_off}
use Rattle.cam6_show_frames.specs.declared.showing.End.{End}
use Rattle.cam6_show_frames.specs.declared.showing.End.TheVariants.{EndOfInput, NoReply, BreaksOff}
use Rattle.cam6_show_frames.specs.declared.showing.End.TheVariants.{ReadFault, WriteFault, NoMemory}
use Rattle.cam6_show_frames.specs.declared.showing.End.TheVariants.{TooManyLines}

-- what the lines of a text show
abbrev pub shown_in : List ℕ → Course
shown_in all = course (lines all) 0 []

-- the end says how the frames end, and all of them were written; or it came before
abbrev pub EndsSo : End → Verdict → List ℕ → Type 0
EndsSo EndOfInput verdict missing = (verdict ≡ whole) × (missing ≡ [])
EndsSo (NoReply line) verdict missing = (verdict ≡ no_reply line) × (missing ≡ [])
EndsSo (BreaksOff line) verdict missing = (verdict ≡ breaks_off line) × (missing ≡ [])
EndsSo ReadFault verdict missing = ⊤
EndsSo WriteFault verdict missing = ⊤
EndsSo NoMemory verdict missing = ⊤
EndsSo TooManyLines verdict missing = ⊤

-- the pictures of all frames were written, and the end says how the frames end; or a prefix of
-- them, if showing ended before
abbrev pub ShowsFrames : (List (List ℕ) → List ℕ) → End → Option (List ℕ) → Option (List ℕ)
    → Option (List ℕ) → Type 0
ShowsFrames picture end read old new =
    IfSome read (λ all. IfSome old (λ out.
    (written missing : List ℕ) ×
    (flat_map picture (shown_in all).frames ≡ written ++ missing) ×
    (new ≡ Some (out ++ written)) × EndsSo end (shown_in all).verdict missing))

-- the end says that there are too many lines only if there are at least 2^64 - 1
abbrev pub AreTooMany : End → Option (List ℕ) → Type 0
AreTooMany end read =
    end ≡ TooManyLines → IfSome read (λ all. 18446744073709551615 ≤ length (lines all))
