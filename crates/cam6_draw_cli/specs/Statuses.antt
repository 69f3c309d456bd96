-- The exit status of each end, with its line.
use Rattle.std.specs.Prelude.{ℕ, List, ◌++◌, Option, None, Some, codes, decimal}
use Rattle.cam6_planes.specs.Limits.{max_columns}
use Rattle.cam6_arguments.specs.Program.{name_of, message_of}
use Rattle.cam6_arguments.specs.declared.programs.Program.{Program}
use Rattle.cam6_arguments.specs.declared.programs.Program.TheVariants.{Rle}
use Rattle.cam6_show_frames.specs.declared.showing.End.{End}
use Rattle.cam6_show_frames.specs.declared.showing.End.TheVariants.{EndOfInput, NoReply, BreaksOff}
use Rattle.cam6_show_frames.specs.declared.showing.End.TheVariants.{ReadFault, WriteFault, NoMemory}
use Rattle.cam6_show_frames.specs.declared.showing.End.TheVariants.{TooManyLines}
use Rattle.cam6_patterns.specs.declared.faults.Cause.{Cause}
use Rattle.cam6_patterns.specs.declared.faults.Cause.TheVariants as cause
use Rattle.cam6_patterns.specs.declared.faults.PatternFault.{PatternFault}

-- a text after the program's name and the number of a line
abbrev pub at_line : Program → ℕ → List ℕ → List ℕ
at_line program line text = name_of program ++ codes ": line " ++ decimal line ++ text

-- none at the end of input: the program succeeds
abbrev pub failure : Program → End → Option (ℕ × List ℕ)
failure program EndOfInput = None
failure program (NoReply line) = Some (3, at_line program line (codes " is not a reply\n"))
failure program (BreaksOff line) =
    Some (3, at_line program line (codes " leaves a frame incomplete\n"))
failure program ReadFault = Some (3, message_of program (codes "read failed\n"))
failure program WriteFault = Some (4, message_of program (codes "write failed\n"))
failure program NoMemory = Some (5, message_of program (codes "no memory\n"))
failure program TooManyLines = Some (6, message_of program (codes "too many lines\n"))

-- why a text is no pattern
abbrev pub cause_told : Cause → List ℕ
cause_told cause.NoHeader = codes ": a header is needed, for example x = 3, y = 3\n"
cause_told cause.Unexpected = codes ": an unexpected byte\n"
cause_told cause.CountTooLarge = codes ": a number above " ++ decimal max_columns ++ codes "\n"
cause_told cause.TooWide = codes ": too wide\n"
cause_told cause.TooHigh = codes ": too high\n"
cause_told cause.TooManyStates = codes ": more states than the planes hold\n"
cause_told cause.NoEnd = codes ": the end, !, is missing\n"

-- a text after the number of a column
abbrev pub column_told : ℕ → List ℕ → List ℕ
column_told column text = codes ", column " ++ decimal column ++ text

-- the first fault of a text, and where, as `cam6_rle` reports it
abbrev pub fault_told : PatternFault → List ℕ
fault_told fault =
    at_line Rle fault.line
    (column_told fault.column (cause_told fault.cause))
