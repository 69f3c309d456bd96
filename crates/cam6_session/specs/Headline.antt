-- The main theorem: what a session with a private machine writes for what it reads.
use Rattle.std.specs.Prelude.{◌≡◌, ℕ, List, [], ◌++◌, Option, Some, IfSome, Result, map}
use Rattle.cam6_planes.specs.declared.sides.Side.{Side}
use Rattle.cam6_model.specs.Machine.{blank}
use Rattle.cam6_model.specs.Alone.{replies}
use Rattle.cam6_commands.specs.declared.commands.Command.{Command}
use Rattle.cam6_wire.specs.declared.faults.LineFault.{LineFault}
use Rattle.cam6_wire.specs.Commands.{command}
use Rattle.cam6_session.specs.Lines.{lines}
use Rattle.cam6_session.specs.Answers.{commands, texts_of}
use Rattle.cam6_session.specs.declared.sessions.End.{End}
use Rattle.cam6_session.specs.declared.sessions.End.TheVariants.{EndOfInput}

-- what each line of a text says
abbrev pub said_in : List ℕ → List (Result Command LineFault)
said_in all = map command (lines all)

-- the texts of the replies of a blank machine of this limit to all commands among a text's lines,
-- and of the faults of the other lines, in the order of the lines
abbrev pub answers_alone : Side → List ℕ → List ℕ
answers_alone limit all =
    texts_of (said_in all) (replies (blank limit) (commands (said_in all)))

-- the texts for the input's lines were written, or a prefix of them; all of them if the input's end
-- was met
abbrev pub WritesRepliesAlone :
    Side → End → Option (List ℕ) → Option (List ℕ) → Option (List ℕ) → Type 0
WritesRepliesAlone limit end read old new =
    IfSome read (λ all. IfSome old (λ out.
    (written missing : List ℕ) × (answers_alone limit all ≡ written ++ missing) ×
    (new ≡ Some (out ++ written)) × (end ≡ EndOfInput → missing ≡ [])))
