-- For which lines memory is taken.
use Rattle.std.proofs.Common.{◌≡◌, ◌≢◌, ◌<◌, ℕ, List, [], ◌∷◌, length, Ok, arith}
use Rattle.cam6_commands.specs.declared.commands.Command.{Command}
use Rattle.cam6_wire.specs.Commands.{command}
use Rattle.cam6_wire.proofs.Showing.{said_is_shown, said_not_empty}
use Rattle.cam6_session.specs.Responding.{TakesMemory}

not_nil : (line : List ℕ) → 0 < length line → line ≢ []
not_nil [] some = absurd (omega arith)
not_nil (byte ∷ bytes) some = λ e. let never : ⊥ = cc in absurd never

-- a line that says a command has a byte or more, and not too many
pub command_takes_memory : (line : List ℕ) (c : Command) → command line ≡ Ok c → TakesMemory line
command_takes_memory line c said =
    (not_nil line (said_not_empty line c said), (said_is_shown line c said).0)
