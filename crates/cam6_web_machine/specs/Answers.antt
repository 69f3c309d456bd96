-- How a private machine answers lines.
use Rattle.std.specs.Prelude.{◌≡◌, ◌⊎◌, ℕ, List, Ok, false}
use Rattle.cam6_commands.specs.declared.commands.Command.{Command}
use Rattle.cam6_commands.specs.declared.replies.Reply.{Reply}
use Rattle.cam6_model.specs.Alone.{after, reply}
use Rattle.cam6_model.specs.Machine.{Machine}
use Rattle.cam6_session.specs.Answers.{after_line, text_to}
use Rattle.cam6_session.specs.Responding.{TakesMemory}
use Rattle.cam6_web_bridge.specs.Hosts.{HostWays}
use Rattle.cam6_web_bridge.specs.declared.hosts.Silence.{Silence}
use Rattle.cam6_web_bridge.specs.declared.hosts.Silence.TheVariants.{NoMemory}
use Rattle.cam6_wire.specs.Commands.{command}
use Rattle.cam6_wire.specs.Replies.{is_fixed}

-- a line is answered by the text of the machine's reply to what it says, or of the line's fault; the
-- machine is then as the command leaves it
pub record Answers (m : Machine) (line answer : List ℕ) (n : Machine) : Type 0 where
  pub text : answer ≡ text_to m (command line)
  pub machine : n ≡ after_line m (command line)

-- an allocation failed for the text of a reply, which is no fixed one
pub record IsUntold (reply : Reply) (silence : Silence) : Type 0 where
  pub memory : silence ≡ NoMemory
  pub made : is_fixed reply ≡ false

-- an allocation failed for a line: nothing is done, and memory is taken for it; or what it says is
-- done, and the reply isn't told
abbrev pub Fails : Machine → List ℕ → Silence → Machine → Type 0
Fails m line silence n =
    ((silence ≡ NoMemory) × (n ≡ m) × TakesMemory line)
    ⊎ ((c : Command) × (command line ≡ Ok c) × IsUntold (reply m c) silence × (n ≡ after m c))

abbrev pub by_private_machine : HostWays Machine
by_private_machine = record { answers = Answers; fails = Fails }
