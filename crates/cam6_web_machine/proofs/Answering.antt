-- A private machine runs out of memory for a line that says a command.
use Rattle.std.proofs.Common.{◌≡◌, ℕ, List, Result, Ok, Err, IfErr, inl, inr, refl, subst}
use Rattle.cam6_commands.specs.declared.commands.Command.{Command}
use Rattle.cam6_commands.specs.declared.replies.Reply.{Reply}
use Rattle.cam6_model.specs.Alone.{after, reply}
use Rattle.cam6_model.specs.Machine.{Machine}
use Rattle.cam6_session.proofs.Taking.{command_takes_memory}
use Rattle.cam6_web_machine.specs.Answers.{Fails, IsUntold}
use Rattle.cam6_web_bridge.specs.declared.hosts.Answer.{Answer}
use Rattle.cam6_web_bridge.specs.declared.hosts.Silence.{Silence}
use Rattle.cam6_web_bridge.specs.declared.hosts.Silence.TheVariants.{NoMemory}
use Rattle.cam6_wire.specs.Commands.{command}

module _ (m n : Machine) (line : List ℕ) (c : Command) (said : command line ≡ Ok c) where
  -- before the command is done
  pub undone : n ≡ m → Fails m line NoMemory n
  undone same = inl (refl, same, command_takes_memory line c said)

  -- or after it, for the text of its reply
  pub untold : (given : Reply) (r : Result Answer Silence) → given ≡ reply m c → n ≡ after m c →
      IfErr r (λ silence. IsUntold given silence) → IfErr r (λ silence. Fails m line silence n)
  untold given (Ok answer) is done told = tt
  untold given (Err silence) is done told =
      inr (c, said, subst (λ (r : Reply). IsUntold r silence) is told, done)
