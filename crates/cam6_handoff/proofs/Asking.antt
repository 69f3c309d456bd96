-- What is put and then collected is asked.
use Rattle.std.proofs.Common.{◌≡◌, ◌∙◌, ℕ, Some, ap, subst}
use Rattle.cam6_commands.specs.declared.commands.Command.{Command}
use Rattle.cam6_commands.specs.declared.replies.Reply.{Reply}
use Rattle.cam6_machine.specs.Stored.{machine_of}
use Rattle.cam6_model.specs.Alone.{reply, after}
use Rattle.cam6_model.specs.Machine.{Machine}
use Rattle.cam6_handoff.specs.Desks.{PutGives, CollectGives, AskGives, StandsAt}
use Rattle.cam6_handoff.specs.Rule.{asked_command}
use Rattle.cam6_handoff.specs.Standing.{Stance, standing, waiting, nowhere}
use Rattle.cam6_handoff.specs.declared.desks.Put.{Put}
use Rattle.cam6_handoff.specs.declared.desks.Put.TheVariants.{Waiting}

pub asked : (old between new : Stance) (c : Command) (put : Put) (r : Reply) → put ≡ Waiting →
    PutGives old c put between → CollectGives between (Some r) new → AskGives old c r new
asked old between new c put r is given =
    waited old between (subst (λ (p : Put). PutGives old c p between) is given)
  where
    waited : (old between : Stance) → PutGives old c Waiting between →
        CollectGives between (Some r) new → AskGives old c r new
    waited (waiting u q) between given collected = absurd given
    waited nowhere between given collected = absurd given
    waited (standing u s) (standing v t) given collected = absurd given.1
    waited (standing u s) nowhere given collected = absurd given.1
    waited (standing u s) (waiting v q) given collected =
        let same = given.1.0 in
        let machine = given.1.1 in
        let command = given.1.2 in (
          collected.0 ∙ ap (λ (m : Machine). reply m (asked_command q)) machine ∙
              ap (λ (d : Command). reply (machine_of s) d) command,
          subst (λ (w : ℕ). StandsAt w (after (machine_of s) c) new) same
              (subst (λ (d : Command). StandsAt v (after (machine_of s) d) new) command
              (subst (λ (m : Machine). StandsAt v (after m (asked_command q)) new) machine
              collected.1)),
        )
