-- Actions one after another.
use Rattle.std.proofs.Common.{ℕ, List, [], ◌∷◌, ◌++◌, length, sym, subst}
use Rattle.cam6_commands.specs.declared.commands.Command.{Command}
use Rattle.cam6_commands.specs.declared.outcomes.Outcome.{Outcome}
use Rattle.cam6_commands.specs.declared.replies.Reply.{Reply}
use Rattle.cam6_model.specs.Alone.{replies}
use Rattle.cam6_model.specs.Machine.{blank}
use Rattle.cam6_core.specs.Fresh.{fresh}
use Rattle.cam6_core.specs.Headline.{AreGiven, commands}
use Rattle.cam6_core.specs.Model.{Model}
use Rattle.cam6_core.specs.Runs.{after_all}
use Rattle.cam6_core.specs.State.{at_number}
use Rattle.cam6_core.proofs.Heads.{headline}
use Rattle.cam6_handoff_laws.specs.Actions.{Action}
use Rattle.cam6_handoff_laws.specs.Configurations.{Configuration, IsAtModel}
use Rattle.cam6_handoff_laws.specs.Executions.{events_of, put_by, told_by, events_in, put_in, told_in}
use Rattle.cam6_handoff_laws.specs.Executions.{Executes, AreEvents}
use Rattle.cam6_handoff_laws.specs.Threads.{ExecutionIsEvents, DesksGiveTheReplies}
use Rattle.cam6_handoff_laws.proofs.Acting.{action_is_events}
use Rattle.cam6_handoff_laws.proofs.Beginning.{begins_at_fresh}
use Rattle.cam6_handoff_laws.proofs.Events.{no_events, both_events}

pub executes : (users : ℕ) (actions : List Action) (k end : Configuration) (a : Model) →
    IsAtModel users k a → Executes users k actions end →
    (rs : List Outcome)
    × AreEvents users a (events_in actions) rs (λ u. put_in u actions) (λ u. told_in u actions) end
unfolding Executes events_in put_in told_in
executes users [] k end a at does =
    ([], no_events users a end (subst (λ (c : Configuration). IsAtModel users c a) (sym does) at))
executes users (action ∷ later) k end a at does =
    let next = does.0 in
    let first = action_is_events users k next a action at does.1 in
    let b = after_all a (events_of action) first.0 in
    let then = executes users later next end b first.1.at does.2 in (
      first.0 ++ then.0,
      both_events users a (events_of action) (events_in later) first.0 then.0
          (λ u. put_by u action) (λ u. put_in u later) (λ u. told_by u action)
          (λ u. told_in u later) next end first.1 then.1,
    )

pub execution_is_events : ExecutionIsEvents
execution_is_events limits boards k end actions begins does =
    executes (length limits) actions k end (fresh limits boards) (begins_at_fresh limits boards k begins)
    does

pub desks_give_the_replies : DesksGiveTheReplies
desks_give_the_replies limits boards k end actions u limit begins does at =
    let all = execution_is_events limits boards k end actions begins does in
    let es = events_in actions in
    let head = headline es all.0 end.held limits boards all.1.outcomes all.1.at.good u limit at in
    subst (λ (cs : List Command). AreGiven (at_number end.held.users u) (told_in u actions)
    (replies (blank limit) cs)) (all.1.asked u)
    (subst (λ (xs : List Reply). AreGiven (at_number end.held.users u) xs
    (replies (blank limit) (commands u es all.0))) (all.1.given u) head)
