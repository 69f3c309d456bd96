use Rattle.std.proofs.Common.{◌∙◌, sym, ap, subst}
use Rattle.cam6_core.specs.State.{State, with_user}
use Rattle.cam6_core.specs.Goes.{Moves, Spares}
use Rattle.cam6_core.specs.declared.parts.Whereabouts.TheVariants as whereabouts
use Rattle.cam6_commands.specs.declared.events.Event.TheVariants as event
use Rattle.cam6_commands.specs.declared.outcomes.Outcome.TheVariants as outcome
use Rattle.cam6_core.proofs.Asks.{replaced, as_it_was, ask_spares, finished_at_once, put_in_queue, was_wanted}
use Rattle.cam6_core.proofs.parts.Core.ask.Goals as goal

pub returns-in-NoMemory-clause-takes : goal.returns-in-NoMemory-clause-takes
returns-in-NoMemory-clause-takes c =
    let s = c.args.self.now in
    let u = c.args.user in
    let y = whereabouts.Resting c.in-NoMemory.same in
    let is = c.set_user.ensures ∙
    ap (λ (z : State). with_user z u y) c.take_user.ensures.now ∙
    replaced s u whereabouts.Out y in (
      was_wanted s u c.args.command c.in-Resting.resting c.in-Resting.ensures.was
          c.in-NoMemory.ensures.memory,
      is ∙ ap (λ r. with_user s u (whereabouts.Resting r)) c.in-NoMemory.ensures.back ∙
          as_it_was s u (whereabouts.Resting c.in-Resting.resting) c.in-Resting.ensures.was,
    )

pub returns-in-NoMemory-clause-others : goal.returns-in-NoMemory-clause-others
returns-in-NoMemory-clause-others c =
    let s = c.args.self.now in
    let u = c.args.user in
    let y = whereabouts.Resting c.in-NoMemory.same in
    let is = c.set_user.ensures ∙
    ap (λ (z : State). with_user z u y) c.take_user.ensures.now ∙
    replaced s u whereabouts.Out y in
    subst (Spares (event.Ask u c.args.command) s) (sym is) (ask_spares s u c.args.command y)

pub returns-in-Finished-clause-takes : goal.returns-in-Finished-clause-takes
returns-in-Finished-clause-takes c =
    let s = c.args.self.now in
    let u = c.args.user in
    let y = whereabouts.Finished c.in-Finished.finished in
    let is = c.set_user-in-Finished.ensures ∙
    ap (λ (z : State). with_user z u y) c.take_user.ensures.now ∙
    replaced s u whereabouts.Out y in
    subst (Moves s (event.Ask u c.args.command) (outcome.Asked 0)) (sym is)
    (finished_at_once s u c.args.command c.in-Resting.resting c.in-Resting.ensures.was
    c.in-Finished.finished c.in-Finished.ensures.stands c.in-Finished.ensures.left)

pub returns-in-Finished-clause-others : goal.returns-in-Finished-clause-others
returns-in-Finished-clause-others c =
    let s = c.args.self.now in
    let u = c.args.user in
    let y = whereabouts.Finished c.in-Finished.finished in
    let is = c.set_user-in-Finished.ensures ∙
    ap (λ (z : State). with_user z u y) c.take_user.ensures.now ∙
    replaced s u whereabouts.Out y in
    subst (Spares (event.Ask u c.args.command) s) (sym is) (ask_spares s u c.args.command y)

pub returns-in-Queued-clause-takes : goal.returns-in-Queued-clause-takes
returns-in-Queued-clause-takes c =
    let s = c.args.self.now in
    let u = c.args.user in
    let y = whereabouts.Queued c.in-Queued.queued in
    let is = c.set_user-in-Queued.ensures ∙
    ap (λ (z : State). with_user z u y) c.take_user.ensures.now ∙
    replaced s u whereabouts.Out y in
    subst (Moves s (event.Ask u c.args.command) (outcome.Asked c.left-left.result)) (sym is)
    (subst (λ n. Moves s (event.Ask u c.args.command) (outcome.Asked n) (with_user s u y))
    (sym c.left-left.ensures.left)
    (put_in_queue s u c.args.command c.in-Resting.resting c.in-Resting.ensures.was
    c.in-Queued.queued c.left-left.ensures.always c.in-Queued.ensures.stands
    c.in-Queued.ensures.left.0
    c.in-Queued.ensures.home c.in-Queued.ensures.left.1))

pub returns-in-Queued-clause-others : goal.returns-in-Queued-clause-others
returns-in-Queued-clause-others c =
    let s = c.args.self.now in
    let u = c.args.user in
    let y = whereabouts.Queued c.in-Queued.queued in
    let is = c.set_user-in-Queued.ensures ∙
    ap (λ (z : State). with_user z u y) c.take_user.ensures.now ∙
    replaced s u whereabouts.Out y in
    subst (Spares (event.Ask u c.args.command) s) (sym is) (ask_spares s u c.args.command y)
