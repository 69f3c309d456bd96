use Rattle.std.proofs.Common.{◌∙◌, sym, ap, subst}
use Rattle.cam6_core.specs.State.{State, with_user}
use Rattle.cam6_core.specs.Goes.{Moves, Spares}
use Rattle.cam6_core.specs.declared.parts.Whereabouts.TheVariants as whereabouts
use Rattle.cam6_commands.specs.declared.events.Event.TheVariants as event
use Rattle.cam6_commands.specs.declared.outcomes.Outcome.TheVariants as outcome
use Rattle.cam6_core.proofs.Asks.{replaced}
use Rattle.cam6_core.proofs.Collects.{collect_spares, collected}
use Rattle.cam6_core.proofs.parts.Core.collect.Goals as goal

pub returns-clause-takes : goal.returns-clause-takes
returns-clause-takes c =
    let s = c.args.self.now in
    let u = c.args.user in
    let y = whereabouts.Resting c.collect-resting.result.0 in
    let is = c.set_user.ensures ∙
    ap (λ (z : State). with_user z u y) c.take_user.ensures.now ∙
    replaced s u whereabouts.Out y in
    subst (Moves s (event.Collect u) (outcome.Collected c.collect-resting.result.1)) (sym is)
    (subst (λ r. Moves s (event.Collect u) (outcome.Collected r) (with_user s u y))
    (sym c.collect-resting.ensures.reply)
    (collected s u c.in-Finished.finished c.collect-resting.result.0 c.in-Finished.ensures.was
    c.collect-resting.ensures.machine))

pub returns-clause-others : goal.returns-clause-others
returns-clause-others c =
    let s = c.args.self.now in
    let u = c.args.user in
    let y = whereabouts.Resting c.collect-resting.result.0 in
    let is = c.set_user.ensures ∙
    ap (λ (z : State). with_user z u y) c.take_user.ensures.now ∙
    replaced s u whereabouts.Out y in
    subst (Spares (event.Collect u) s) (sym is) (collect_spares s u y)
