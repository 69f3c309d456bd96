use Rattle.std.proofs.Common.{◌∙◌, sym, refl, ap, subst}
use Rattle.cam6_core.specs.State.{State, with_user, with_board}
use Rattle.cam6_core.specs.Goes.{Moves, Spares}
use Rattle.cam6_core.specs.declared.parts.Whereabouts.TheVariants as whereabouts
use Rattle.cam6_commands.specs.declared.events.Event.TheVariants as event
use Rattle.cam6_commands.specs.declared.outcomes.Outcome.TheVariants as outcome
use Rattle.cam6_station.specs.Held as board
use Rattle.cam6_core.proofs.Boards.{preempt_goes, spares_boards}
use Rattle.cam6_core.proofs.parts.Core.preempt.Goals as goal

pub returns-clause-takes : goal.returns-clause-takes
returns-clause-takes c =
    let s = c.args.self.now in
    let b = c.args.board in
    let u = c.preempt_board-user.result.0 in
    let q = c.preempt_board-user.result.1 in
    let is = c.set_user.ensures ∙
    ap (λ (z : State). with_user z u (whereabouts.Queued q)) c.preempt_board-user.ensures.idle in
    subst (Moves s (event.Preempt b) (outcome.Preempted c.left-left.result)) (sym is)
    (subst (λ n. Moves s (event.Preempt b) (outcome.Preempted n)
    (with_user (with_board s b board.idle) u (whereabouts.Queued q))) (sym c.left-left.ensures.left)
    (preempt_goes s b c.places_have_the_side.ensures.law u q c.left-left.ensures.always c.requires
    c.preempt_board-user.ensures.back c.preempt_board-user.ensures.user).0)

pub returns-clause-others : goal.returns-clause-others
returns-clause-others c =
    let s = c.args.self.now in
    let b = c.args.board in
    let u = c.preempt_board-user.result.0 in
    let q = c.preempt_board-user.result.1 in
    let is = c.set_user.ensures ∙
    ap (λ (z : State). with_user z u (whereabouts.Queued q)) c.preempt_board-user.ensures.idle in
    subst (Spares (event.Preempt b) s) (sym is) (
      (preempt_goes s b c.places_have_the_side.ensures.law u q c.left-left.ensures.always c.requires
          c.preempt_board-user.ensures.back c.preempt_board-user.ensures.user).1,
      spares_boards s b board.idle,
      refl,
    )
