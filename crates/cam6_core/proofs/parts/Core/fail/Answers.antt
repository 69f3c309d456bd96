use Rattle.std.proofs.Common.{◌∙◌, sym, refl, ap, subst, Some}
use Rattle.cam6_core.specs.State.{State, with_user, with_board}
use Rattle.cam6_core.specs.Goes.{Moves, Spares}
use Rattle.cam6_core.specs.declared.parts.Whereabouts.TheVariants as whereabouts
use Rattle.cam6_commands.specs.declared.events.Event.TheVariants as event
use Rattle.cam6_commands.specs.declared.outcomes.Outcome.TheVariants as outcome
use Rattle.cam6_station.specs.Held as board
use Rattle.cam6_core.proofs.Boards.{fail_goes, idle_goes, spares_boards}
use Rattle.cam6_core.proofs.parts.Core.fail.Goals as goal

pub returns-in_default-clause-takes : goal.returns-in_default-clause-takes
returns-in_default-clause-takes c =
    let s = c.args.self.now in
    let b = c.args.board in
    subst (Moves s (event.Fail b) (outcome.Failed _)) (sym c.in_default.ensures.dead)
    (idle_goes s b c.in_default.ensures.back).0

pub returns-in_default-clause-others : goal.returns-in_default-clause-others
returns-in_default-clause-others c =
    let s = c.args.self.now in
    let b = c.args.board in
    subst (Spares (event.Fail b) s) (sym c.in_default.ensures.dead)
    ((idle_goes s b c.in_default.ensures.back).1, spares_boards s b board.dead, refl)

pub returns-clause-takes : goal.returns-clause-takes
returns-clause-takes c =
    let s = c.args.self.now in
    let b = c.args.board in
    let u = c.in-Some.back.0 in
    let q = c.in-Some.back.1 in
    let is = c.set_user.ensures ∙
    ap (λ (z : State). with_user z u (whereabouts.Queued q)) c.in-Some.ensures.dead in
    subst (Moves s (event.Fail b) (outcome.Failed (Some c.left-left.result))) (sym is)
    (subst (λ n. Moves s (event.Fail b) (outcome.Failed (Some n))
    (with_user (with_board s b board.dead) u (whereabouts.Queued q))) (sym c.left-left.ensures.left)
    (fail_goes s b u q c.left-left.ensures.always c.in-Some.ensures.back c.in-Some.ensures.user).0)

pub returns-clause-others : goal.returns-clause-others
returns-clause-others c =
    let s = c.args.self.now in
    let b = c.args.board in
    let u = c.in-Some.back.0 in
    let q = c.in-Some.back.1 in
    let is = c.set_user.ensures ∙
    ap (λ (z : State). with_user z u (whereabouts.Queued q)) c.in-Some.ensures.dead in
    subst (Spares (event.Fail b) s) (sym is) (
      (fail_goes s b u q c.left-left.ensures.always c.in-Some.ensures.back c.in-Some.ensures.user).1,
      spares_boards s b board.dead,
      refl,
    )
