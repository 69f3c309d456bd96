use Rattle.std.proofs.Common.{◌∙◌, sym, refl, ap, subst}
use Rattle.cam6_core.specs.State.{State, with_user, board_of}
use Rattle.cam6_core.specs.Goes.{Moves, Spares}
use Rattle.cam6_core.specs.declared.parts.Whereabouts.TheVariants as whereabouts
use Rattle.cam6_commands.specs.declared.events.Event.TheVariants as event
use Rattle.cam6_commands.specs.declared.outcomes.Outcome.TheVariants as outcome
use Rattle.cam6_core.proofs.Boards.{band_goes, band_ends, spares_boards}
use Rattle.cam6_core.proofs.parts.Core.band.Goals as goal

pub returns-in-More-clause-takes : goal.returns-in-More-clause-takes
returns-in-More-clause-takes c =
    let s = c.args.self.now in
    let b = c.args.board in
    let new = board_of c.run_band.new.self b in
    subst (Moves s (event.Band b) (outcome.Banded c.in-More.left)) (sym c.in-More.ensures.others)
    (band_goes s b c.in-More.left new c.requires c.in-More.ensures.gives).0

pub returns-in-More-clause-others : goal.returns-in-More-clause-others
returns-in-More-clause-others c =
    let s = c.args.self.now in
    let b = c.args.board in
    let new = board_of c.run_band.new.self b in
    subst (Spares (event.Band b) s) (sym c.in-More.ensures.others) (
      (band_goes s b c.in-More.left new c.requires c.in-More.ensures.gives).1,
      spares_boards s b new,
      refl,
    )

pub returns-in-Last-clause-takes : goal.returns-in-Last-clause-takes
returns-in-Last-clause-takes c =
    let s = c.args.self.now in
    let b = c.args.board in
    let new = board_of c.run_band.new.self b in
    let f = whereabouts.Finished c.in-Last.finished in
    let is = c.set_user.ensures ∙
    ap (λ (z : State). with_user z c.in-Last.user f) c.in-Last.ensures.others in
    subst (Moves s (event.Band b) (outcome.Banded 0)) (sym is)
    (band_ends s b c.in-Last.user c.in-Last.finished new c.requires c.in-Last.ensures.gives
    c.in-Last.ensures.user).0

pub returns-in-Last-clause-others : goal.returns-in-Last-clause-others
returns-in-Last-clause-others c =
    let s = c.args.self.now in
    let b = c.args.board in
    let new = board_of c.run_band.new.self b in
    let f = whereabouts.Finished c.in-Last.finished in
    let is = c.set_user.ensures ∙
    ap (λ (z : State). with_user z c.in-Last.user f) c.in-Last.ensures.others in
    subst (Spares (event.Band b) s) (sym is) (
      (band_ends s b c.in-Last.user c.in-Last.finished new c.requires c.in-Last.ensures.gives
          c.in-Last.ensures.user).1,
      spares_boards s b new,
      refl,
    )
