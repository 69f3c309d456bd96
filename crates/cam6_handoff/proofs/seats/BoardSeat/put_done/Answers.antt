use Rattle.std.proofs.Common.{rules, ℕ, Option, sym, ap, ◌∙◌, subst}
use Rattle.cam6_handoff.specs.Rule.{Seated}
use Rattle.cam6_handoff.specs.Holding.{BoardStance, emptied}
use Rattle.cam6_handoff.specs.Internal.Tokens.{board_stance, TakenToken}
use Rattle.cam6_handoff.proofs.Tokens.{held, accepts_done_at}
use Rattle.cam6_handoff.proofs.seats.BoardSeat.put_done.Goals as goal

pub give_done-requires-clause-at : goal.give_done-requires-clause-at
give_done-requires-clause-at c =
    let h = held _ _ _ _ _ _ c.self.invariant.4 c.take.ensures.value c.in-Some.is in
    let within = h.0 in
    search rules

pub give_done-requires-clause-holds : goal.give_done-requires-clause-holds
give_done-requires-clause-holds c =
    let h = held _ _ _ _ _ _ c.self.invariant.4 c.take.ensures.value c.in-Some.is in
    (c.self.inside.board, h.1.0, h.1.1)

pub give_done-requires-clause-is_done : goal.give_done-requires-clause-is_done
give_done-requires-clause-is_done c =
    accepts_done_at c.in-Some.row c.args.self.now.holds c.args.finished c.self.inside.seat.me
    (ap (λ (z : BoardStance). z.holds) (sym c.self.view_is)) c.requires

pub invariant_of-self : goal.invariant_of-self
invariant_of-self c =
    let h = held _ _ _ _ _ _ c.self.invariant.4 c.take.ensures.value c.in-Some.is in
    let e = c.give_done.ensures.idle c.self.inside.board h.1.0 h.1.1 in
    let i = c.self.invariant in (
      c.give_done.ensures.at.0 ∙ ap (λ t. t.shared.table_id) c.deref.ensures,
      i.1,
      i.2,
      i.3,
      subst (λ (t : Option ℕ). TakenToken c.self.inside.users c.self.inside.board t
          c.give_done.new.token.me) (sym c.take.ensures.after) e,
      i.5,
    )

pub returns : goal.returns
returns c =
    let h = held _ _ _ _ _ _ c.self.invariant.4 c.take.ensures.value c.in-Some.is in
    let e = c.give_done.ensures.idle c.self.inside.board h.1.0 h.1.1 in
    ap (λ (m : Seated). board_stance c.self.inside.board c.self.inside.users c.self.inside.filling
    m.0) e ∙
    ap emptied c.self.view_is
