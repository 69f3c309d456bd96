use Rattle.std.proofs.Common.{rules, ◌≡◌, ◌∙◌, ◌+◌, ◌-◌, ℕ, ap, arith}
use Rattle.cam6_handoff.specs.Rule.{Seated}
use Rattle.cam6_handoff.specs.Holding.{holding, BoardStance}
use Rattle.cam6_handoff.specs.Internal.Tokens.{board_stance}
use Rattle.cam6_handoff.proofs.seats.BoardSeat.try_take.Goals as goal

pub invariant_of-self-2 : goal.invariant_of-self-2
invariant_of-self-2 c =
    let i = c.self.invariant in (
      c.take.ensures.at.0 ∙ ap (λ t. t.shared.table_id) c.deref.ensures,
      i.1,
      i.2,
      i.3,
      (search rules, (c.in_ok-queued.queued, c.in_ok-queued.ensures.found)),
      i.5,
    )

pub returns : goal.returns
returns c =
    let q = c.in_ok-queued.queued in
    let s = c.self.inside in
    let number : c.args.user - 1 + 1 ≡ c.args.user = omega (arith, c.requires.a_user) in (
      q,
      ap (λ (m : Seated). board_stance s.board s.users s.filling m.0)
          c.in_ok-queued.ensures.found ∙
          ap (λ (k : ℕ). record (board_stance s.board s.users s.filling s.seat.me.0) {
            holds = holding k q;
          }) number ∙
          ap (λ (b : BoardStance). record b { holds = holding c.args.user q }) c.self.view_is,
      record {
        fits = c.lease.ensures.fits;
        left = c.lease.ensures.left;
        some = c.lease.ensures.some;
        home = c.lease.ensures.home;
        board = c.lease.ensures.board ∙ ap (λ (b : BoardStance). b.number) c.self.view_is;
        stands = c.lease.ensures.stands;
      },
    )
