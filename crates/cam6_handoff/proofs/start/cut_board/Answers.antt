use Rattle.std.proofs.Common.{rules, ℕ, ◌+◌, sym, subst}
use Rattle.atomic_table.specs.Table.{Splits}
use Rattle.cam6_handoff.specs.Rule.{Rule, Seated}
use Rattle.cam6_handoff.specs.Internal.Cutting.{after_board, new_board}
use Rattle.cam6_handoff.proofs.Keeps.{cuts_board}
use Rattle.cam6_handoff.proofs.start.cut_board.Goals as goal

pub split_seat-seat-requires : goal.split_seat-seat-requires
split_seat-seat-requires c =
    let n : ℕ = c.args.users in
    let b : ℕ = c.args.board in
    let users : ℕ = c.deref.result.now.shared.key.users in
    let id : ℕ = c.args.first.now.id in (
      search rules,
      search rules,
      subst (λ (m : Seated). Splits (Rule users) id m.0 (after_board m.0) (new_board m.0))
          (sym c.requires.next) (cuts_board users id n b (b + 1) b),
    )
