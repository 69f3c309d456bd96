use Rattle.std.proofs.Common.{rules, ℕ, sym, subst}
use Rattle.atomic_table.specs.Table.{Splits}
use Rattle.cam6_handoff.specs.Rule.{Rule, Seated}
use Rattle.cam6_handoff.specs.Internal.Cutting.{after_desk, new_desk}
use Rattle.cam6_handoff.proofs.Keeps.{cuts_desk}
use Rattle.cam6_handoff.proofs.start.cut_desk.Goals as goal

pub split_seat-seat-requires : goal.split_seat-seat-requires
split_seat-seat-requires c =
    let u : ℕ = c.args.row in
    let users : ℕ = c.deref.result.now.shared.key.users in
    let id : ℕ = c.args.first.now.id in (
      search rules,
      search rules,
      subst (λ (m : Seated). Splits (Rule users) id m.0 (after_desk m.0) (new_desk m.0))
          (sym c.requires.next) (cuts_desk users id 0 u),
    )
