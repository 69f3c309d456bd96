use Rattle.std.proofs.Common.{rules, ℕ, ◌∷◌, Some, refl, sym, ap, ◌∙◌, subst}
use mathlib.Core.Option.{none}
use Rattle.atomic_table.specs.Table.{step, rest, Allows}
use Rattle.cam6_slot.specs.declared.resting.Place.TheVariants.{Queued}
use Rattle.cam6_handoff.specs.Rule.{Rule, Seated}
use Rattle.cam6_handoff.specs.Steps.{PutTells}
use Rattle.cam6_handoff.proofs.Keeps.{puts}
use Rattle.cam6_handoff.proofs.steps.put.Goals as goal

pub swap-found-requires : goal.swap-found-requires
swap-found-requires c = let users : ℕ = c.args.table.now.key.users in let slots : ℕ =
    c.args.table.now.table_id.slots in let u : ℕ = c.args.row in let id : ℕ =
    c.exchange.new.seat.id in
    let is = c.exchange.ensures.3 ∙
    ap (λ (m : Seated). (m.0, (u, Some (Queued c.args.queued)) ∷ rest m.1)) c.requires.rests in (
      search rules,
      search rules,
      subst (λ (m : Seated). Allows (Rule users) slots id m u (λ _. 1)
          (PutTells (step slots u 1 0 none) m)) (sym is)
          (puts users slots u id 1 c.args.queued refl c.requires.at.1 c.requires.asked),
    )
