use Rattle.std.proofs.Common.{rules, ℕ, ◌∷◌, Some, refl, sym, ap, ◌∙◌, subst}
use mathlib.Core.Option.{none}
use Rattle.atomic_table.specs.Table.{step, rest, Allows}
use Rattle.cam6_slot.specs.declared.resting.Place.TheVariants.{Queued}
use Rattle.cam6_handoff.specs.Rule.{Rule, Seated, asked_machine, asked_command}
use Rattle.cam6_handoff.specs.Steps.{BackTells}
use Rattle.cam6_handoff.proofs.Keeps.{backs}
use Rattle.cam6_handoff.proofs.steps.give_back.Goals as goal

pub swap-requires : goal.swap-requires
swap-requires c = let users : ℕ = c.args.table.now.key.users in let slots : ℕ =
    c.args.table.now.table_id.slots in let u : ℕ = c.args.row in let id : ℕ =
    c.exchange.new.seat.id in
    let x = c.args.queued in let b = c.requires.holds.0 in let q = c.requires.holds.1 in let was =
    c.requires.holds.2 in
    let is = c.exchange.ensures.3 ∙ ap (λ (m : Seated). (m.0, (u, Some (Queued x)) ∷ rest m.1))
    was in (
      search rules,
      search rules,
      subst (λ (m : Seated). Allows (Rule users) slots id m u (λ _. 1)
          (BackTells (step slots u 1 0 none) m)) (sym is)
          (backs users slots u id b 1 q x refl c.requires.at.1
          (λ asked st. c.requires.stands b q was (asked_machine asked) (asked_command asked) st)),
    )
