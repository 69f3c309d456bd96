use Rattle.std.proofs.Common.{rules, ◌≡◌, ℕ, eqb, List, ◌∷◌, Some, refl, sym, ap, subst}
use mathlib.Core.Option.{none}
use prog.Atomic.{either}
use Rattle.atomic_table.specs.Table.{step, rest, Allows}
use Rattle.cam6_slot.specs.declared.resting.Place.TheVariants.{Finished}
use Rattle.cam6_handoff.specs.Rule.{Rule, Slot, Seated}
use Rattle.cam6_handoff.specs.Steps.{CollectTells}
use Rattle.cam6_handoff.proofs.Keeps.{collects}
use Rattle.cam6_handoff.proofs.steps.collect.Goals as goal

pub compare_exchange-requires : goal.compare_exchange-requires
compare_exchange-requires c = let users : ℕ = c.args.table.now.key.users in let slots : ℕ =
    c.args.table.now.table_id.slots in let u : ℕ = c.args.row in let id : ℕ =
    c.args.token.now.id in (
      search rules,
      search rules,
      subst (λ (m : Seated). Allows (Rule users) slots id m u (λ x. either (eqb x 2) 0 x)
          (CollectTells (step slots u 2 0 none) m)) (sym c.requires.waits.1)
          (collects users slots u id 2 0 c.requires.waits.0 refl refl c.requires.at.1),
    )

pub exchange-requires : goal.exchange-requires
exchange-requires c = let t = c.compare_exchange.ensures.2.0 c.if-compare_exchange-ne-DONE.false in
    let u : ℕ = c.args.row in let is = ap (λ (m : Seated). m.1) t.2 in (
      search rules,
      (
        Some (Finished t.0),
        subst (λ (l : List (ℕ × Slot)). l ≡ (u, Some (Finished t.0)) ∷ rest l) (sym is) refl,
      ),
    )
