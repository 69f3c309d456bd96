use Rattle.std.proofs.Common.{rules, ◌≡◌, ℕ, ◌+◌, eqb, List, ◌∷◌, Some, refl, sym, ap, subst}
use mathlib.Core.Option.{none}
use prog.Atomic.{either}
use Rattle.atomic_table.specs.Table.{step, rest, Allows}
use Rattle.cam6_slot.specs.declared.resting.Place.TheVariants.{Queued}
use Rattle.cam6_handoff.specs.Rule.{Rule, Slot, Seated}
use Rattle.cam6_handoff.specs.Steps.{TakeTells}
use Rattle.cam6_handoff.proofs.Keeps.{took}
use Rattle.cam6_handoff.proofs.steps.take.Goals as goal

pub compare_exchange-requires : goal.compare_exchange-requires
compare_exchange-requires c = let users : ℕ = c.args.table.now.key.users in let slots : ℕ =
    c.args.table.now.table_id.slots in let u : ℕ = c.args.row in let id : ℕ =
    c.args.token.now.id in let n : ℕ = 3 + c.args.board in (
      search rules,
      search rules,
      subst (λ (m : Seated). Allows (Rule users) slots id m u (λ x. either (eqb x 1) n x)
          (TakeTells (step slots u 1 n none) m)) (sym c.requires.idle)
          (took users slots u id c.args.board 1 n refl refl c.requires.at.1),
    )

pub exchange-requires : goal.exchange-requires
exchange-requires c = let t = c.compare_exchange.ensures.2.0 c.if-compare_exchange-ne-READY.false in
    let u : ℕ = c.args.row in let is = ap (λ (m : Seated). m.1) t.1 in (
      search rules,
      (
        Some (Queued t.0),
        subst (λ (l : List (ℕ × Slot)). l ≡ (u, Some (Queued t.0)) ∷ rest l) (sym is) refl,
      ),
    )
