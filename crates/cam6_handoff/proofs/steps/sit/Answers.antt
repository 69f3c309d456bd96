use Rattle.std.proofs.Common.{rules, ℕ, sym, subst}
use mathlib.Core.Option.{none}
use Rattle.atomic_table.specs.Table.{step, Allows}
use Rattle.cam6_handoff.specs.Rule.{Rule, Seated}
use Rattle.cam6_handoff.specs.Steps.{SitTells}
use Rattle.cam6_handoff.proofs.Keeps.{sits}
use Rattle.cam6_handoff.proofs.steps.sit.Goals as goal

pub load-requires : goal.load-requires
load-requires c = let users : ℕ = c.args.table.now.key.users in let slots : ℕ =
    c.args.table.now.table_id.slots in let u : ℕ = c.args.row in let id : ℕ =
    c.args.token.now.id in (
      search rules,
      search rules,
      subst (λ (m : Seated). Allows (Rule users) slots id m u (λ x. x)
          (SitTells (step slots u 0 0 none) m)) (sym c.requires.unseated)
          (sits users slots u id c.requires.at.1),
    )
