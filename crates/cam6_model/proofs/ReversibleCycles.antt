-- A machine that may go back has a cycle of which every rule can be undone.
use Rattle.std.proofs.Common.{◌≡◌, ℕ, suc, List, [], ◌∷◌, Option, Some, None, refl, ap, ◌∙◌}
use Rattle.std.specs.List.{AllByRecursion}
use Rattle.cam6_wiring.specs.declared.names.Half.{Half}
use Rattle.cam6_wiring.specs.declared.names.Half.TheVariants as half
use Rattle.cam6_block.specs.Laws.{CauseIsFound}
use Rattle.cam6_block.specs.declared.refusals.NotReversible.{NotReversible}
use Rattle.cam6_model.specs.Rules.{Rule}
use Rattle.cam6_model.specs.Cycles.{EntryRules, entry_rules}
use Rattle.cam6_block.specs.BlockMaps.{reading_of}
use Rattle.cam6_model.specs.Undoing.{IsReversibleRule, IsReversibleEntry}
use Rattle.cam6_model.specs.Machine.{Machine, IsReversibleCycle}
use Rattle.cam6_model.specs.Refusals.{or_then, rule_cause, cause_refusal, entry_cause}
use Rattle.cam6_model.specs.Refusals.{first_cause, fault_refusal, run_refusal, refusal}
use Rattle.cam6_model.specs.Laws.{BackNeedsReversibleRules}
use Rattle.cam6_commands.specs.declared.commands.Command.TheVariants.{Back}
use Rattle.cam6_commands.specs.declared.commands.NamedEntry.{NamedEntry}

-- where neither of two refusals comes, there is neither
pub neither_comes : {A : Type 0} (first next : Option A) → or_then first next ≡ None →
    (first ≡ None) × (next ≡ None)
neither_comes None next e = (refl, e)
neither_comes (Some first) next e = cc e

no_cause : (number : ℕ) (h : Half) (cause : Option NotReversible) →
    cause_refusal number h cause ≡ None → cause ≡ None
no_cause number h None e = refl
no_cause number h (Some cause) e = cc e

-- a rule without a cause can be undone
pub rule_reversible : CauseIsFound → (rule : Option Rule) → rule_cause rule ≡ None → IsReversibleRule rule
rule_reversible found None none = tt
rule_reversible found (Some rule) none =
    (found (reading_of rule.wiring rule.text) rule.wiring.hood rule.wiring.minor).2 none

pub entry_reversible : CauseIsFound → (number : ℕ) (entry : EntryRules) →
    entry_cause number entry ≡ None → IsReversibleEntry entry
entry_reversible found number entry none =
    let (a, b) =
    neither_comes (cause_refusal number half.A (rule_cause entry.a))
    (cause_refusal number half.B (rule_cause entry.b)) none in (
      rule_reversible found entry.a (no_cause number half.A (rule_cause entry.a) a),
      rule_reversible found entry.b (no_cause number half.B (rule_cause entry.b) b),
    )

pub cycle_reversible : CauseIsFound → (rules : List Rule) (number : ℕ) (cycle : List NamedEntry) →
    first_cause rules number cycle ≡ None →
    AllByRecursion (λ entry. IsReversibleEntry (entry_rules rules entry)) cycle
cycle_reversible found rules number [] none = tt
cycle_reversible found rules number (entry ∷ cycle) none =
    let (here, later) =
    neither_comes (entry_cause number (entry_rules rules entry))
    (first_cause rules (suc number) cycle) none in (
      entry_reversible found number (entry_rules rules entry) here,
      cycle_reversible found rules (suc number) cycle later,
    )

-- a machine that isn't refused to go back may also run
pub back_runs : (m : Machine) (n : ℕ) → refusal m (Back n) ≡ None →
    fault_refusal (run_refusal m.cycle n) ≡ None
back_runs m n none =
    (neither_comes (fault_refusal (run_refusal m.cycle n)) (first_cause m.rules 0 m.cycle) none).0

pub reversible : CauseIsFound → (m : Machine) (n : ℕ) → refusal m (Back n) ≡ None →
    IsReversibleCycle m
reversible found m n none =
    cycle_reversible found m.rules 0 m.cycle
    (neither_comes (fault_refusal (run_refusal m.cycle n)) (first_cause m.rules 0 m.cycle) none).1

-- and the other way round: rules that can be undone have no cause
rule_free : CauseIsFound → (rule : Option Rule) → IsReversibleRule rule → rule_cause rule ≡ None
rule_free found None can = refl
rule_free found (Some rule) can =
    (found (reading_of rule.wiring rule.text) rule.wiring.hood rule.wiring.minor).1 can

entry_free : CauseIsFound → (number : ℕ) (entry : EntryRules) → IsReversibleEntry entry →
    entry_cause number entry ≡ None
entry_free found number entry can =
    ap (λ cause. or_then (cause_refusal number half.A cause)
    (cause_refusal number half.B (rule_cause entry.b))) (rule_free found entry.a can.0) ∙
    ap (cause_refusal number half.B) (rule_free found entry.b can.1)

cycle_free : CauseIsFound → (rules : List Rule) (number : ℕ) (cycle : List NamedEntry) →
    AllByRecursion (λ entry. IsReversibleEntry (entry_rules rules entry)) cycle →
    first_cause rules number cycle ≡ None
cycle_free found rules number [] can = refl
cycle_free found rules number (entry ∷ cycle) can =
    ap (λ first. or_then first (first_cause rules (suc number) cycle))
    (entry_free found number (entry_rules rules entry) can.0) ∙
    cycle_free found rules (suc number) cycle can.1

pub back_needs : CauseIsFound → BackNeedsReversibleRules
back_needs found m n = (
  λ none. (back_runs m n none, reversible found m n none),
  λ both. ap (λ first. or_then first (first_cause m.rules 0 m.cycle)) both.0 ∙
      cycle_free found m.rules 0 m.cycle both.1,
)
