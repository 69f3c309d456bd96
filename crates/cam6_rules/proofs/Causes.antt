-- What a rule's table says of whether the rule can be undone.
use Rattle.std.proofs.Common.{◌≡◌, ◌+◌, ℕ, List, [], Option, Some, None, Result, OnOk, refl, subst}
use Rattle.std.proofs.Common.{slice_get, slice_index_or, arith}
use Rattle.cam6_block.specs.declared.refusals.NotReversible.{NotReversible}
use Rattle.cam6_cycle.specs.declared.entries.HalfRule.{HalfRule}
use Rattle.cam6_cycle.specs.declared.tables.Direction.{Direction}
use Rattle.cam6_cycle.specs.declared.tables.NeededTable.{NeededTable}
use Rattle.cam6_rules.specs.Numbers.{rule_at, number_in, AreTables}
use Rattle.cam6_rules.specs.Internal.Uses.{IsUse, IsUseOf}
use Rattle.cam6_rules.proofs.FilledTables.{on_ok}
use Rattle.cam6_block.specs.BlockMaps.{reading_of}
use Rattle.cam6_block.proofs.Causes.{cause_is_found}
use Rattle.cam6_cycle.specs.declared.tables.Direction.TheVariants.{Backward}
use Rattle.cam6_model.specs.Rules.{Rule}
use Rattle.cam6_model.specs.Refusals.{rule_cause}
use Rattle.cam6_model.specs.TrueTables.{IsTableFor}

-- a rule that has a table to go back by can be undone
pub no_cause : (rule : Option Rule) (entries : List ℕ) → IsTableFor Backward rule entries →
    rule_cause rule ≡ None
no_cause None entries is = refl
no_cause (Some rule) entries is =
    (cause_is_found (reading_of rule.wiring rule.text) rule.wiring.hood rule.wiring.minor).1 is.0

-- so can the rule of a half, where the table of its use is filled
filled_has_no_cause : (way : Direction) (rules : List Rule) (needed : List NeededTable) (index : ℕ)
    (tables : List (List ℕ)) (half : Option HalfRule) → IsUseOf half (slice_get needed index) →
    AreTables way (index + 1) rules needed tables → way ≡ Backward →
    rule_cause (rule_at rules (number_in half)) ≡ None
filled_has_no_cause way rules needed index tables None is are back = refl
filled_has_no_cause way rules needed index tables (Some rule) is are back =
    by_use (slice_get needed index) refl is
  where
    by_use : (o : Option NeededTable) → slice_get needed index ≡ o → IsUse rule.number o →
        rule_cause (rule_at rules (Some rule.number)) ≡ None
    by_use None e is = absurd is
    by_use (Some table) e is =
        no_cause (rule_at rules (Some rule.number)) (slice_index_or tables index [])
        (subst (λ number. IsTableFor Backward (rule_at rules (Some number))
        (slice_index_or tables index [])) is
        (subst (λ w. IsTableFor w (rule_at rules (Some table.rule.number))
        (slice_index_or tables index [])) back (are index table (omega arith) e)))

pub no_cause_if_filled : (way : Direction) (rules : List Rule) (needed : List NeededTable)
    (index : ℕ) (tables : List (List ℕ)) (half : Option HalfRule)
    (r : Result (Unit {0}) NotReversible) → IsUseOf half (slice_get needed index) →
    OnOk r (AreTables way (index + 1) rules needed tables) →
    OnOk r (way ≡ Backward → rule_cause (rule_at rules (number_in half)) ≡ None)
no_cause_if_filled way rules needed index tables half r is are =
    on_ok r (λ filled back. filled_has_no_cause way rules needed index tables half is filled back) are
