use Rattle.std.proofs.Common.{◌≡◌, ◌<◌, ◌∙◌, ◌+◌, suc, List, None, Some, get_or, slice_get, length}
use Rattle.std.proofs.Common.{take, ap, sym, subst, arith}
use mir.Val.{bool_byte}
use Rattle.std.specs.Option.{is_some}
use Rattle.cam6_wiring.specs.declared.blocks.Grid.TheVariants.{Even}
use Rattle.cam6_wiring.specs.declared.names.Phase.TheVariants.{P0}
use Rattle.cam6_cycle.specs.Tables.{tables_needed}
use Rattle.cam6_cycle.specs.declared.entries.Entry.{Entry}
use Rattle.cam6_cycle.specs.declared.tables.NeededTable.{NeededTable}
use Rattle.cam6_model.specs.Refusals.{rule_cause}
use Rattle.cam6_rules.specs.Numbers.{rule_at, number_in, AreTables}
use Rattle.cam6_rules.specs.Internal.Uses.{IsUseOf}
use Rattle.cam6_rules.proofs.FilledTables.{second_index, first_use, second_use, next_index}
use Rattle.cam6_rules.proofs.FilledTables.{not_err}
use Rattle.cam6_rules.proofs.FirstCauses.{causes_from, of_half_a, of_half_b, of_neither}
use Rattle.cam6_rules.proofs.FirstCauses.{first_refusal_is}
use Rattle.cam6_rules.proofs.filling.fill_entries.Goals as goal

abbrev past : Entry
past = record { a = None; b = None; grid = Even; phase = P0 }

pub fill_half-requires-clause-use_of : goal.fill_half-requires-clause-use_of
fill_half-requires-clause-use_of c =
    let way = c.args.direction in
    let n = c.loop-number.number in
    let cycle = c.args.cycle.now in
    let same = c.entries-entries.ensures.entries in
    let within : n < length cycle = omega (arith, c.loop-number-test.true, ap length same) in
    let index = c.tables_before-first.ensures.before way in
    let uses = c.deref.ensures.0 ∙ c.tables_needed-needed.ensures.tables in
    subst (λ (l : List Entry). IsUseOf (get_or l n past).a
    (slice_get c.deref.result.now c.tables_before-first.result)) (sym same)
    (subst (λ (l : List NeededTable). IsUseOf (get_or cycle n past).a
    (slice_get l c.tables_before-first.result)) (sym uses)
    (subst (λ i. IsUseOf (get_or cycle n past).a (slice_get (tables_needed way cycle) i)) (sym index)
    (first_use way n cycle past within)))

pub fill_half-requires-in-loop-number-clause-use_of : goal.fill_half-requires-in-loop-number-clause-use_of
fill_half-requires-in-loop-number-clause-use_of c =
    let way = c.args.direction in
    let n = c.loop-number.number in
    let cycle = c.args.cycle.now in
    let same = c.entries-entries.ensures.entries in
    let within : n < length cycle = omega (arith, c.loop-number-test.true, ap length same) in
    let some : c.from.result ≡ bool_byte (is_some (get_or cycle n past).a) =
    c.from.ensures ∙ ap bool_byte c.is_some.ensures ∙
    ap (λ (l : List Entry). bool_byte (is_some (get_or l n past).a)) same in
    let index : c.tables_before-first.result + c.from.result
    ≡ second_index way n cycle past within =
    omega (arith, some, c.tables_before-first.ensures.before way) in
    let uses = c.deref-in-loop-number.ensures.0 ∙ c.tables_needed-needed.ensures.tables in
    subst (λ (l : List Entry). IsUseOf (get_or l n past).b
    (slice_get c.deref-in-loop-number.result.now (c.tables_before-first.result + c.from.result))) (sym same)
    (subst (λ (l : List NeededTable). IsUseOf (get_or cycle n past).b
    (slice_get l (c.tables_before-first.result + c.from.result))) (sym uses)
    (subst (λ i. IsUseOf (get_or cycle n past).b (slice_get (tables_needed way cycle) i)) (sym index)
    (second_use way n cycle past within)))

pub returns-in-Err-clause-refusal : goal.returns-in-Err-clause-refusal
returns-in-Err-clause-refusal c =
    let rules = c.args.rules.now in
    let n = c.loop-number.number in
    let cycle = c.args.cycle.now in
    let same = c.entries-entries.ensures.entries in
    let within : n < length cycle = omega (arith, c.loop-number-test.true, ap length same) in
    let cause = c.in-Err.cause in
    let (back, is) = c.in-Err.ensures.refused in
    let of_a : rule_cause (rule_at rules (number_in (get_or cycle n past).a)) ≡ Some cause =
    subst (λ (l : List Entry). rule_cause (rule_at rules (number_in (get_or l n past).a)) ≡ Some cause)
    same is in
    first_refusal_is c.args.direction rules cycle c.irreversible_refusal.result back
    (sym (c.loop-number.invariant.causes back) ∙
    of_half_a rules cycle n past c.requires.names within cause of_a ∙
    ap Some (sym c.irreversible_refusal.ensures))

pub returns-in-Err-fill_half-clause-refusal : goal.returns-in-Err-fill_half-clause-refusal
returns-in-Err-fill_half-clause-refusal c =
    let rules = c.args.rules.now in
    let n = c.loop-number.number in
    let cycle = c.args.cycle.now in
    let same = c.entries-entries.ensures.entries in
    let within : n < length cycle = omega (arith, c.loop-number-test.true, ap length same) in
    let cause = c.in-Err-fill_half.cause in
    let (back, is) = c.in-Err-fill_half.ensures.refused in
    let of_a : rule_cause (rule_at rules (number_in (get_or cycle n past).a)) ≡ None =
    subst (λ (l : List Entry). rule_cause (rule_at rules (number_in (get_or l n past).a)) ≡ None) same
    (not_err c.fill_half.result c.in_default.not-Err c.fill_half.ensures.reversible back) in
    let of_b : rule_cause (rule_at rules (number_in (get_or cycle n past).b)) ≡ Some cause =
    subst (λ (l : List Entry). rule_cause (rule_at rules (number_in (get_or l n past).b)) ≡ Some cause)
    same is in
    first_refusal_is c.args.direction rules cycle c.irreversible_refusal-in-Err-fill_half.result back
    (sym (c.loop-number.invariant.causes back) ∙
    of_half_b rules cycle n past c.requires.names within cause of_a of_b ∙
    ap Some (sym c.irreversible_refusal-in-Err-fill_half.ensures))

pub loop-number-preserved : goal.loop-number-preserved
loop-number-preserved c =
    let way = c.args.direction in
    let rules = c.args.rules.now in
    let n = c.loop-number.number in
    let cycle = c.args.cycle.now in
    let same = c.entries-entries.ensures.entries in
    let within : n < length cycle = omega (arith, c.loop-number-test.true, ap length same) in
    let of_a : c.from.result ≡ bool_byte (is_some (get_or cycle n past).a) =
    c.from.ensures ∙ ap bool_byte c.is_some.ensures ∙
    ap (λ (l : List Entry). bool_byte (is_some (get_or l n past).a)) same in
    let of_b = ap (λ (l : List Entry). bool_byte (is_some (get_or l n past).b)) same in
    let index : (c.tables_before-first.result + c.from.result)
    + bool_byte (is_some (get_or c.entries-entries.result.now n past).b)
    ≡ length (tables_needed way (take (n + 1) cycle)) =
    omega (arith, of_a, of_b, c.tables_before-first.ensures.before way, next_index way n cycle past within) in
    let tables = c.fill_half-in-loop-number.new.tables in
    let filled = not_err c.fill_half-in-loop-number.result c.in_default-fill_half.not-Err
    c.fill_half-in-loop-number.ensures.tables in
    record {
      room = c.fill_half-in-loop-number.ensures.room ∙ c.fill_half.ensures.room ∙
          c.loop-number.invariant.room;
      tables = subst (λ i. AreTables way i rules c.tables_needed-needed.result.items tables) index
          (subst (λ (l : List NeededTable). AreTables way
          ((c.tables_before-first.result + c.from.result)
          + bool_byte (is_some (get_or c.entries-entries.result.now n past).b)) rules l tables)
          c.deref-in-loop-number.ensures.0 filled);
      causes = λ back.
          let one : n + 1 ≡ suc n = omega arith in
          let none_of_a = subst (λ (l : List Entry).
          rule_cause (rule_at rules (number_in (get_or l n past).a)) ≡ None) same
          (not_err c.fill_half.result c.in_default.not-Err c.fill_half.ensures.reversible back) in
          let none_of_b = subst (λ (l : List Entry).
          rule_cause (rule_at rules (number_in (get_or l n past).b)) ≡ None) same
          (not_err c.fill_half-in-loop-number.result c.in_default-fill_half.not-Err
          c.fill_half-in-loop-number.ensures.reversible back) in
          ap (causes_from rules cycle) one ∙
          sym (of_neither rules cycle n past c.requires.names within none_of_a none_of_b) ∙
          c.loop-number.invariant.causes back;
    }
