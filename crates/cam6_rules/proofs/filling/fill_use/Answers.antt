use Rattle.std.proofs.Common.{◌≡◌, ◌<◌, ◌∙◌, [], Some, get_or, ap, sym, arith, subst, length}
use Rattle.std.proofs.lemmas.List.{get_or_default, get_or_append_left}
use Rattle.std.proofs.lemmas.Option.{get_or_from_slice_get}
use Rattle.cam6_rules.specs.Numbers.{rule_at, AreTables}
use Rattle.cam6_model.specs.TrueTables.{IsTableFor}
use Rattle.cam6_wiring.specs.declared.names.Half.TheVariants.{A}
use Rattle.cam6_wiring.specs.declared.wirings.Hood.TheVariants.{Moore}
use Rattle.cam6_wiring.specs.declared.wirings.Minor.TheVariants.{Centers}
use Rattle.cam6_cycle.specs.declared.tables.Direction.TheVariants.{Forward}
use Rattle.cam6_cycle.specs.declared.tables.NeededTable.{NeededTable}
use Rattle.cam6_rules.proofs.FilledTables.{one_more, used_before, on_ok}
use Rattle.cam6_rules.proofs.filling.fill_use.Goals as goal

-- what stands past the end
abbrev default : NeededTable
default = record {
  half = A;
  rule = record { number = 0; hood = Moore; minor = Centers };
  direction = Forward;
}

pub returns-in-Some-clause-tables : goal.returns-in-Some-clause-tables
returns-in-Some-clause-tables c =
    let a = c.args in
    let rules = a.rules.now in
    let parts = c.split_at_mut-before in
    let before = parts.result.0.now in
    let first = c.in-Some.first in
    let new = c.copy_from.new.self in
    let number = (get_or a.needed.now a.index default).rule.number in
    let (earlier, sooner, here, of_number) =
    used_before a.index first number a.needed.now c.in-Some.ensures in
    let within : first < length before = omega (arith, sooner, parts.ensures.front_len) in
    let copied : get_or a.tables.now first [] ≡ new =
    ap (λ l. get_or l first []) parts.ensures.value ∙
    get_or_append_left before parts.result.1.now [] first within ∙
    sym (c.copy_from.ensures ∙ get_or_default before first _ [] within) in
    one_more a.direction a.index rules a.needed.now before parts.result.1.now new parts.ensures.front_len
    (omega (arith, parts.ensures.back_len, c.requires.index, c.requires.room))
    (subst (AreTables a.direction a.index rules a.needed.now) parts.ensures.value c.requires.before)
    (λ table found.
    subst (λ (t : NeededTable). IsTableFor a.direction (rule_at rules (Some t.rule.number)) new)
    (get_or_from_slice_get a.needed.now a.index table default found)
    (subst (λ p. IsTableFor a.direction (rule_at rules (Some p)) new) of_number
    (subst (IsTableFor a.direction (rule_at rules (Some earlier.rule.number))) copied
    (c.requires.before first earlier sooner here))))

pub returns-in-None-clause-tables : goal.returns-in-None-clause-tables
returns-in-None-clause-tables c =
    let a = c.args in
    let rules = a.rules.now in
    let parts = c.split_at_mut-before in
    let new = c.fill_table.new.table in
    on_ok c.fill_table.result (λ filled.
    one_more a.direction a.index rules a.needed.now parts.result.0.now parts.result.1.now new
    parts.ensures.front_len
    (omega (arith, parts.ensures.back_len, c.requires.index, c.requires.room))
    (subst (AreTables a.direction a.index rules a.needed.now) parts.ensures.value c.requires.before)
    (λ table found.
    subst (λ (t : NeededTable). IsTableFor a.direction (rule_at rules (Some t.rule.number)) new)
    (get_or_from_slice_get a.needed.now a.index table default found) filled))
    c.fill_table.ensures.table
