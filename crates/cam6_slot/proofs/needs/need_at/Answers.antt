use Rattle.std.proofs.Common.{◌∙◌, List, Option, Some, refl, sym, ap, subst}
use Rattle.std.specs.List.{slice_get}
use Rattle.std.specs.Option.{option_copied}
use Rattle.std.proofs.lemmas.Option.{same_Some}
use Rattle.cam6_cycle.specs.declared.tables.NeededTable.{NeededTable}
use Rattle.cam6_model.specs.Rules.{Rule}
use Rattle.cam6_rules.specs.Compiled.{Compiled, IsKeptAs}
use Rattle.cam6_machine.specs.Stored.{StoredKept}
use Rattle.cam6_model.specs.TrueTables.{IsTableFor}
use Rattle.cam6_slot.specs.declared.needs.Need.{Need}
use Rattle.cam6_slot.specs.Needs.{Tells, needed_rule}
use Rattle.cam6_slot.proofs.NeededRules.{needed_is_usable, is_there, tells, has_code, can_be_undone, serves}
use Rattle.cam6_slot.proofs.needs.need_at.Goals as goal

pub unreachable-requires : goal.unreachable-requires
unreachable-requires c =
    let w = c.args.work.now in
    let table = c.needed_at-table.result in
    let use_of = needed_is_usable w c.kept.ensures.work c.args.index table c.needed_at-table.ensures in
    is_there w.kept.rules w.direction table use_of
    (subst (λ (o : Option Compiled). IsKeptAs (slice_get w.kept.rules table.rule.number) o)
    (ap option_copied c.in_default.is)
    (subst (λ (r : List Rule). IsKeptAs (slice_get r table.rule.number) (option_copied c.at.result))
    (c.rules.ensures ∙ ap (λ (k : StoredKept). k.rules) c.kept.ensures.kept) c.at.ensures))

pub returns-clause-need : goal.returns-clause-need
returns-clause-need c other at =
    let w = c.args.work.now in
    let table = c.needed_at-table.result in
    let use_of = needed_is_usable w c.kept.ensures.work c.args.index table c.needed_at-table.ensures in
    let compiled = c.in-Some.rule.now in
    let kept : IsKeptAs (slice_get w.kept.rules table.rule.number) (Some compiled) =
    subst (λ (o : Option Compiled). IsKeptAs (slice_get w.kept.rules table.rule.number) o)
    (ap option_copied c.in-Some.is)
    (subst (λ (r : List Rule). IsKeptAs (slice_get r table.rule.number) (option_copied c.at.result))
    (c.rules.ensures ∙ ap (λ (k : StoredKept). k.rules) c.kept.ensures.kept) c.at.ensures) in
    let need : Need = record {
      half = table.half;
      hood = table.rule.hood;
      minor = table.rule.minor;
      text = c.as_str.result;
      code = c.code.result;
      inverted = c.is_inverted.result;
    } in
    subst (λ (t : NeededTable). Tells w.kept.rules t need)
    (same_Some table other (sym c.needed_at-table.ensures ∙ at))
    (tells w.kept.rules w.direction table use_of compiled kept need refl refl refl
    (c.as_str.ensures.text ∙ c.text.ensures) c.is_inverted.ensures)

pub returns-clause-code : goal.returns-clause-code
returns-clause-code c =
    let w = c.args.work.now in
    let table = c.needed_at-table.result in
    let use_of = needed_is_usable w c.kept.ensures.work c.args.index table c.needed_at-table.ensures in
    let compiled = c.in-Some.rule.now in
    let kept : IsKeptAs (slice_get w.kept.rules table.rule.number) (Some compiled) =
    subst (λ (o : Option Compiled). IsKeptAs (slice_get w.kept.rules table.rule.number) o)
    (ap option_copied c.in-Some.is)
    (subst (λ (r : List Rule). IsKeptAs (slice_get r table.rule.number) (option_copied c.at.result))
    (c.rules.ensures ∙ ap (λ (k : StoredKept). k.rules) c.kept.ensures.kept) c.at.ensures) in
    let need : Need = record {
      half = table.half;
      hood = table.rule.hood;
      minor = table.rule.minor;
      text = c.as_str.result;
      code = c.code.result;
      inverted = c.is_inverted.result;
    } in
    has_code w.kept.rules w.direction table use_of compiled kept need refl refl refl
    (c.as_str.ensures.text ∙ c.text.ensures) c.is_inverted.ensures c.code.ensures.meaning

pub returns-clause-undone : goal.returns-clause-undone
returns-clause-undone c =
    let w = c.args.work.now in
    let table = c.needed_at-table.result in
    let use_of = needed_is_usable w c.kept.ensures.work c.args.index table c.needed_at-table.ensures in
    let compiled = c.in-Some.rule.now in
    let kept : IsKeptAs (slice_get w.kept.rules table.rule.number) (Some compiled) =
    subst (λ (o : Option Compiled). IsKeptAs (slice_get w.kept.rules table.rule.number) o)
    (ap option_copied c.in-Some.is)
    (subst (λ (r : List Rule). IsKeptAs (slice_get r table.rule.number) (option_copied c.at.result))
    (c.rules.ensures ∙ ap (λ (k : StoredKept). k.rules) c.kept.ensures.kept) c.at.ensures) in
    let need : Need = record {
      half = table.half;
      hood = table.rule.hood;
      minor = table.rule.minor;
      text = c.as_str.result;
      code = c.code.result;
      inverted = c.is_inverted.result;
    } in
    can_be_undone w.kept.rules w.direction table use_of compiled kept need refl refl refl
    (c.as_str.ensures.text ∙ c.text.ensures) c.is_inverted.ensures

pub returns-clause-table : goal.returns-clause-table
returns-clause-table c entries is other at =
    let w = c.args.work.now in
    let table = c.needed_at-table.result in
    let use_of = needed_is_usable w c.kept.ensures.work c.args.index table c.needed_at-table.ensures in
    let compiled = c.in-Some.rule.now in
    let kept : IsKeptAs (slice_get w.kept.rules table.rule.number) (Some compiled) =
    subst (λ (o : Option Compiled). IsKeptAs (slice_get w.kept.rules table.rule.number) o)
    (ap option_copied c.in-Some.is)
    (subst (λ (r : List Rule). IsKeptAs (slice_get r table.rule.number) (option_copied c.at.result))
    (c.rules.ensures ∙ ap (λ (k : StoredKept). k.rules) c.kept.ensures.kept) c.at.ensures) in
    let need : Need = record {
      half = table.half;
      hood = table.rule.hood;
      minor = table.rule.minor;
      text = c.as_str.result;
      code = c.code.result;
      inverted = c.is_inverted.result;
    } in
    subst (λ (t : NeededTable). IsTableFor w.direction (needed_rule w.kept.rules t) entries)
    (same_Some table other (sym c.needed_at-table.ensures ∙ at))
    (serves w.kept.rules w.direction table use_of compiled kept need refl refl refl
    (c.as_str.ensures.text ∙ c.text.ensures) c.is_inverted.ensures entries is)
