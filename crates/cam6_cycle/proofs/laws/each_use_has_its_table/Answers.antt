use Rattle.std.proofs.Common.{◌∙◌, ◌+◌, ap, length, slice_get, sym, take}
use Rattle.std.proofs.lemmas.Option.{get_or_from_slice_get, slice_get_within}
use Rattle.cam6_wiring.specs.declared.names.Half.TheVariants.{A}
use Rattle.cam6_cycle.specs.Tables.{needed_for, tables_needed}
use Rattle.cam6_cycle.proofs.Needed.{first_table, second_table}
use Rattle.cam6_cycle.proofs.laws.each_use_has_its_table.Goals as goal

pub returns : goal.returns
returns c = record {
  law = λ direction entries position entry found.
      let same = get_or_from_slice_get entries position entry entry found in
      let within = slice_get_within entries position entry found in
      let tables = tables_needed direction entries in
      let before = length (tables_needed direction (take position entries)) in (
        λ rule is.
            first_table direction entries position entry within rule (ap (λ e. e.a) same ∙ is),
        λ rule is.
            ap (λ e. slice_get tables (before + length (needed_for direction A e.a))) (sym same) ∙
            second_table direction entries position entry within rule (ap (λ e. e.b) same ∙ is),
      );
}
