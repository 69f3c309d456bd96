use Rattle.std.proofs.Common.{◌∙◌, ◌+◌, ◌++◌, None, ap, sym, arith, get_or, length, take}
use Rattle.std.proofs.lemmas.List.{length-append}
use Rattle.cam6_wiring.specs.declared.blocks.Grid.TheVariants.{Even}
use Rattle.cam6_wiring.specs.declared.names.Half.TheVariants.{A, B}
use Rattle.cam6_wiring.specs.declared.names.Phase.TheVariants.{P0}
use Rattle.cam6_cycle.specs.Tables.{needed_for, tables_needed}
use Rattle.cam6_cycle.specs.declared.entries.Entry.{Entry}
use Rattle.cam6_cycle.proofs.Needed.{tables_more, needed-length}
use Rattle.cam6_cycle.proofs.cycles.Cycle.tables_needed.Goals as goal

pub loop-entry-preserved : goal.loop-entry-preserved
loop-entry-preserved c =
    let now = c.loop-entry in
    let direction = c.args.direction in
    let entries = c.as_slice-entry-items.result.now in
    let same = c.as_slice-entry-items.ensures.value ∙ c.self.view_is in
    let past : Entry = record { a = None; b = None; grid = Even; phase = P0 } in
    let entry = get_or entries now.entry-index past in
    let first = c.add_table in
    let second = c.add_table-in-loop-entry in
    record {
      tables = second.ensures ∙
          ap (λ l. l ++ needed_for direction B entry.b) (first.ensures ∙
          ap (λ l. l ++ needed_for direction A entry.a) (now.invariant.tables ∙
          ap (λ l. tables_needed direction (take now.entry-index l)) (sym same))) ∙
          tables_more direction now.entry-index entries past c.loop-entry-test.true ∙
          ap (λ l. tables_needed direction (take (now.entry-index + 1) l)) same;
      few = omega (
        arith,
        ap length second.ensures,
        ap length first.ensures,
        length-append first.new.tables.items (needed_for direction B entry.b),
        length-append now.tables.items (needed_for direction A entry.a),
        needed-length direction A entry.a,
        needed-length direction B entry.b,
        now.invariant.few,
      );
    }
