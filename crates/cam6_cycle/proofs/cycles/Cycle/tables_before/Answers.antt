use Rattle.std.proofs.Common.{◌≡◌, ◌∙◌, ◌+◌, ◌++◌, None, ap, sym, arith, get_or, length, take}
use mir.Val.{bool_byte}
use Rattle.std.proofs.lemmas.List.{length-append}
use Rattle.cam6_wiring.specs.declared.blocks.Grid.TheVariants.{Even}
use Rattle.cam6_wiring.specs.declared.names.Half.TheVariants.{A, B}
use Rattle.cam6_wiring.specs.declared.names.Phase.TheVariants.{P0}
use Rattle.cam6_cycle.specs.Tables.{needed_for, tables_needed}
use Rattle.cam6_cycle.specs.declared.entries.Entry.{Entry}
use Rattle.cam6_cycle.specs.declared.tables.Direction.{Direction}
use Rattle.cam6_cycle.specs.declared.tables.Direction.TheVariants.{Forward}
use Rattle.cam6_cycle.proofs.Needed.{tables_more, needed-length, some-length}
use Rattle.cam6_cycle.proofs.cycles.Cycle.tables_before.Goals as goal

pub loop-entry-preserved : goal.loop-entry-preserved
loop-entry-preserved c =
    let now = c.loop-entry in
    let entries = take c.args.position c.as_slice.result.now in
    let same = ap (take c.args.position) (c.as_slice.ensures.value ∙ c.self.view_is) in
    let past : Entry = record { a = None; b = None; grid = Even; phase = P0 } in
    let entry = get_or entries now.entry-index past in
    let of_a : (direction : Direction) →
    c.from.result ≡ length (needed_for direction A entry.a) =
    λ direction. c.from.ensures ∙ ap bool_byte c.is_some.ensures ∙
    sym (some-length direction A entry.a) in
    let of_b : (direction : Direction) →
    c.from-in-loop-entry.result ≡ length (needed_for direction B entry.b) =
    λ direction. c.from-in-loop-entry.ensures ∙ ap bool_byte c.is_some-in-loop-entry.ensures ∙
    sym (some-length direction B entry.b) in
    record {
      tables = λ direction.
          let before = tables_needed direction (take now.entry-index entries) in
          let a = needed_for direction A entry.a in
          let b = needed_for direction B entry.b in
          let more = ap length (tables_more direction now.entry-index entries past
          c.loop-entry-test.true) in
          let was = now.invariant.tables direction ∙
          ap (λ l. length (tables_needed direction (take now.entry-index l))) (sym same) in
          omega (
            arith,
            was,
            of_a direction,
            of_b direction,
            length-append (before ++ a) b,
            length-append before a,
            more,
          ) ∙
          ap (λ l. length (tables_needed direction (take (now.entry-index + 1) l))) same;
      few = omega (
        arith,
        now.invariant.few,
        of_a Forward,
        of_b Forward,
        needed-length Forward A entry.a,
        needed-length Forward B entry.b,
      );
    }
