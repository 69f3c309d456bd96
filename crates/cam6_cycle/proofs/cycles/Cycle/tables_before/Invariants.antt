use Rattle.std.proofs.Common.{◌≡◌, ◌≤◌, ◌*◌, length, take}
use Rattle.cam6_cycle.specs.Tables.{tables_needed}
use Rattle.cam6_cycle.specs.declared.tables.Direction.{Direction}
use Rattle.cam6_cycle.proofs.cycles.Cycle.tables_before.Given as goal

abbrev pub invariant-loop-entry : goal.invariant-loop-entry
invariant-loop-entry l = record {
  tables : (direction : Direction) →
      l.before ≡ length (tables_needed direction (take l.entry-index (take l.position l.self)));
  few : l.before ≤ 2 * l.entry-index;
}
