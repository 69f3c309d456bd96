use Rattle.std.proofs.Common.{◌≡◌, ◌≤◌, ◌*◌, length, take}
use Rattle.cam6_cycle.specs.Tables.{tables_needed}
use Rattle.cam6_cycle.proofs.cycles.Cycle.tables_needed.Given as goal

abbrev pub invariant-loop-entry : goal.invariant-loop-entry
invariant-loop-entry l = record {
  tables : l.tables.items ≡ tables_needed l.direction (take l.entry-index l.self);
  few : length l.tables.items ≤ 2 * l.entry-index;
}
