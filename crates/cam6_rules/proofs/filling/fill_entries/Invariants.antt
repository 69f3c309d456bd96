use Rattle.std.proofs.Common.{◌≡◌, length, take}
use Rattle.cam6_cycle.specs.Tables.{tables_needed}
use Rattle.cam6_cycle.specs.declared.tables.Direction.TheVariants.{Backward}
use Rattle.cam6_rules.specs.Numbers.{AreTables}
use Rattle.cam6_rules.proofs.FirstCauses.{causes_from}
use Rattle.cam6_rules.proofs.filling.fill_entries.Given as goal

abbrev pub invariant-loop-number : goal.invariant-loop-number
invariant-loop-number l = record {
  room : length l.tables ≡ length l.fn.tables;
  tables : AreTables l.direction (length (tables_needed l.direction (take l.number l.cycle)))
      l.rules l.needed.items l.tables;
  causes : l.direction ≡ Backward →
      causes_from l.rules l.cycle l.number ≡ causes_from l.rules l.cycle 0;
}
