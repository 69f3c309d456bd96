use Rattle.std.proofs.Common.{arith}
use Rattle.cam6_cycle.proofs.Needed.{tables-length}
use Rattle.cam6_cycle.proofs.laws.tables_are_few.Goals as goal

pub returns : goal.returns
returns c = record {
  law = λ direction entries short. omega (arith, tables-length direction entries, short);
}
