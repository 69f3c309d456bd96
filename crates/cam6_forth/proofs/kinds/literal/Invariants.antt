use Rattle.std.proofs.Common.{◌≡◌, ◌≤◌, drop}
use Rattle.cam6_forth.specs.Limits.{max_literal}
use Rattle.cam6_forth.specs.Kinds.{value_from}
use Rattle.cam6_forth.proofs.kinds.literal.Given as goal

abbrev pub invariant-loop-digit : goal.invariant-loop-digit
invariant-loop-digit l = record {
  value : value_from l.value (drop l.digit-index l.digits) ≡ value_from 0 l.digits;
  small : l.value ≤ max_literal;
}
