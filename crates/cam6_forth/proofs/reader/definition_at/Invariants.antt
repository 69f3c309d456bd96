use Rattle.std.proofs.Common.{◌≡◌, drop}
use Rattle.cam6_forth.specs.SingleWords.{definition_at, position_from}
use Rattle.cam6_forth.proofs.reader.definition_at.Given as goal

abbrev pub invariant-loop-i : goal.invariant-loop-i
invariant-loop-i l =
    position_from l.i l.token (drop l.i l.definitions) ≡ definition_at l.token l.definitions
