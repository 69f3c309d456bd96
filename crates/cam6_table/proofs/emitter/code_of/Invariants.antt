-- the words from i on are done
use Rattle.std.proofs.Common.{◌≡◌, drop}
use Rattle.cam6_table.specs.Internal.Emitting.{emit_all, nothing}
use Rattle.cam6_table.proofs.emitter.code_of.Given as goal

abbrev pub invariant-loop-i : goal.invariant-loop-i
invariant-loop-i l = l.emitter ≡ emit_all l.wiring l.codes (drop l.i l.words) nothing
