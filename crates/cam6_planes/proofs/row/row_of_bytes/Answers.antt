use Rattle.std.proofs.Common.{arith, length-set, ◌∙◌}
use Rattle.cam6_planes.specs.Row.{byte_column}
use Rattle.cam6_planes.proofs.WordByWord.{row_more}
use Rattle.cam6_planes.proofs.row.row_of_bytes.Goals as goal

pub loop-i-preserved : goal.loop-i-preserved
loop-i-preserved c = (
  length-set _ _ _ ∙ c.loop-i.invariant.0,
  row_more (byte_column c.args.bytes.now) c.loop-i.row c.loop-i.i c.word_of_bytes.result
      (omega (arith, c.loop-i.invariant.0)) c.loop-i.invariant.1 c.word_of_bytes.ensures,
)
