use Rattle.std.proofs.Common.{◌+◌, ◌*◌, arith}
use Rattle.cam6_planes.proofs.Bytes.{word_more}
use Rattle.cam6_planes.proofs.row.word_of_bytes.Goals as goal

pub loop-k-preserved : goal.loop-k-preserved
loop-k-preserved c = rw c.from.ensures
    (word_more c.args.bytes.now c.args.i c.loop-k.k c.loop-k.word (omega arith)
    (omega (arith, c.type_inv.bytes (8 * c.args.i + c.loop-k.k))) c.loop-k.invariant)
