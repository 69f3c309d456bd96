use Rattle.cam6_writing.proofs.Writes.{more_is_written}
use Rattle.cam6_writing.proofs.writers.write_bytes.Goals as goal

pub loop-rest-preserved : goal.loop-rest-preserved
loop-rest-preserved g c =
    more_is_written _ _ _ c.args.bytes.now _ c.in-Ok.n c.in-Ok.ensures.bound c.loop-rest.invariant
    c.in-Ok.ensures.bytes
