use Rattle.cam6_pool.proofs.Going.{accepts_unbegun}
use Rattle.cam6_pool.proofs.workers.give_back.Goals as goal

pub put_back-requires : goal.put_back-requires
put_back-requires c =
    accepts_unbegun c.args.seat.now.holds c.args.lease c.args.job c.into_image.result
    c.preempt-queued.result c.requires.seat c.into_image.ensures c.preempt-queued.ensures.stands
