use Rattle.std.proofs.Common.{◌≤◌, subst, arith}
use Rattle.std.proofs.lemmas.Nat.{and_le_r}
use Rattle.cam6_table.proofs.RightEntries.{stop_of_all, stop_of_lanes}
use Rattle.cam6_table.proofs.filling.fill_the_rest.Goals as goal

pub returns-clause-filled : goal.returns-clause-filled
returns-clause-filled c = λ a within shows.
    let mask = c.args.mask in
    let most : a ≤ mask = subst (λ n. n ≤ mask) shows (and_le_r a mask) in
    c.loop-from.invariant.filled a (omega arith) shows

pub returns-in-Err-clause-fault : goal.returns-in-Err-clause-fault
returns-in-Err-clause-fault c =
    let l = c.loop-from in
    let batch = c.next_batch-batch in
    stop_of_all c.args.code.now c.args.mask l.table c.requires.mask batch.result.from
    c.in-Err.stop.0 c.in-Err.stop.1
    (λ a below shows. l.invariant.filled a (omega (arith, batch.ensures.from)) shows)
    (stop_of_lanes c.args.code.now c.args.mask batch.result.from l.table batch.result.addresses
    batch.result.count batch.result.end c.in-Err.stop.0 c.in-Err.stop.1 batch.ensures.within
    l.invariant.after batch.ensures.next c.in-Err.ensures.fault)
