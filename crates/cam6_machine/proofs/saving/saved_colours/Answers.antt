use Rattle.std.proofs.Common.{arith}
use Rattle.std.proofs.lemmas.Grind.{same_number_lists}
use Rattle.cam6_machine.proofs.saving.saved_colours.Goals as goal

pub returns : goal.returns
returns c =
    same_number_lists c.loop-state.saved c.args.colours.now
    (omega (arith, c.loop-state.invariant.long))
    (λ i within. c.loop-state.invariant.same i (omega (arith, within, c.loop-state.invariant.long)))
