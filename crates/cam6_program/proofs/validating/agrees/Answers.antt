use Rattle.cam6_program.proofs.EveryAddress.{computes}
use Rattle.cam6_program.proofs.validating.agrees.Goals as goal

pub returns : goal.returns
returns c = λ yes.
    computes c.args.entries.now c.args.program.now c.made_at_addresses.result.0
    c.made_at_addresses.result.1 c.made_at_addresses.ensures.lower
    c.made_at_addresses.ensures.upper (c.has_entries.ensures.lower yes)
    (c.has_entries.ensures.upper yes)
