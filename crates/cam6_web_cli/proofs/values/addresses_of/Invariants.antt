use Rattle.std.proofs.Common.{length}
use Rattle.clap.specs.Walk.{texts}
use Rattle.cam6_web_cli.proofs.Lists.{AreRead}
use Rattle.cam6_web_cli.proofs.values.addresses_of.Given as goal

abbrev pub invariant-loop-rest : goal.invariant-loop-rest
invariant-loop-rest l = AreRead (texts l.words) (texts l.rest) l.addresses.items

abbrev pub decreases-loop-rest : goal.decreases-loop-rest
decreases-loop-rest l = length l.rest
