use Rattle.std.proofs.Common.{rules, arith}
use Rattle.cam6_web_cli.proofs.Lists.{all_are_read, reads_on}
use Rattle.cam6_web_cli.proofs.values.addresses_of.Goals as goal

pub loop-rest-preserved : goal.loop-rest-preserved
loop-rest-preserved c =
    reads_on _ c.loop-rest.rest.now _ _ _ c.in-Ok.address c.in-len1-up.len_at_least c.in-Ok.ensures.value
    (search rules) c.loop-rest.invariant

pub returns-clause-addresses : goal.returns-clause-addresses
returns-clause-addresses c =
    all_are_read _ c.loop-rest.rest.now _ (omega arith) c.loop-rest.invariant
