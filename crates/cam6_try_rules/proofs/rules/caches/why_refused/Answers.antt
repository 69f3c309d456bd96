use Rattle.cam6_cache.specs.Keys.{TableKey}
use Rattle.cam6_try_rules.proofs.rules.caches.why_refused.Goals as goal

pub returns-in-Ok : goal.returns-in-Ok
returns-in-Ok c none inverted =
    let key : TableKey =
    record { wiring = c.args.wiring; text = c.args.text.now; inverted = c.args.inverted } in
    let law = c.a_table_that_can_be_inverted_makes_its_key_reversible.ensures.law in
    law key c.args.table.now c.requires c.in-Ok.ensures.reversible
