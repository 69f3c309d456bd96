use Rattle.std.proofs.Common.{arith}
use Rattle.serde_json.specs.View.{view}
use Rattle.cam6_wire.specs.Numbers.{natural}
use Rattle.cam6_wire.proofs.Growing.{one_more_written}
use Rattle.cam6_wire.proofs.saved.colours_value.Goals as goal

pub loop-colour-preserved : goal.loop-colour-preserved
loop-colour-preserved c =
    let now = c.loop-colour in
    one_more_written view natural now.values.items c.push.new.self.items c.from.result
    c.args.colours.now now.colour-index 0 (omega arith) c.from.ensures
    c.in_ok-push.ensures.items now.invariant
