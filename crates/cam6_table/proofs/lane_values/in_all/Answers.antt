use Rattle.std.proofs.lemmas.List.{get_or-replicate}
use Rattle.cam6_table.specs.declared.lane_values.TheConstants.{LANES}
use Rattle.cam6_table.proofs.lane_values.in_all.Goals as goal

pub returns : goal.returns
returns c = λ lane below. get_or-replicate LANES lane c.args.value 0 below
