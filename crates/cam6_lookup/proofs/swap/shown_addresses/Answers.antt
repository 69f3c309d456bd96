use Rattle.std.proofs.Common.{◌∙◌, ◌/◌, ◌%◌, ◌*◌, ◌+◌}
use Rattle.cam6_lookup.proofs.swap.shown_addresses.Goals as goal

pub returns : goal.returns
returns g c = λ k i p h l m n.
    c.transposed.ensures k i p h l m ∙ c.sixteen.ensures (p % 16) i (p / 16 * 16 + k) n l
