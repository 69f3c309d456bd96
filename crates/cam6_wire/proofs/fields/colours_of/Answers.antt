use Rattle.std.proofs.Common.{sym, arith}
use Rattle.cam6_wire.proofs.ColourCount.{no_colours}
use Rattle.cam6_wire.proofs.fields.colours_of.Goals as goal

pub returns-then-values-ne16 : goal.returns-then-values-ne16
returns-then-values-ne16 c =
    sym (no_colours c.args.values.now (λ sixteen. omega (arith, sixteen, c.if-values-ne16.true)))
