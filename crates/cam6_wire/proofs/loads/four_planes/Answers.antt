use Rattle.std.proofs.Common.{◌∙◌, sym, arith}
use Rattle.cam6_wire.proofs.FourPlanes.{four_found, not_four}
use Rattle.cam6_wire.proofs.loads.four_planes.Goals as goal

pub returns-then-values-ne4 : goal.returns-then-values-ne4
returns-then-values-ne4 c =
    not_four c.args.values.now (λ four. omega (arith, four, c.if-values-ne4.true))

pub returns : goal.returns
returns c =
    four_found c.args.values.now c.index-values-0.result c.index-values-1.result
    c.index-values-2.result c.index-values-3.result c.in-Some.first c.in-Some-2.second
    c.in-Some-3.third c.in-Some-4.fourth (omega (arith, c.if-values-ne4.false))
    c.index-values-0.is c.index-values-1.is c.index-values-2.is c.index-values-3.is
    (sym c.in_ok-first.ensures ∙ c.in-Some.is) (sym c.in_ok-second.ensures ∙ c.in-Some-2.is)
    (sym c.in_ok-third.ensures ∙ c.in-Some-3.is) (sym c.in_ok-fourth.ensures ∙ c.in-Some-4.is)
