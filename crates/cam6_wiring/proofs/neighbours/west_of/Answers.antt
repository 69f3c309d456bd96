use Rattle.std.proofs.Common.{◌-◌, ◌∙◌, sym, ap, arith}
use Rattle.cam6_planes.specs.Row.{west_of}
use Rattle.cam6_planes.specs.Side.{side_number}
use Rattle.cam6_planes.proofs.WordByWord.{west_of-zero}
use Rattle.cam6_wiring.proofs.neighbours.west_of.Goals as goal

pub returns-then-x-eq0-clause-column : goal.returns-then-x-eq0-clause-column
returns-then-x-eq0-clause-column c =
    let s = side_number c.args.side in
    ap (λ n. n - 1) c.number.ensures.value ∙
    sym (west_of-zero s (omega (arith, c.requires))) ∙ ap (west_of s) (sym c.if-x-eq0.true)
