use Rattle.std.proofs.Common.{ℕ, Bool, ◌*◌, ◌/◌, ◌∙◌, arith, length-set}
use Rattle.cam6_planes.specs.Side.{side_number}
use Rattle.cam6_planes.specs.Digits.{eight_columns, row_bytes}
use Rattle.cam6_planes.proofs.SideNumbers.{side_most}
use Rattle.cam6_patterns.specs.Placing.{bit_placed}
use Rattle.cam6_patterns.proofs.Filling.{front_filled, filled_more}
use Rattle.cam6_patterns.proofs.placing.Placement.bytes.Goals as goal

pub loop-i-preserved : goal.loop-i-preserved
loop-i-preserved c =
    let self = c.args.self.now in
    let f : ℕ → Bool =
    bit_placed (side_number self.side) self.first self.pattern.now c.args.k c.args.y in
    record {
      long = length-set _ _ _ ∙ c.loop-i.invariant.long;
      filled = filled_more (λ j. eight_columns f (8 * j)) c.loop-i.bytes c.loop-i.i
          c.eight_columns.result
          (omega (arith, c.loop-i.invariant.long, c.number-i-end.ensures.value, side_most self.side))
          c.loop-i.invariant.filled c.eight_columns.ensures;
    }

pub returns : goal.returns
unfolding row_bytes
returns c =
    let self = c.args.self.now in
    let f : ℕ → Bool =
    bit_placed (side_number self.side) self.first self.pattern.now c.args.k c.args.y in
    front_filled (λ j. eight_columns f (8 * j)) c.loop-i.bytes (side_number self.side / 8)
    (omega (arith, c.loop-i.invariant.long, side_most self.side))
    (λ k h. c.loop-i.invariant.filled k (omega (arith, h, c.number-i-end.ensures.value)))
