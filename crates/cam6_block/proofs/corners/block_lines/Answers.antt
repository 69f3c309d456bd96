use Rattle.std.proofs.Common.{arith}
use Rattle.cam6_block.specs.Blocks.{corner_bits}
use Rattle.cam6_block.proofs.corners.block_lines.Goals as goal

pub returns : goal.returns
unfolding corner_bits
returns c =
    omega (
      arith,
      c.corner_bits.ensures.bits,
      c.bits_beside-lower.ensures.bits,
      c.bits_beside-upper.ensures.bits,
    )
