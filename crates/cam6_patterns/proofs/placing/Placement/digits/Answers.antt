use Rattle.std.proofs.Common.{ℕ}
use Rattle.cam6_planes.specs.Side.{side_number}
use Rattle.cam6_planes.proofs.SideNumbers.{side_words}
use Rattle.cam6_patterns.specs.Placing.{bit_placed}
use Rattle.cam6_patterns.proofs.Filling.{digits_filled}
use Rattle.cam6_patterns.proofs.placing.Placement.digits.Goals as goal

pub returns : goal.returns
returns c =
    let self = c.args.self.now in
    let side : ℕ = side_number self.side in
    digits_filled side c.number-columns.result
    (bit_placed side self.first self.pattern.now c.args.k c.args.y) c.bytes-bytes.result
    c.encode_to_slice.new.output _ c.number-columns.ensures.value (side_words self.side)
    c.bytes-bytes.ensures (rw c.unwrap.ensures at c.encode_to_slice.ensures.written)
