use Rattle.std.proofs.Common.{◌+◌, ◌*◌, ◌/◌, ◌%◌, arith, length-set, ◌∙◌, ap, sym}
use Rattle.cam6_planes.specs.Row.{column_bit}
use Rattle.cam6_planes.proofs.WordByWord.{column_bit-at}
use Rattle.cam6_planes.proofs.Bytes.{bytes_more}
use Rattle.cam6_planes.proofs.digits.bytes_of_row.Goals as goal

pub loop-i-preserved : goal.loop-i-preserved
loop-i-preserved c =
    let i = c.loop-i.i in
    let row = c.args.row.now in (
      length-set _ _ _ ∙ c.loop-i.invariant.0,
      bytes_more (column_bit row) c.loop-i.bytes i c.byte_of_word.result
          (omega (arith, c.loop-i.invariant.0)) c.loop-i.invariant.1
          (λ k h. c.byte_of_word.ensures k h ∙
          sym (column_bit-at row (i / 8) (8 * (i % 8) + k) (omega arith)) ∙
          ap (column_bit row) (omega arith)),
    )
