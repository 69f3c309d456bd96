use Rattle.std.proofs.Common.{◌∙◌, arith, length-set}
use Rattle.cam6_planes.proofs.WordByWord.{row_more, column_bit-set_past}
use Rattle.cam6_wiring.proofs.MixedColumns.{mixed, mixed_here}
use Rattle.cam6_wiring.proofs.columns.put_odd_columns.Goals as goal

pub loop-i-preserved : goal.loop-i-preserved
loop-i-preserved c =
    let now = c.loop-i in
    let word = c.mixed_word.result in
    record {
      words = length-set _ _ _ ∙ now.invariant.words;
      done = row_more (mixed c.args.odd.now c.args.row.now) now.row now.i word
          (omega (arith, now.invariant.words)) now.invariant.done
          (mixed_here c.args.odd.now now.row c.args.row.now now.i word now.invariant.rest
          c.mixed_word.ensures);
      rest = λ x h. column_bit-set_past now.row now.i word x h ∙
          now.invariant.rest x (omega (arith, h));
    }
