use Rattle.std.proofs.Common.{◌+◌, ◌∙◌, arith, get_or, length-set}
use Rattle.cam6_planes.proofs.WordByWord.{column_bit-set_other}
use Rattle.cam6_lines.proofs.WrittenRows.{word_more}
use Rattle.cam6_lines.proofs.parts.put_row.Goals as goal

pub loop-k-preserved : goal.loop-k-preserved
loop-k-preserved g c =
    let a = c.args in
    let now = c.loop-k in
    record {
      words = length-set _ _ _ ∙ now.invariant.words;
      row = word_more now.part a.row a.at now.k (omega (arith, now.invariant.words))
          now.invariant.row;
      before = λ x h. column_bit-set_other now.part (a.at + now.k) (get_or a.row now.k 0) x
          (omega (arith, h)) ∙ now.invariant.before x h;
    }
