use Rattle.std.proofs.Common.{ℕ, get_or, arith, refl, sym, ◌∙◌, length-set}
use Rattle.cam6_planes.specs.Row.{column_bit}
use Rattle.cam6_planes.proofs.Blank.{column_bit-zeros}
use Rattle.cam6_planes.proofs.WordByWord.{row_more, column_bit-at, column_bit-set_past}
use Rattle.cam6_planes.specs.declared.row.TheConstants.{WORDS}
use Rattle.cam6_planes.proofs.planes.Planes.row_words.Goals as goal

pub loop-i-init : goal.loop-i-init
loop-i-init c = record {
  words = refl;
  copied = λ x h. absurd (omega arith);
  past = λ x h. column_bit-zeros WORDS x;
}

pub loop-i-preserved : goal.loop-i-preserved
loop-i-preserved c =
    let i = c.loop-i.i in
    let kept = c.plane_row-kept.result in
    let word : ℕ = get_or kept i 0 in
    record {
      words = length-set _ _ _ ∙ c.loop-i.invariant.words;
      copied = row_more (column_bit kept) c.loop-i.row i word
          (omega (arith, c.loop-i.invariant.words)) c.loop-i.invariant.copied
          (λ k h. sym (column_bit-at kept i k h));
      past = λ x h.
          column_bit-set_past c.loop-i.row i word x h ∙ c.loop-i.invariant.past x (omega arith);
    }
