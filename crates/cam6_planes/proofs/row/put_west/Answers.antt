use Rattle.std.proofs.Common.{◌≡◌, ℕ, ◌+◌, ◌-◌, ◌*◌, arith, length-set, ◌∙◌, ap}
use Rattle.cam6_planes.specs.Row.{column_bit, west_of}
use Rattle.cam6_planes.proofs.WordByWord.{column_bit-set_past, row_more, west_here}
use Rattle.cam6_planes.proofs.WordByWord.{west_of-suc, west_of-zero}
use Rattle.cam6_planes.proofs.row.put_west.Goals as goal

pub loop-i-init : goal.loop-i-init
loop-i-init c =
    let n : ℕ = c.words-words.result in
    let row = c.args.row.now in
    let first : west_of (64 * n) (64 * 0) ≡ 64 * (n - 1) + 63 =
    west_of-zero (64 * n) (omega arith) ∙ omega arith in
    record {
      words = length-set _ _ _ ∙ c.told-shifted;
      moved = row_more (λ x. column_bit row (west_of (64 * n) x)) c.args.shifted.now 0
          c.moved_east.result (omega (arith, c.told-shifted)) (λ x h. absurd (omega arith))
          (west_here row n 0 (n - 1) c.moved_east.result (omega arith) first
          c.moved_east.ensures.first c.moved_east.ensures.others);
      past = λ x h. column_bit-set_past c.args.shifted.now 0 c.moved_east.result x (omega arith);
    }

pub loop-i-preserved : goal.loop-i-preserved
loop-i-preserved c =
    let n : ℕ = c.words-words.result in
    let i : ℕ = c.loop-i.i in
    let before : 64 * i ≡ 64 * (i - 1) + 63 + 1 = omega arith in
    let e : west_of (64 * n) (64 * i) ≡ 64 * (i - 1) + 63 =
    ap (west_of (64 * n)) before ∙ west_of-suc (64 * n) (64 * (i - 1) + 63) (omega arith) in
    let made = c.moved_east-in-loop-i in
    record {
      words = length-set _ _ _ ∙ c.loop-i.invariant.words;
      moved = row_more (λ x. column_bit c.args.row.now (west_of (64 * n) x)) c.loop-i.shifted i
          made.result (omega (arith, c.loop-i.invariant.words)) c.loop-i.invariant.moved
          (west_here c.args.row.now n i (i - 1) made.result (omega arith) e made.ensures.first
          made.ensures.others);
      past = λ x h. column_bit-set_past c.loop-i.shifted i made.result x (omega arith) ∙
          c.loop-i.invariant.past x h;
    }
