use Rattle.std.proofs.Common.{◌≡◌, ℕ, ◌+◌, ◌-◌, ◌*◌, arith, length-set, ◌∙◌, ap}
use Rattle.cam6_planes.specs.Row.{column_bit, east_of}
use Rattle.cam6_planes.specs.Side.{side_number}
use Rattle.cam6_planes.proofs.WordByWord.{column_bit-set_past, row_more, east_here}
use Rattle.cam6_planes.proofs.WordByWord.{east_of-last, east_of-lt}
use Rattle.cam6_planes.proofs.row.put_east.Goals as goal

pub loop-i-preserved : goal.loop-i-preserved
loop-i-preserved c =
    let i : ℕ = c.loop-i.i in
    let n : ℕ = c.words-last.result - 1 + 1 in
    let e : east_of (64 * n) (64 * i + 63) ≡ 64 * (i + 1) =
    east_of-lt (64 * n) (64 * i + 63) (omega arith) ∙ omega arith in
    record {
      words = length-set _ _ _ ∙ c.loop-i.invariant.words;
      moved = row_more (λ x. column_bit c.args.row.now (east_of (64 * n) x)) c.loop-i.shifted i
          c.moved_west.result (omega (arith, c.loop-i.invariant.words)) c.loop-i.invariant.moved
          (east_here c.args.row.now n i (i + 1) c.moved_west.result (omega arith) e
          c.moved_west.ensures.last c.moved_west.ensures.others);
      past = λ x h. column_bit-set_past c.loop-i.shifted i c.moved_west.result x (omega arith) ∙
          c.loop-i.invariant.past x h;
    }

pub returns-clause-value : goal.returns-clause-value
returns-clause-value c = λ x h.
    let last : ℕ = c.words-last.result - 1 in
    let n : ℕ = last + 1 in
    let made = c.moved_west-2 in
    let side : 64 * n ≡ side_number c.args.side = omega arith in
    let e : east_of (64 * n) (64 * last + 63) ≡ 64 * 0 =
    east_of-last (64 * n) (64 * last + 63) (omega arith) in
    row_more (λ x. column_bit c.args.row.now (east_of (64 * n) x)) c.loop-i.shifted last
    made.result (omega (arith, c.loop-i.invariant.words))
    (λ x k. c.loop-i.invariant.moved x (omega arith))
    (east_here c.args.row.now n last 0 made.result (omega arith) e made.ensures.last
    made.ensures.others) x (omega arith) ∙
    ap (λ s. column_bit c.args.row.now (east_of s x)) side

pub returns-clause-past : goal.returns-clause-past
returns-clause-past c = λ x h.
    let last : ℕ = c.words-last.result - 1 in
    column_bit-set_past c.loop-i.shifted last c.moved_west-2.result x (omega arith) ∙
    c.loop-i.invariant.past x (omega arith)
