use Rattle.std.proofs.Common.{◌≡◌, ◌+◌, ◌*◌, ◌∙◌, ap, arith}
use Rattle.std.specs.Int.{bit_at}
use Rattle.cam6_lookup.proofs.Shifted.{bit_shr}
use Rattle.cam6_lookup.proofs.Lanes.{has_none, has_more, has_all, bit_shown}
use Rattle.cam6_lookup.proofs.look_up.words.Goals as goal

pub loop-pass-init : goal.loop-pass-init
loop-pass-init c = record { lower = has_none _; upper = has_none _ }

pub loop-pass-preserved : goal.loop-pass-preserved
loop-pass-preserved c =
    let a = c.args in
    let now = c.loop-pass in
    let four = c.four_entries-four in
    record {
      lower = has_more (bit_shown a.entries.now a.rows.now a.i 0) now.lower _ four.result now.pass
          (omega arith) now.invariant.lower
          (λ l h.
          let e : 16 * l ≡ 16 * l + 0 = omega arith in
          ap (bit_at four.result) e ∙ four.ensures l 0 h (omega arith))
          c.one_more-lower.ensures.first c.one_more-lower.ensures.others;
      upper = has_more (bit_shown a.entries.now a.rows.now a.i 1) now.upper _ _ now.pass
          (omega arith) now.invariant.upper
          (λ l h. bit_shr four.result 1 (16 * l) ∙ four.ensures l 1 h (omega arith))
          c.one_more-upper.ensures.first c.one_more-upper.ensures.others;
    }

pub returns : goal.returns
returns c =
    let a = c.args in
    let now = c.loop-pass in
    record {
      lower = has_all (bit_shown a.entries.now a.rows.now a.i 0) now.lower now.pass
          now.invariant.lower (omega arith);
      upper = has_all (bit_shown a.entries.now a.rows.now a.i 1) now.upper now.pass
          now.invariant.upper (omega arith);
    }
