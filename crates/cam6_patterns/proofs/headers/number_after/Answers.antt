use Rattle.std.proofs.Common.{refl, sym, ◌∙◌, arith, ◌+◌, ◌*◌, ◌-◌}
use Rattle.cam6_patterns.proofs.Numbers.{stands_itself, stands_more, digit_more}
use Rattle.cam6_patterns.proofs.headers.number_after.Goals as goal

pub loop-byte-init : goal.loop-byte-init
loop-byte-init c = (c.args.first, refl, stands_itself c.args.first, omega arith)

pub loop-byte-preserved : goal.loop-byte-preserved
loop-byte-preserved c =
    let before = c.loop-byte.invariant in
    let byte = c.in-Some.byte.now in (
      10 * before.0 + (byte - 48),
      digit_more before.0 byte c.loop-byte.rest.now c.in-Some.later.now _
          c.in-Some.ensures.cases.0 (sym c.is_decimal.ensures ∙ c.if-not-is_decimal.false) before.1,
      stands_more before.0 c.loop-byte.number c.lowered-number.result (byte - 48) before.2
          (rw c.from.ensures at c.lowered-number.ensures.same),
      c.lowered-number.ensures.small,
    )
