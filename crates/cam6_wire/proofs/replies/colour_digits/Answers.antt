use Rattle.std.proofs.Common.{◌≡◌, ◌∙◌, ℕ, take, length, sym, ap, subst, arith}
use Rattle.std.specs.Str.{IsAscii}
use Rattle.cam6_wire.proofs.ColourDigits.{colour_digits-ascii}
use Rattle.cam6_wire.proofs.replies.colour_digits.Goals as goal

pub returns-clause-ascii : goal.returns-clause-ascii
returns-clause-ascii c =
    let n : ℕ = length c.args.colours.now in
    let all : c.loop-x.x ≡ n = omega arith in
    subst IsAscii (sym (ap (λ k. take k c.loop-x.text) (sym all) ∙ c.loop-x.invariant.digits))
    (colour_digits-ascii (take c.loop-x.x c.args.colours.now))
