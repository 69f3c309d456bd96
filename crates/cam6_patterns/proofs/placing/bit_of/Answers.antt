use Rattle.std.proofs.Common.{sym, ap, arith}
use Rattle.std.specs.Prelude.{◌==◌}
use Rattle.std.proofs.lemmas.Nat.Bits.{bit_at_above}
use Rattle.cam6_planes.specs.Row.{bit_number}
use Rattle.cam6_patterns.proofs.placing.bit_of.Goals as goal

pub returns-else-k-lt8-clause-bit : goal.returns-else-k-lt8-clause-bit
returns-else-k-lt8-clause-bit c =
    ap (λ bit. bit_number (bit == 1))
    (sym (bit_at_above c.args.state 8 c.args.k (omega (arith, c.ranges.state)) c.if-k-lt8.false))
