use Rattle.std.proofs.Common.{sym, ap, arith, ◌==◌}
use Rattle.std.proofs.lemmas.Nat.Bits.{bit_at_above}
use Rattle.cam6_planes.specs.Row.{bit_number}
use Rattle.cam6_table.proofs.evaluation.bit_of.Goals as goal

-- an address of 16 bits shows nothing on line 16 or above
pub returns-else-line-lt16 : goal.returns-else-line-lt16
returns-else-line-lt16 c =
    sym (ap (λ bit. bit_number (bit == 1))
    (bit_at_above c.args.address 16 c.args.line (omega arith) (omega arith)))
