use Rattle.std.proofs.Common.{◌-◌, get_or, nat_eq, arith, ap, ◌∙◌}
use Rattle.std.specs.Int.{bit_at}
use Rattle.cam6_planes.proofs.Bytes.{byte_of_word-at}
use Rattle.cam6_planes.proofs.digits.byte_of_word.Goals as goal

pub returns : goal.returns
returns c =
    λ k h. ap (λ bytes. nat_eq (bit_at (get_or bytes c.args.k 0) (7 - k)) 1) c.to_be_bytes.ensures ∙
    byte_of_word-at c.args.word c.args.k k (omega arith) h
