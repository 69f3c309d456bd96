use Rattle.std.proofs.Common.{◌++◌, [], ◌∷◌, ap, sym}
use Rattle.serde_json.proofs.OnLiterals.{serde_json_on_literals}
use Rattle.std.specs.Fmt.{digits}
use Rattle.cam6_wire.specs.declared.faults.LineFault.{LineFault}
use Rattle.cam6_wire.specs.Replies.{fault_bytes}
use Rattle.cam6_wire.proofs.replies.fault_line.Goals as goal

pub returns-in-TooLong : goal.returns-in-TooLong
unfolding serde_json_on_literals fault_bytes digits
returns-in-TooLong c = sym (ap (λ (f : LineFault). fault_bytes f ++ 10 ∷ []) c.in-TooLong.is)

pub returns-in-NoJson : goal.returns-in-NoJson
unfolding serde_json_on_literals fault_bytes digits
returns-in-NoJson c = sym (ap (λ (f : LineFault). fault_bytes f ++ 10 ∷ []) c.in-NoJson.is)

pub returns-in-NoCommand : goal.returns-in-NoCommand
unfolding serde_json_on_literals fault_bytes digits
returns-in-NoCommand c = sym (ap (λ (f : LineFault). fault_bytes f ++ 10 ∷ []) c.in-NoCommand.is)

pub returns-in-OtherSpelling : goal.returns-in-OtherSpelling
unfolding serde_json_on_literals fault_bytes digits
returns-in-OtherSpelling c =
    sym (ap (λ (f : LineFault). fault_bytes f ++ 10 ∷ []) c.in-OtherSpelling.is)
