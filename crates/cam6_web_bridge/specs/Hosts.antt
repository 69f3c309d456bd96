-- Ways of answering lines. A host has one of its own.
use Rattle.std.specs.Prelude.{ℕ, List}
use Rattle.cam6_web_bridge.specs.declared.hosts.Answer.{Answer}
use Rattle.cam6_web_bridge.specs.declared.hosts.Answer.TheVariants.{Fixed, Made}
use Rattle.cam6_web_bridge.specs.declared.hosts.Silence.{Silence}

-- the bytes of an answer, without an LF
abbrev pub answer_bytes : Answer → List ℕ
answer_bytes (Fixed text) = text.now
answer_bytes (Made bytes) = bytes.items

-- from where a host stands, a line may be answered by such a text, and then it stands there; or it
-- fails to answer the line, for such a reason
pub record HostWays (H : Type 0) : Type 1 where
  pub answers : H → List ℕ → List ℕ → H → Type 0
  pub fails : H → List ℕ → Silence → H → Type 0
