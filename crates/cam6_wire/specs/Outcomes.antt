-- The JSON values that the outcomes of events are, and their texts.
use Rattle.std.specs.Prelude.{ℕ, List, codes, None, Some, ⊤}
use Rattle.serde_json.specs.Data.{Data, string, object, no_members, member}
use Rattle.serde_json.specs.Written.{compact_text}
use Rattle.cam6_commands.specs.Numbers.{refused_number}
use Rattle.cam6_commands.specs.declared.outcomes.Outcome.{Outcome}
use Rattle.cam6_commands.specs.declared.outcomes.Outcome.TheVariants.{NoMemory, Refused, Asked}
use Rattle.cam6_commands.specs.declared.outcomes.Outcome.TheVariants.{Leased, Banded, Preempted}
use Rattle.cam6_commands.specs.declared.outcomes.Outcome.TheVariants.{Failed, Repaired, Evicted}
use Rattle.cam6_commands.specs.declared.outcomes.Outcome.TheVariants.{Collected}
use Rattle.cam6_wire.specs.Replies.{done, reply_data}
use Rattle.cam6_wire.specs.Numbers.{natural}

-- {"refused":n}
abbrev pub refused : ℕ → Data
refused n = object (member (codes "refused") (natural n) no_members)

-- {"left":n,"ok":word}
abbrev pub left_after : ℕ → List ℕ → Data
left_after n word =
    object
    (member (codes "left") (natural n) (member (codes "ok") (string word) no_members))

-- the JSON value of an outcome, its keys in byte order; a failed allocation has the number 0
abbrev pub outcome_data : Outcome → Data
outcome_data NoMemory = refused 0
outcome_data (Refused reason) = refused (refused_number reason)
outcome_data (Asked left) = left_after left (codes "ask")
outcome_data (Leased left) = left_after left (codes "lease")
outcome_data (Banded left) = left_after left (codes "band")
outcome_data (Preempted left) = left_after left (codes "preempt")
outcome_data (Failed (Some left)) = left_after left (codes "fail")
outcome_data (Failed None) = done (codes "fail") no_members
outcome_data Repaired = done (codes "repair") no_members
outcome_data Evicted = done (codes "evict") no_members
outcome_data (Collected reply) =
    done (codes "collect") (member (codes "reply") (reply_data reply) no_members)

-- the compact text of an outcome
unfoldable pub outcome_bytes : Outcome → List ℕ
outcome_bytes outcome = compact_text (outcome_data outcome)

-- the event was done: it wasn't refused, and didn't run out of memory
abbrev pub WasDone : Outcome → Type 0
WasDone NoMemory = ⊥
WasDone (Refused reason) = ⊥
WasDone outcome = ⊤
