use Rattle.std.proofs.Common.{◌≡◌, ◌∙◌, ◌++◌, [], ◌∷◌, ap, sym}
use Rattle.serde_json.proofs.OnLiterals.{serde_json_on_literals}
use Rattle.std.specs.Fmt.{digits}
use Rattle.cam6_commands.specs.declared.replies.Done.{Done}
use Rattle.cam6_commands.specs.declared.replies.Reply.{Reply}
use Rattle.cam6_commands.specs.declared.replies.Reply.TheVariants as reply
use Rattle.cam6_wire.specs.Replies.{reply_bytes}
use Rattle.cam6_wire.proofs.replies.fixed_line.Goals as goal

-- a reply that only says what was done has its line
is_its_line : {r : Reply} {d e : Done} → r ≡ reply.Done d → d ≡ e →
    reply_bytes (reply.Done e) ++ 10 ∷ [] ≡ reply_bytes r ++ 10 ∷ []
is_its_line of same =
    sym (ap (λ (r : Reply). reply_bytes r ++ 10 ∷ []) of ∙
    ap (λ (d : Done). reply_bytes (reply.Done d) ++ 10 ∷ []) same)

pub returns-in-Set : goal.returns-in-Set
unfolding serde_json_on_literals reply_bytes digits
returns-in-Set c = is_its_line c.in-Done.is c.in-Set.is

pub returns-in-Clear : goal.returns-in-Clear
unfolding serde_json_on_literals reply_bytes digits
returns-in-Clear c = is_its_line c.in-Done.is c.in-Clear.is

pub returns-in-Rule : goal.returns-in-Rule
unfolding serde_json_on_literals reply_bytes digits
returns-in-Rule c = is_its_line c.in-Done.is c.in-Rule.is

pub returns-in-Drop : goal.returns-in-Drop
unfolding serde_json_on_literals reply_bytes digits
returns-in-Drop c = is_its_line c.in-Done.is c.in-Drop.is

pub returns-in-Cycle : goal.returns-in-Cycle
unfolding serde_json_on_literals reply_bytes digits
returns-in-Cycle c = is_its_line c.in-Done.is c.in-Cycle.is

pub returns-in-Side : goal.returns-in-Side
unfolding serde_json_on_literals reply_bytes digits
returns-in-Side c = is_its_line c.in-Done.is c.in-Side.is

pub returns-in-Map : goal.returns-in-Map
unfolding serde_json_on_literals reply_bytes digits
returns-in-Map c = is_its_line c.in-Done.is c.in-Map.is

pub returns-in-Load : goal.returns-in-Load
unfolding serde_json_on_literals reply_bytes digits
returns-in-Load c = is_its_line c.in-Done.is c.in-Load.is
