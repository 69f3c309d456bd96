use Rattle.std.proofs.Common.{◌≡◌, ◌∙◌, ap, sym}
use Rattle.serde_json.proofs.OnLiterals.{serde_json_on_literals}
use Rattle.std.specs.Fmt.{digits}
use Rattle.cam6_commands.specs.declared.replies.Done.{Done}
use Rattle.cam6_commands.specs.declared.replies.Reply.{Reply}
use Rattle.cam6_commands.specs.declared.replies.Reply.TheVariants as reply
use Rattle.cam6_wire.specs.Replies.{reply_bytes}
use Rattle.cam6_wire.proofs.replies.fixed_text.Goals as goal

-- a reply that only says what was done has its text
is_its_text : {r : Reply} {d e : Done} → r ≡ reply.Done d → d ≡ e →
    reply_bytes (reply.Done e) ≡ reply_bytes r
is_its_text of same =
    sym (ap (λ (r : Reply). reply_bytes r) of ∙
    ap (λ (d : Done). reply_bytes (reply.Done d)) same)

pub returns-in-Set-clause-text : goal.returns-in-Set-clause-text
unfolding serde_json_on_literals reply_bytes digits
returns-in-Set-clause-text c = is_its_text c.in-Done.is c.in-Set.is

pub returns-in-Clear-clause-text : goal.returns-in-Clear-clause-text
unfolding serde_json_on_literals reply_bytes digits
returns-in-Clear-clause-text c = is_its_text c.in-Done.is c.in-Clear.is

pub returns-in-Rule-clause-text : goal.returns-in-Rule-clause-text
unfolding serde_json_on_literals reply_bytes digits
returns-in-Rule-clause-text c = is_its_text c.in-Done.is c.in-Rule.is

pub returns-in-Drop-clause-text : goal.returns-in-Drop-clause-text
unfolding serde_json_on_literals reply_bytes digits
returns-in-Drop-clause-text c = is_its_text c.in-Done.is c.in-Drop.is

pub returns-in-Cycle-clause-text : goal.returns-in-Cycle-clause-text
unfolding serde_json_on_literals reply_bytes digits
returns-in-Cycle-clause-text c = is_its_text c.in-Done.is c.in-Cycle.is

pub returns-in-Side-clause-text : goal.returns-in-Side-clause-text
unfolding serde_json_on_literals reply_bytes digits
returns-in-Side-clause-text c = is_its_text c.in-Done.is c.in-Side.is

pub returns-in-Map-clause-text : goal.returns-in-Map-clause-text
unfolding serde_json_on_literals reply_bytes digits
returns-in-Map-clause-text c = is_its_text c.in-Done.is c.in-Map.is

pub returns-in-Load-clause-text : goal.returns-in-Load-clause-text
unfolding serde_json_on_literals reply_bytes digits
returns-in-Load-clause-text c = is_its_text c.in-Done.is c.in-Load.is
