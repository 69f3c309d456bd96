use Rattle.std.proofs.Common.{◌≤◌, Some, ap, ◌∙◌, subst, sym}
use Rattle.serde_json.specs.Data.{depth}
use Rattle.serde_json.specs.Read.{max_depth}
use Rattle.serde_json.specs.Written.{compact_text, has_float}
use Rattle.cam6_wire.proofs.Flat.{flat_reply}
use Rattle.cam6_wire.proofs.Floats.{reply_without_float}
use Rattle.cam6_wire.specs.Replies.{reply_bytes}
use Rattle.cam6_wire.proofs.replies.value_text.Goals as goal

pub returns : goal.returns
unfolding reply_bytes
returns c =
    let is = c.in_ok-reply_value.ensures in
    let without_float = ap has_float is ∙ reply_without_float c.args.reply.now in
    let flat = subst (λ d. depth d ≤ max_depth) (sym is) (flat_reply c.args.reply.now) in
    record {
      text = c.in_ok-to_string.ensures.text without_float ∙ ap compact_text is;
      value = c.in_ok-to_string.ensures.reads_back flat ∙ ap Some is;
    }
