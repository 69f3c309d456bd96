use Rattle.std.proofs.Common.{◌∙◌, ap}
use Rattle.serde_json.specs.Written.{compact_text, has_float}
use Rattle.cam6_wire.specs.Saved.{load_bytes}
use Rattle.cam6_wire.proofs.SavedValues.{load_without_float}
use Rattle.cam6_wire.proofs.saved.load_text.Goals as goal

pub returns : goal.returns
unfolding load_bytes
returns c =
    let is = c.in_ok-load_value.ensures in
    c.in_ok-to_string.ensures.text
    (ap has_float is ∙ load_without_float c.args.version c.args.saved.now)
    ∙ ap compact_text is
