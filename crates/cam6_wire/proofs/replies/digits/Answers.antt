use Rattle.std.proofs.Common.{IsUtf8, rules}
use Rattle.std.proofs.lemmas.Str.{IsUtf8-from_ascii}
use Rattle.cam6_wire.proofs.replies.digits.Goals as goal

pub unwrap-requires : goal.unwrap-requires
unwrap-requires c =
    let is_text : IsUtf8 c.args.row.now = IsUtf8-from_ascii c.args.row.now c.requires.row in
    search rules
