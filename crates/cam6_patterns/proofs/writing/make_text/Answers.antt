use Rattle.std.proofs.Common.{◌∙◌}
use Rattle.cam6_patterns.proofs.Texts.{text_is_whole}
use Rattle.cam6_patterns.proofs.writing.make_text.Goals as goal

pub returns : goal.returns
returns c =
    text_is_whole c.args.frame.now c.side.ensures.frame c.args.rule.now c.number.result
    c.states_of.result c.clear.new.self.items c.push_header.new.text.items
    c.push_rows.new.text.items c.extend_from_slice.new.self.items
    (c.number.ensures.value ∙ c.side.ensures.side) c.states_of.ensures c.clear.ensures.items
    c.in_ok-push_header.ensures c.in_ok-push_rows.ensures
    c.in_ok-extend_from_slice.ensures.items
