use Rattle.std.proofs.Common.{◌∙◌, ◌++◌, ◌-◌, length, drop, ap, sym}
use Rattle.std.proofs.Common.{take-append-drop}
use Rattle.std.specs.Cmp.Lexicographic.{same_text}
use Rattle.cam6_wire.proofs.plain_lines.before.Goals as goal

pub returns : goal.returns
returns c =
    let text = c.args.text.now in
    let end = c.args.end.now in
    let cases = c.in_ok-rest.ensures.cases in
    sym (take-append-drop (length text - length end) text) ∙
    ap (λ x. x ++ drop (length text - length end) text) (sym cases.1) ∙
    ap (λ x. c.in_ok-rest.rest.now ++ x) (same_text _ _ (sym cases.0))
