use Rattle.std.proofs.Common.{◌∙◌, ◌++◌, length, drop, ap, sym}
use Rattle.std.proofs.Common.{take-append-drop}
use Rattle.std.specs.Cmp.Lexicographic.{same_text}
use Rattle.cam6_wire.proofs.plain_lines.strip_prefix.Goals as goal

pub returns : goal.returns
returns c =
    let text = c.args.text.now in
    let front = c.args.front.now in
    let cases = c.in_ok-rest.ensures.cases in
    sym (take-append-drop (length front) text) ∙
    ap (λ x. x ++ drop (length front) text) (same_text _ _ (sym cases.0)) ∙
    ap (λ x. front ++ x) (sym cases.1)
