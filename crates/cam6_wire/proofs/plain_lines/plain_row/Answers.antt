use Rattle.std.proofs.Common.{◌∙◌, ◌++◌, List, ℕ, codes, decimal, ap}
use Rattle.cam6_wire.proofs.PlainLines.{says_row}
use Rattle.cam6_wire.proofs.plain_lines.plain_row.Goals as goal

pub returns-clause-said : goal.returns-clause-said
returns-clause-said c =
    let plane = c.in_ok-plane.plane in
    let row = c.in_ok-row.row in
    let after_plane =
    c.in_ok-row.ensures.0 ∙
    ap (λ (front : List ℕ). front ++ decimal row ++ codes "}") c.as_slice-2.ensures in
    says_row c.args.line.now plane row c.requires.short c.in_ok-plane.ensures.1
    c.in_ok-row.ensures.1
    (c.in_ok-strip_prefix.ensures ∙
    ap (λ (front : List ℕ). front ++ c.in_ok-strip_prefix.field-0.now) c.as_slice.ensures ∙
    ap (λ (rest : List ℕ). codes "{\"do\":\"row\",\"plane\":" ++ rest)
    (c.in_ok-plane.ensures.0 ∙ ap (λ (rest : List ℕ). decimal plane ++ rest) after_plane))
