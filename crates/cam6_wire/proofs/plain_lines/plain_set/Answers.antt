use Rattle.std.proofs.Common.{◌∙◌, ◌++◌, List, ℕ, codes, decimal, ap, sym}
use Rattle.cam6_wire.proofs.PlainLines.{says_set}
use Rattle.cam6_wire.proofs.plain_lines.plain_set.Goals as goal

pub returns-clause-said : goal.returns-clause-said
returns-clause-said c =
    let plane = c.in_ok-plane.plane in
    let row = c.in_ok-row.row in
    let digits = c.in_ok-digits.digits.now in
    let after_row =
    c.in_ok-rest.ensures ∙
    ap (λ (front : List ℕ). front ++ c.in_ok-rest.rest.now) c.as_slice-3.ensures ∙
    ap (λ (rest : List ℕ). codes ",\"bits\":\"" ++ rest)
    (c.in_ok-digits.ensures ∙ ap (λ (end : List ℕ). digits ++ end) c.as_slice-4.ensures) in
    let after_plane =
    c.in_ok-strip_prefix-2.ensures ∙
    ap (λ (front : List ℕ). front ++ c.in_ok-strip_prefix-2.field-0.now) c.as_slice-2.ensures ∙
    ap (λ (rest : List ℕ). codes ",\"row\":" ++ rest)
    (c.in_ok-row.ensures.0 ∙ ap (λ (rest : List ℕ). decimal row ++ rest) after_row) in
    says_set c.args.line.now plane row digits c.in_ok-bits.bits c.requires.short
    c.in_ok-plane.ensures.1 c.in_ok-row.ensures.1
    (c.in_ok-strip_prefix.ensures ∙
    ap (λ (front : List ℕ). front ++ c.in_ok-strip_prefix.field-0.now) c.as_slice.ensures ∙
    ap (λ (rest : List ℕ). codes "{\"do\":\"set\",\"plane\":" ++ rest)
    (c.in_ok-plane.ensures.0 ∙ ap (λ (rest : List ℕ). decimal plane ++ rest) after_plane))
    (sym c.in_ok-bits.ensures)
