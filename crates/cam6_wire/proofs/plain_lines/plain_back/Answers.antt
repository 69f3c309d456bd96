use Rattle.std.proofs.Common.{◌∙◌, ◌++◌, List, ℕ, codes, decimal, ap}
use Rattle.cam6_wire.proofs.PlainLines.{says_back}
use Rattle.cam6_wire.proofs.plain_lines.plain_back.Goals as goal

pub returns-clause-said : goal.returns-clause-said
returns-clause-said c =
    let n = c.in_ok-n.n in
    says_back c.args.line.now n c.requires.short c.in_ok-n.ensures.1
    (c.in_ok-n.ensures.0 ∙ ap (λ (front : List ℕ). front ++ decimal n ++ codes "}") c.as_slice.ensures)
