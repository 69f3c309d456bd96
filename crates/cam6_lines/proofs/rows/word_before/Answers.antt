use Rattle.std.proofs.Common.{◌≡◌, ◌+◌, ◌-◌, ◌*◌, ◌∙◌, ap, arith}
use Rattle.cam6_planes.specs.Row.{west_of}
use Rattle.cam6_planes.proofs.WordByWord.{west_of-suc, west_of-zero}
use Rattle.cam6_lines.proofs.rows.word_before.Goals as goal

pub returns-then-i-eq0-clause-word : goal.returns-then-i-eq0-clause-word
returns-then-i-eq0-clause-word c = λ h.
    let n = 64 * c.args.words in
    let zero : 64 * c.args.i ≡ 0 = omega arith in
    ap (west_of n) zero ∙ west_of-zero n (omega arith) ∙ omega arith

pub returns-else-i-eq0-clause-word : goal.returns-else-i-eq0-clause-word
returns-else-i-eq0-clause-word c = λ h.
    let n = 64 * c.args.words in
    let before : 64 * c.args.i ≡ 64 * (c.args.i - 1) + 63 + 1 = omega arith in
    ap (west_of n) before ∙ west_of-suc n (64 * (c.args.i - 1) + 63) (omega arith)
