use Rattle.std.proofs.Common.{◌+◌, ◌∙◌, ap, arith}
use Rattle.std.specs.Int.{bit_at}
use Rattle.cam6_lookup.proofs.Shifted.{second_kept, second_taken}
use Rattle.cam6_lookup.proofs.digits.Digit.second.Goals as goal

pub returns-clause-taken : goal.returns-clause-taken
returns-clause-taken c = λ p h e.
    second_taken c.args.first c.args.second c.zeros.result c.worth.result p c.ones.result
    (c.zeros.ensures p h ∙ omega (arith, e)) (c.ones.ensures p h ∙ e) ∙
    ap (λ n. bit_at c.args.first (p + n)) c.worth.ensures.value

pub returns-clause-kept : goal.returns-clause-kept
returns-clause-kept c = λ p h e.
    second_kept c.args.first c.args.second c.zeros.result c.worth.result p c.ones.result
    (c.zeros.ensures p h ∙ omega (arith, e)) (c.ones.ensures p h ∙ e)
