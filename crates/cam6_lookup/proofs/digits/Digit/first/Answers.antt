use Rattle.std.proofs.Common.{◌≡◌, ◌-◌, ◌≤◌, ◌∙◌, ap, arith}
use Rattle.std.specs.Int.{bit_at}
use Rattle.cam6_lookup.specs.Transposed.{worth, digit_of}
use Rattle.cam6_lookup.proofs.Positions.{below_one, below_zero}
use Rattle.cam6_lookup.proofs.Shifted.{first_kept, first_taken}
use Rattle.cam6_lookup.proofs.digits.Digit.first.Goals as goal

pub returns-clause-kept : goal.returns-clause-kept
returns-clause-kept c = λ p h e.
    let digit = c.args.self in
    let zeros = c.zeros-zeros in
    let s = c.worth.result in
    first_kept c.args.first c.args.second zeros.result s p h
    (zeros.ensures p h ∙ omega (arith, e))
    (λ le.
    let same : p - s ≡ p - worth digit = omega (arith, c.worth.ensures.value) in
    let enough : worth digit ≤ p = omega (arith, le, c.worth.ensures.value) in
    zeros.ensures (p - s) (omega arith) ∙ ap (λ n. 1 - digit_of digit n) same ∙
    ap (λ n. 1 - n) (below_zero digit p e enough))

pub returns-clause-taken : goal.returns-clause-taken
returns-clause-taken c = λ p h e.
    let digit = c.args.self in
    let zeros = c.zeros-zeros in
    let s = c.worth.result in
    let (enough, none) = below_one digit p e in
    let same : p - s ≡ p - worth digit = omega (arith, c.worth.ensures.value) in
    first_taken c.args.first c.args.second zeros.result s p h
    (omega (arith, enough, c.worth.ensures.value)) (zeros.ensures p h ∙ omega (arith, e))
    (zeros.ensures (p - s) (omega arith) ∙ ap (λ n. 1 - digit_of digit n) same ∙
    ap (λ n. 1 - n) none) ∙
    ap (bit_at c.args.second) same
