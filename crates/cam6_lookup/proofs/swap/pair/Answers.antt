use Rattle.std.proofs.Common.{◌≡◌, ◌+◌, [], ◌∷◌, get_or, refl, ap, arith}
use Rattle.cam6_lookup.proofs.Transposing.{below_two}
use Rattle.cam6_lookup.proofs.swap.pair.Goals as goal

pub returns : goal.returns
returns g c =
    let line = c.args.line.now in
    let word = c.args.word in
    below_two (λ i. get_or (get_or line word 0 ∷ get_or line (word + 1) 0 ∷ []) i 0
    ≡ get_or line (word + i) 0) (ap (λ n. get_or line n 0) (omega arith)) refl
