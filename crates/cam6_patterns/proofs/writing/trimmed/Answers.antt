use Rattle.std.proofs.Common.{◌≡◌, List, ℕ, ◌++◌, ◌∷◌, [], sym, ap, ◌∙◌}
use Rattle.cam6_patterns.specs.Writing.{trimmed}
use Rattle.cam6_patterns.proofs.Rows.{trimmed_zero, trimmed_some}
use Rattle.cam6_patterns.proofs.writing.trimmed.Goals as goal

pub returns-then-last-ne0 : goal.returns-then-last-ne0
returns-then-last-ne0 c =
    let front : List ℕ = c.in-Some.front.now in
    let last : ℕ = c.in-Some.last.now in
    let is : c.loop-last.cells.now ≡ front ++ last ∷ [] = c.in-Some.ensures.cases.0 in
    is ∙ sym (trimmed_some front last c.if-last-ne0.true) ∙ ap trimmed (sym is)
    ∙ c.loop-last.invariant

pub loop-last-preserved : goal.loop-last-preserved
loop-last-preserved c =
    let front : List ℕ = c.in-Some.front.now in
    sym (trimmed_zero front) ∙ ap (λ x. trimmed (front ++ x ∷ [])) (sym c.if-last-ne0.false)
    ∙ ap trimmed (sym c.in-Some.ensures.cases.0) ∙ c.loop-last.invariant
