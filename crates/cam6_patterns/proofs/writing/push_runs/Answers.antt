use Rattle.std.proofs.Common.{◌≡◌, ◌<◌, ◌∙◌, ◌++◌, ◌∷◌, ℕ, List, sym, ap, subst, arith}
use Rattle.std.specs.List.{AllByRecursion}
use Rattle.cam6_patterns.specs.Pattern.{most_states}
use Rattle.cam6_patterns.specs.Writing.{counted, letter, filled, runs_after}
use Rattle.cam6_patterns.proofs.Rows.{run_ends}
use Rattle.cam6_patterns.proofs.writing.push_runs.Goals as goal

pub loop-cell-preserved : goal.loop-cell-preserved
loop-cell-preserved c =
    let P : ℕ → Type 0 = λ cell. cell < most_states in
    let states : ℕ = c.args.states in
    let count : ℕ = c.loop-cell.count in
    let state : ℕ = c.loop-cell.state in
    let used : ℕ = c.loop-cell.used in
    let text : List ℕ = c.loop-cell.text.items in
    let cell : ℕ = c.in-Some-split_first.cell.now in
    let rest : List ℕ = c.loop-cell.rest.now in
    let later : List ℕ = c.in-Some-split_first.later.now in
    let is : rest ≡ cell ∷ later = c.in-Some-split_first.ensures.cases.0 in
    let part : c.as_slice.result.now ≡ counted count (letter states state) =
    c.as_slice.ensures.value ∙ c.counted.ensures ∙ ap (counted count) c.letter.ensures in
    let few : AllByRecursion P (cell ∷ later) =
    subst (AllByRecursion P) is c.loop-cell.invariant.few in
    record {
      fills = λ more.
          c.loop-cell.invariant.fills more
          ∙ ap (λ l. text ++ filled used (l ++ more))
          (run_ends states count state cell rest later is c.if-cell-state.false)
          ∙ ap (λ p. text ++ filled used (p ∷ (runs_after states 1 cell later ++ more))) (sym part)
          ∙ c.in_ok-used.ensures (runs_after states 1 cell later ++ more);
      counted = omega (arith, c.loop-cell.invariant.counted, c.in-Some-split_first.ensures.cases.1);
      few = few.1;
      small = few.0;
    }
