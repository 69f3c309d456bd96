use Rattle.std.proofs.Common.{◌≡◌, ◌≤◌, ◌<◌, ◌+◌, ◌++◌, ℕ, List, length}
use Rattle.std.specs.List.{AllByRecursion}
use Rattle.cam6_patterns.specs.Pattern.{most_states}
use Rattle.cam6_patterns.specs.Writing.{filled, runs, runs_after}
use Rattle.cam6_patterns.proofs.writing.push_runs.Given as goal

abbrev pub invariant-loop-cell : goal.invariant-loop-cell
invariant-loop-cell l = record {
  fills : (more : List (List ℕ)) →
      l.fn.text.items ++ filled l.fn.used (runs l.states l.cells ++ more)
      ≡ l.text.items ++ filled l.used (runs_after l.states l.count l.state l.rest ++ more);
  counted : l.count + length l.rest ≤ length l.cells;
  few : AllByRecursion (λ cell. cell < most_states) l.rest;
  small : l.state < most_states;
}

abbrev pub decreases-loop-cell : goal.decreases-loop-cell
decreases-loop-cell l = length l.rest
