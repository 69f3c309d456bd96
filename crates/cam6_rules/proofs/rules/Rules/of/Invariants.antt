use Rattle.std.proofs.Common.{◌≡◌, ◌++◌, []}
use Rattle.std.specs.Vec.Iter.{into_iter_items}
use Rattle.cam6_model.specs.Refusals.{are_rules_after}
use Rattle.cam6_rules.proofs.rules.Rules.of.Given as goal

abbrev pub invariant-loop-rule : goal.invariant-loop-rule
invariant-loop-rule l = record {
  all : l.kept ++ into_iter_items l.rule-iterator ≡ l.fn.rules;
  rest : are_rules_after l.kept (into_iter_items l.rule-iterator) ≡ are_rules_after [] l.fn.rules;
  scratch : l.scratch ≡ l.fn.scratch;
}
