use Rattle.std.proofs.Common.{ap, sym, subst}
use Rattle.cam6_model.specs.Always.{AreRules}
use Rattle.cam6_model.proofs.Staying.{no_rules}
use Rattle.cam6_rules.specs.Internal.Numbered.{rules_of}
use Rattle.cam6_rules.proofs.rules.Rules.new.Goals as goal

pub invariant_of-result : goal.invariant_of-result
invariant_of-result c = subst AreRules (sym (ap rules_of c.new.ensures.empty)) no_rules
