use Rattle.std.proofs.Common.{◌≡◌, take}
use Rattle.cam6_rules.specs.Internal.Numbered.{rules_of}
use Rattle.cam6_rules.proofs.saving.saved_rules.Given as goal

abbrev pub invariant-loop-number : goal.invariant-loop-number
invariant-loop-number l = l.saved.items ≡ take l.number (rules_of l.rules.entries)
