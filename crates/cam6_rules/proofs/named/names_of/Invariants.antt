use Rattle.std.proofs.Common.{◌≡◌, map, take}
use Rattle.cam6_rules.specs.Internal.Numbered.{rules_of}
use Rattle.cam6_rules.proofs.named.names_of.Given as goal

abbrev pub invariant-loop-number : goal.invariant-loop-number
invariant-loop-number l =
    l.names.items ≡ map (λ rule. rule.name) (take l.number (rules_of l.rules.entries))
