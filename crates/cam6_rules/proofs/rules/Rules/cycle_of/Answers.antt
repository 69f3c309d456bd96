use Rattle.std.proofs.Common.{◌≡◌, ◌∙◌, List, map, ap, sym, subst}
use Rattle.cam6_model.specs.Rules.{Rule}
use Rattle.cam6_model.proofs.Staying.{accepted_cycle}
use Rattle.cam6_rules.specs.Numbers.{named_entries, AreNumbered}
use Rattle.cam6_rules.specs.Internal.Numbered.{rules_of, numbered_entry}
use Rattle.cam6_rules.proofs.Naming.{named_back, are_numbered}
use Rattle.cam6_rules.proofs.rules.Rules.cycle_of.Goals.{After-numbered_cycle}
use Rattle.cam6_rules.proofs.rules.Rules.cycle_of.Goals as goal

-- the entries, with the numbers of the rules that they name
entries_numbered : (c : After-numbered_cycle) →
    c.numbered_cycle.result
    ≡ map (numbered_entry (rules_of c.self.inside.by_name.entries)) c.args.entries.now
entries_numbered c =
    c.numbered_cycle.ensures ∙
    ap (map (numbered_entry (rules_of c.self.inside.by_name.entries))) c.as_slice.ensures

pub returns-clause-named : goal.returns-clause-named
returns-clause-named c =
    let rules = rules_of c.self.inside.by_name.entries in
    let entries = c.args.entries.now in
    subst (λ (l : List Rule). named_entries l c.numbered_cycle.result ≡ entries) c.self.view_is
    (ap (named_entries rules) (entries_numbered c) ∙
    named_back rules entries (accepted_cycle rules entries (sym c.in_ok-accept_cycle.ensures.refusal)).1)

pub returns-clause-numbered : goal.returns-clause-numbered
returns-clause-numbered c =
    let rules = rules_of c.self.inside.by_name.entries in
    subst (λ (l : List Rule). AreNumbered l c.numbered_cycle.result) c.self.view_is
    (subst (AreNumbered rules) (sym (entries_numbered c)) (are_numbered rules c.args.entries.now))
