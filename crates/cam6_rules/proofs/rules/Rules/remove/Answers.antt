use Rattle.std.proofs.Common.{◌≡◌, ◌∙◌, List, map, false, ap, sym, subst}
use Rattle.std.specs.List.{list_any}
use Rattle.cam6_model.specs.Effects.{without_rule}
use Rattle.cam6_model.specs.Rules.{Rule}
use Rattle.cam6_model.specs.Always.{AreRules}
use Rattle.cam6_model.proofs.Staying.{rules_without}
use Rattle.cam6_rules.specs.Filled.{AreTrue}
use Rattle.cam6_rules.specs.Numbers.{entries_of, named_entries, AreNumbered}
use Rattle.cam6_rules.specs.Internal.Numbered.{rules_of, uses_number, closed_entry}
use Rattle.cam6_rules.proofs.Dropped.{names_closed, numbered_closed, tables_closed}
use Rattle.cam6_rules.proofs.rules.Rules.remove.Goals.{After-remove}
use Rattle.cam6_rules.proofs.rules.Rules.remove.Goals as goal

-- the entries, which have closed up
closed : (c : After-remove) →
    entries_of c.renumbered_cycle.result
    ≡ map (closed_entry c.in_ok-number.number) (entries_of c.args.cycle.now)
closed c =
    c.renumbered_cycle.ensures ∙
    ap (map (closed_entry c.in_ok-number.number)) c.entries_of-2.ensures.entries

unused : (c : After-remove) →
    list_any (uses_number c.in_ok-number.number) (entries_of c.args.cycle.now) ≡ false
unused c =
    ap (list_any (uses_number c.in_ok-number.number)) (sym c.entries_of.ensures.entries) ∙
    c.in_ok-number.ensures.unused

pub invariant_of-self : goal.invariant_of-self
invariant_of-self c =
    subst AreRules (sym c.remove.ensures)
    (rules_without c.args.name.now (rules_of c.self.inside.by_name.entries) c.self.invariant)

pub returns-clause-named : goal.returns-clause-named
returns-clause-named c =
    let rules = rules_of c.self.inside.by_name.entries in
    let cycle = entries_of c.args.cycle.now in
    let name = c.args.name.now in
    ap (λ (l : List Rule). named_entries l (entries_of c.renumbered_cycle.result)) c.remove.ensures ∙
    ap (named_entries (without_rule name rules)) (closed c) ∙
    names_closed name rules c.in_ok-number.number c.in_ok-number.ensures.number cycle (unused c) ∙
    ap (λ (l : List Rule). named_entries l cycle) c.self.view_is

pub returns-clause-numbered : goal.returns-clause-numbered
returns-clause-numbered c = λ numbered.
    let rules = rules_of c.self.inside.by_name.entries in
    let cycle = entries_of c.args.cycle.now in
    let name = c.args.name.now in
    subst (λ (l : List Rule). AreNumbered l (entries_of c.renumbered_cycle.result)) (sym c.remove.ensures)
    (subst (AreNumbered (without_rule name rules)) (sym (closed c))
    (numbered_closed name rules c.in_ok-number.number c.in_ok-number.ensures.number cycle (unused c)
    (subst (λ (l : List Rule). AreNumbered l cycle) (sym c.self.view_is) numbered)))

pub returns-clause-tables : goal.returns-clause-tables
returns-clause-tables c = λ tables are.
    let rules = rules_of c.self.inside.by_name.entries in
    let cycle = entries_of c.args.cycle.now in
    let name = c.args.name.now in
    subst (λ (l : List Rule). AreTrue tables l (entries_of c.renumbered_cycle.result))
    (sym c.remove.ensures)
    (subst (AreTrue tables (without_rule name rules)) (sym (closed c))
    (tables_closed name rules c.in_ok-number.number c.in_ok-number.ensures.number cycle tables
    (unused c) (subst (λ (l : List Rule). AreTrue tables l cycle) (sym c.self.view_is) are)))
