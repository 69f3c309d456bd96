-- Rules stay at their numbers where one is put.
use Rattle.std.proofs.Common.{◌≡◌, ℕ, List, [], ◌∷◌, Option, Some, None, sym, ap, ◌∙◌, subst}
use Rattle.std.proofs.Common.{slice_get, inl, inr}
use Rattle.std.specs.List.{list_any}
use Rattle.std.proofs.lemmas.List.{map-id}
use Rattle.std.proofs.lemmas.Option.{slice_get_within}
use Rattle.cam6_model.specs.Rules.{Rule, rule_named, rule_if_named}
use Rattle.cam6_rules.specs.Numbers.{IsNumbered, AreNumbered, rule_at, name_of, number_in}
use Rattle.cam6_rules.specs.Numbers.{named_entry, named_entries}
use Rattle.cam6_wiring.specs.declared.wirings.Wiring.{Wiring}
use Rattle.cam6_cycle.specs.declared.entries.Entry.{Entry}
use Rattle.cam6_cycle.specs.declared.entries.HalfRule.{HalfRule}
use Rattle.cam6_model.specs.Refusals as refuse
use Rattle.cam6_model.specs.Effects.{with_rule}
use Rattle.cam6_model.specs.Always.{HaveOwnNames}
use Rattle.cam6_model.proofs.KeptNames.{own_with, other_named}
use Rattle.cam6_rules.specs.Filled.{StoredTables, AreTrue}
use Rattle.cam6_rules.proofs.Naming.{rule_of_name, name_with}
use Rattle.cam6_rules.proofs.UsedRules.{HasSameRule, HaveSameRules, stay_true}
use Rattle.cam6_model.proofs.Staying.{neither, IsApart, other_name, AreApart, apart_if_room}
use Rattle.cam6_model.proofs.Staying.{none_own}

-- the rule at a number of an entry that is apart from a rule that is put stays there
stays_at : (new : Rule) (rules : List Rule) (number : ℕ) (rule : Rule) → HaveOwnNames rules →
    IsApart rules new.name (name_of (slice_get rules number)) →
    slice_get rules number ≡ Some rule → slice_get (with_rule new rules) number ≡ Some rule
stays_at new rules number rule own apart here =
    let named : rule_named rule.name rules ≡ Some rule =
    ap (λ found. rule_if_named (name_of found) rules) (sym here) ∙
    rule_of_name rules number own ∙ here in
    let other = other_name rules new.name rule.name rule named
    (subst (λ found. IsApart rules new.name (name_of found)) here apart) in
    let stays : name_of (slice_get (with_rule new rules) number) ≡ Some rule.name =
    name_with new rules number (slice_get_within rules number rule here) ∙ ap name_of here in
    sym (rule_of_name (with_rule new rules) number (own_with new rules none_own own)) ∙
    ap (λ name. rule_if_named name (with_rule new rules)) stays ∙
    other_named rule.name new rules other ∙ named

half_stays : (new : Rule) (rules : List Rule) (o : Option HalfRule) → HaveOwnNames rules →
    IsApart rules new.name (name_of (rule_at rules (number_in o))) → IsNumbered rules o →
    IsNumbered (with_rule new rules) o
half_stays new rules None own apart numbered = tt
half_stays new rules (Some kept) own apart (rule, here, hood, minor) =
    (rule, stays_at new rules kept.number rule own apart here, hood, minor)

-- and so the rule of a half is the same
same_half : (new : Rule) (rules : List Rule) (o : Option HalfRule) → HaveOwnNames rules →
    IsApart rules new.name (name_of (rule_at rules (number_in o))) → IsNumbered rules o →
    HasSameRule rules (with_rule new rules) o o
same_half new rules None own apart numbered = tt
same_half new rules (Some kept) own apart (rule, here, hood, minor) =
    stays_at new rules kept.number rule own apart here ∙ sym here

numbered_apart : (new : Rule) (rules : List Rule) (cycle : List Entry) → HaveOwnNames rules →
    AreApart rules (named_entries rules cycle) new.name → AreNumbered rules cycle →
    AreNumbered (with_rule new rules) cycle
numbered_apart new rules [] own apart numbered = tt
numbered_apart new rules (entry ∷ cycle) own (inl none) numbered = (
  (
    half_stays new rules entry.a own (inl none) numbered.0.0,
    half_stays new rules entry.b own (inl none) numbered.0.1,
  ),
  numbered_apart new rules cycle own (inl none) numbered.1,
)
numbered_apart new rules (entry ∷ cycle) own (inr unused) numbered =
    let named = named_entry rules entry in
    let (here, later) =
    neither (refuse.uses new.name named)
    (list_any (refuse.uses new.name) (named_entries rules cycle)) unused in
    let (a, b) =
    neither (refuse.is_name new.name named.a) (refuse.is_name new.name named.b) here in (
      (
        half_stays new rules entry.a own (inr a) numbered.0.0,
        half_stays new rules entry.b own (inr b) numbered.0.1,
      ),
      numbered_apart new rules cycle own (inr later) numbered.1,
    )

-- so all rules of a cycle stay at their numbers where a rule is put that isn't refused
pub numbered_with : (new : Rule) (rules : List Rule) (cycle : List Entry) → HaveOwnNames rules →
    refuse.rule_refusal rules (named_entries rules cycle) new.name ≡ None →
    AreNumbered rules cycle → AreNumbered (with_rule new rules) cycle
numbered_with new rules cycle own none numbered =
    numbered_apart new rules cycle own
    (apart_if_room rules (named_entries rules cycle) new.name none) numbered

same_apart : (new : Rule) (rules : List Rule) (cycle : List Entry) → HaveOwnNames rules →
    AreApart rules (named_entries rules cycle) new.name → AreNumbered rules cycle →
    HaveSameRules rules (with_rule new rules) (λ entry. entry) cycle
same_apart new rules [] own apart numbered = tt
same_apart new rules (entry ∷ cycle) own (inl none) numbered = (
  (
    same_half new rules entry.a own (inl none) numbered.0.0,
    same_half new rules entry.b own (inl none) numbered.0.1,
  ),
  same_apart new rules cycle own (inl none) numbered.1,
)
same_apart new rules (entry ∷ cycle) own (inr unused) numbered =
    let named = named_entry rules entry in
    let (here, later) =
    neither (refuse.uses new.name named)
    (list_any (refuse.uses new.name) (named_entries rules cycle)) unused in
    let (a, b) =
    neither (refuse.is_name new.name named.a) (refuse.is_name new.name named.b) here in (
      (
        same_half new rules entry.a own (inr a) numbered.0.0,
        same_half new rules entry.b own (inr b) numbered.0.1,
      ),
      same_apart new rules cycle own (inr later) numbered.1,
    )

-- and the tables of a cycle's rules stay theirs
pub tables_with : (new : Rule) (rules : List Rule) (cycle : List Entry) (tables : StoredTables) →
    HaveOwnNames rules →
    refuse.rule_refusal rules (named_entries rules cycle) new.name ≡ None →
    AreNumbered rules cycle → AreTrue tables rules cycle → AreTrue tables (with_rule new rules) cycle
tables_with new rules cycle tables own none numbered are =
    subst (λ (l : List Entry). AreTrue tables (with_rule new rules) l) (map-id cycle)
    (stay_true rules (with_rule new rules) (λ entry. entry) cycle tables
    (same_apart new rules cycle own
    (apart_if_room rules (named_entries rules cycle) new.name none) numbered) are)

-- a rule that was put, with what was said of it
pub put_as : (rules new : List Rule) (name text said_text : List ℕ) (wiring said_wiring : Wiring) →
    said_wiring ≡ wiring → said_text ≡ text →
    new ≡ with_rule (record { name = name; wiring = said_wiring; text = said_text }) rules →
    new ≡ with_rule (record { name = name; wiring = wiring; text = text }) rules
put_as rules new name text said_text wiring said_wiring same_wiring same_text put =
    put ∙
    ap (λ w. with_rule (record { name = name; wiring = w; text = said_text }) rules) same_wiring ∙
    ap (λ t. with_rule (record { name = name; wiring = wiring; text = t }) rules) same_text
