-- Numbers of rules, and their names: they say the same where the names are the rules' own.
use Rattle.std.proofs.Common.{◌≡◌, ◌<◌, ℕ, zero, suc, Bool, true, false, ◌||◌, ◌==◌, List, [], ◌∷◌}
use Rattle.std.proofs.Common.{map, length, Option, Some, None, cond, refl, sym, ap, ◌∙◌, arith}
use Rattle.std.proofs.Common.{subst, inl, inr, option_map, slice_get, nat_le}
use Rattle.std.specs.List.{AllByRecursion, list_any}
use Rattle.std.specs.Str.{bytes_eq}
use Rattle.std.proofs.lemmas.Bool.Decides.{eqb_tells}
use Rattle.std.proofs.lemmas.Option.{slice_get_within}
use Rattle.cam6_wiring.specs.declared.names.Half.{Half}
use Rattle.cam6_wiring.specs.declared.names.Half.TheVariants.{A, B}
use Rattle.cam6_wiring.specs.Name.{phase_number}
use Rattle.cam6_wiring.specs.declared.names.Phase.{Phase}
use Rattle.cam6_wiring.specs.declared.names.Phase.TheVariants.{P0, P1, P2, P3}
use Rattle.cam6_cycle.specs.declared.entries.Entry.{Entry}
use Rattle.cam6_cycle.specs.declared.entries.HalfRule.{HalfRule}
use Rattle.cam6_commands.specs.Limits.{max_rules}
use Rattle.cam6_commands.specs.Names.{is_rule_name}
use Rattle.cam6_model.specs.Rules.{Rule, rule_named, rule_if_named}
use Rattle.cam6_model.specs.Cycles.{EntryRules, phase_of, entry_rules}
use Rattle.cam6_model.specs.Effects.{with_rule}
use Rattle.cam6_model.specs.Always.{HaveOwnNames, IsNamed, IsEntry}
use Rattle.cam6_model.specs.Refusals.{is_name, is_used, room_refusal, rule_refusal, gone_refusal}
use Rattle.cam6_model.specs.Refusals.{drop_refusal}
use Rattle.cam6_rules.specs.Numbers.{rule_at, name_of, named_entry, named_entries, rules_at}
use Rattle.cam6_rules.specs.Numbers.{AreNumbered, number_in, IsNumbered}
use Rattle.cam6_rules.specs.Internal.Numbered.{rule_number, number_if_named, numbered_entry}
use Rattle.cam6_rules.specs.Internal.Numbered.{IsNumber, is_number, uses_number, half_rule}
use Rattle.cam6_rules.specs.Internal.Numbered.{half_rule_at}
use Rattle.cam6_commands.specs.declared.commands.NamedEntry.{NamedEntry}
use Rattle.cam6_commands.specs.declared.faults.Fault.TheVariants.{RuleInUse, TooManyRules}
use Rattle.cam6_commands.specs.declared.faults.Fault.TheVariants.{OutOfRange, NoRule}
use Rattle.cam6_model.proofs.Names.{names_of, same_bytes, bytes_eq-self, apart_names, bytes_eq-flip}
use Rattle.cam6_model.proofs.Names.{first_own, later_own, name_at_number}

-- a name that is not among others is none of theirs
not_later : (name : List ℕ) (rules : List Rule) (number : ℕ) (rule : Rule) →
    AllByRecursion (λ other. bytes_eq name other ≡ false) (names_of rules) →
    slice_get rules number ≡ Some rule → bytes_eq name rule.name ≡ false
not_later name [] number rule apart found = cc found
not_later name (first ∷ rules) zero rule apart found =
    let same : first ≡ rule = cc found in ap (λ r. bytes_eq name r.name) (sym same) ∙ apart.0
not_later name (first ∷ rules) (suc number) rule apart found =
    not_later name rules number rule apart.1 found

-- the rule of the name of the rule at a number is that rule
pub rule_of_name : (rules : List Rule) (number : ℕ) → HaveOwnNames rules →
    rule_if_named (name_of (slice_get rules number)) rules ≡ slice_get rules number
rule_of_name [] number own = refl
rule_of_name (first ∷ rules) zero own =
    ap (λ b. cond b (Some first) (rule_named first.name rules)) (bytes_eq-self first.name)
rule_of_name (first ∷ rules) (suc number) own =
    at_rule (slice_get rules number) refl
    (rule_of_name rules number (later_own first rules own))
  where
    at_rule : (found : Option Rule) → slice_get rules number ≡ found →
        rule_if_named (name_of (slice_get rules number)) rules ≡ slice_get rules number →
        rule_if_named (name_of (slice_get rules number)) (first ∷ rules) ≡ slice_get rules number
    at_rule None e later = ap (λ o. rule_if_named (name_of o) (first ∷ rules)) e ∙ sym e
    at_rule (Some rule) e later =
        let other : bytes_eq rule.name first.name ≡ false =
        bytes_eq-flip first.name rule.name false
        (not_later first.name rules number rule (first_own first rules own) e) in
        ap (λ o. rule_if_named (name_of o) (first ∷ rules)) e ∙
        ap (λ b. cond b (Some first) (rule_named rule.name rules)) other ∙
        ap (λ o. rule_if_named (name_of o) rules) (sym e) ∙ later

pub phase_back : (phase : Phase) → phase_of (phase_number phase) ≡ phase
phase_back P0 = refl
phase_back P1 = refl
phase_back P2 = refl
phase_back P3 = refl

half_back : (rules : List Rule) (number : Option ℕ) → HaveOwnNames rules →
    rule_if_named (name_of (rule_at rules number)) rules ≡ rule_at rules number
half_back rules None own = refl
half_back rules (Some number) own = rule_of_name rules number own

-- an entry with names has the rules that it has with numbers
pub same_rules : (rules : List Rule) (entry : Entry) → HaveOwnNames rules →
    entry_rules rules (named_entry rules entry) ≡ rules_at rules entry
same_rules rules entry own =
    let a = half_back rules (number_in entry.a) own in
    let b = half_back rules (number_in entry.b) own in
    let phase = phase_back entry.phase in
    ap {B = EntryRules} (λ r. record {
      a = r;
      b = rule_if_named (name_of (rule_at rules (number_in entry.b))) rules;
      grid = entry.grid;
      phase = phase_of (phase_number entry.phase);
    }) a ∙
    ap {B = EntryRules} (λ r. record {
      a = rule_at rules (number_in entry.a);
      b = r;
      grid = entry.grid;
      phase = phase_of (phase_number entry.phase);
    }) b ∙
    ap {B = EntryRules} (λ p. record {
      a = rule_at rules (number_in entry.a);
      b = rule_at rules (number_in entry.b);
      grid = entry.grid;
      phase = p;
    }) phase

-- where a rule has the name there is a number, and the name is that of the rule there
pub name_numbered : (name : List ℕ) (rules : List Rule) (rule : Rule) →
    rule_named name rules ≡ Some rule → name_of (rule_at rules (rule_number name rules)) ≡ Some name
name_numbered name [] rule found = cc found
name_numbered name (first ∷ rules) rule found =
    by_test (bytes_eq name first.name) refl found (λ f. name_numbered name rules rule f)
  where
    later : (o : Option ℕ) →
        name_of (rule_at (first ∷ rules) (option_map suc o)) ≡ name_of (rule_at rules o)
    later None = refl
    later (Some number) = refl

    by_test : (b : Bool) → bytes_eq name first.name ≡ b →
        cond b (Some first) (rule_named name rules) ≡ Some rule →
        (rule_named name rules ≡ Some rule →
        name_of (rule_at rules (rule_number name rules)) ≡ Some name) →
        name_of (rule_at (first ∷ rules)
        (cond b (Some 0) (option_map suc (rule_number name rules)))) ≡ Some name
    by_test true e found rest = ap Some (sym (same_bytes name first.name e))
    by_test false e found rest = later (rule_number name rules) ∙ rest found

-- a number is one of the rules'
pub number_within : (name : List ℕ) (rules : List Rule) → IsNumber rules (rule_number name rules)
number_within name [] = tt
number_within name (first ∷ rules) = by_test (bytes_eq name first.name) (number_within name rules)
  where
    later : (o : Option ℕ) → IsNumber rules o → IsNumber (first ∷ rules) (option_map suc o)
    later None within = tt
    later (Some number) within = omega (arith, within)

    by_test : (b : Bool) → IsNumber rules (rule_number name rules) →
        IsNumber (first ∷ rules) (cond b (Some 0) (option_map suc (rule_number name rules)))
    by_test true rest = omega arith
    by_test false rest = later (rule_number name rules) rest

-- the rule of a name is the rule at the name's number
pub named_at : (name : List ℕ) (rules : List Rule) →
    rule_named name rules ≡ rule_at rules (rule_number name rules)
named_at name [] = refl
named_at name (first ∷ rules) = by_test (bytes_eq name first.name) (named_at name rules)
  where
    later : (o : Option ℕ) → rule_at rules o ≡ rule_at (first ∷ rules) (option_map suc o)
    later None = refl
    later (Some number) = refl

    by_test : (b : Bool) → rule_named name rules ≡ rule_at rules (rule_number name rules) →
        cond b (Some first) (rule_named name rules)
        ≡ rule_at (first ∷ rules) (cond b (Some 0) (option_map suc (rule_number name rules)))
    by_test true rest = refl
    by_test false rest = rest ∙ later (rule_number name rules)

found_at : {X : Type 0} (xs : List X) (i : ℕ) → i < length xs →
    (x : X) × (slice_get xs i ≡ Some x)
found_at [] i within = absurd (omega (arith, within))
found_at (x ∷ xs) zero within = (x, refl)
found_at (x ∷ xs) (suc i) within = found_at xs i (omega (arith, within))

-- rules at two numbers have two names
own_number : (rules : List Rule) (first second : ℕ) (rule other : Rule) → HaveOwnNames rules →
    slice_get rules first ≡ Some rule → slice_get rules second ≡ Some other →
    rule.name ≡ other.name → first ≡ second
own_number [] first second rule other own a b same = cc a
own_number (head ∷ rules) zero zero rule other own a b same = refl
own_number (head ∷ rules) zero (suc second) rule other own a b same =
    let is : head ≡ rule = cc a in
    let apart : bytes_eq head.name other.name ≡ false =
    not_later head.name rules second other (first_own head rules own) b in
    let equal : head.name ≡ other.name = ap (λ r. r.name) is ∙ same in
    absurd (apart_names head.name other.name apart equal)
own_number (head ∷ rules) (suc first) zero rule other own a b same =
    let is : head ≡ other = cc b in
    let apart : bytes_eq head.name rule.name ≡ false =
    not_later head.name rules first rule (first_own head rules own) a in
    let equal : head.name ≡ rule.name = ap (λ r. r.name) is ∙ sym same in
    absurd (apart_names head.name rule.name apart equal)
own_number (head ∷ rules) (suc first) (suc second) rule other own a b same =
    ap suc (own_number rules first second rule other (later_own head rules own) a b same)

module _ (rules : List Rule) (name : List ℕ) (number : ℕ) (rule : Rule) (own : HaveOwnNames rules)
    (here : slice_get rules number ≡ Some rule) (named : name ≡ rule.name) where
  -- a number is this one exactly where its name is this one
  name_by_number : (o : Option ℕ) → is_name name (name_of (rule_at rules o)) ≡ is_number number o
  name_by_number None = refl
  name_by_number (Some other) = at_rule (slice_get rules other) refl
    where
      at_other : (r : Rule) → slice_get rules other ≡ Some r →
          bytes_eq r.name name ≡ (other == number)
      at_other r e = elim (eqb_tells other number) [
        | inl same ↦
            let both : Some r ≡ Some rule = sym e ∙ ap (slice_get rules) same.1 ∙ here in
            let is : r ≡ rule = cc both in
            ap (λ (q : Rule). bytes_eq q.name name) is ∙
            ap (λ n. bytes_eq n name) (sym named) ∙ bytes_eq-self name ∙ sym same.0
        | inr apart ↦ by_test (bytes_eq r.name name) refl apart.0 apart.1
      ]
        where
          by_test : (t : Bool) → bytes_eq r.name name ≡ t → (other == number) ≡ false →
              (other ≡ number → ⊥) → bytes_eq r.name name ≡ (other == number)
          by_test false f differs apart = f ∙ sym differs
          by_test true f differs apart =
              absurd (apart (own_number rules other number r rule own e here
              (same_bytes r.name name f ∙ named)))

      at_rule : (found : Option Rule) → slice_get rules other ≡ found →
          is_name name (name_of (slice_get rules other)) ≡ (other == number)
      at_rule (Some r) e = ap (λ f. is_name name (name_of f)) e ∙ at_other r e
      at_rule None e = elim (eqb_tells other number) [
        | inl same ↦
            let both : None ≡ Some rule = sym e ∙ ap (slice_get rules) same.1 ∙ here in cc both
        | inr apart ↦ ap (λ f. is_name name (name_of f)) e ∙ sym apart.0
      ]

  -- so entries have the number exactly where they have the name
  used_by_number : (cycle : List Entry) →
      is_used (named_entries rules cycle) name ≡ list_any (uses_number number) cycle
  used_by_number [] = refl
  used_by_number (entry ∷ cycle) =
      ap (λ a. (a || is_name name (name_of (rule_at rules (number_in entry.b))))
      || is_used (named_entries rules cycle) name) (name_by_number (number_in entry.a)) ∙
      ap (λ b. (is_number number (number_in entry.a) || b) || is_used (named_entries rules cycle) name)
      (name_by_number (number_in entry.b)) ∙
      ap (λ later. uses_number number entry || later) (used_by_number cycle)

-- a rule that is there is refused where an entry has its number
pub room_numbered : (rules : List Rule) (cycle : List Entry) (name : List ℕ) (number : ℕ) →
    HaveOwnNames rules → rule_number name rules ≡ Some number →
    room_refusal rules (named_entries rules cycle) name (rule_named name rules)
    ≡ cond (list_any (uses_number number) cycle) (Some RuleInUse) None
room_numbered rules cycle name number own found =
    let within : number < length rules = subst (IsNumber rules) found (number_within name rules) in
    let (rule, here) = found_at rules number within in
    let is : rule_named name rules ≡ Some rule =
    named_at name rules ∙ ap (rule_at rules) found ∙ here in
    ap (room_refusal rules (named_entries rules cycle) name) is ∙
    ap (λ used. cond used (Some RuleInUse) None)
    (used_by_number rules name number rule own here (name_at_number name rules rule is) cycle)

-- the refusal of a rule that is dropped, by its number
pub dropped_numbered : (rules : List Rule) (cycle : List Entry) (name : List ℕ) (number : ℕ)
    (used : Bool) → HaveOwnNames rules → rule_number name rules ≡ Some number →
    used ≡ list_any (uses_number number) cycle →
    drop_refusal rules (named_entries rules cycle) name ≡ cond used (Some RuleInUse) None
dropped_numbered rules cycle name number used own found is =
    let within : number < length rules = subst (IsNumber rules) found (number_within name rules) in
    let (rule, here) = found_at rules number within in
    let there : rule_named name rules ≡ Some rule =
    named_at name rules ∙ ap (rule_at rules) found ∙ here in
    ap (gone_refusal (named_entries rules cycle) name) there ∙
    ap (λ used. cond used (Some RuleInUse) None)
    (used_by_number rules name number rule own here (name_at_number name rules rule there) cycle ∙
    sym is)

-- and without a number
pub dropped_none : (rules : List Rule) (cycle : List NamedEntry) (name : List ℕ) →
    rule_number name rules ≡ None → drop_refusal rules cycle name ≡ Some NoRule
dropped_none rules cycle name none =
    ap (gone_refusal cycle name) (named_at name rules ∙ ap (rule_at rules) none)

-- a new one where there are too many
pub room_new : (rules : List Rule) (cycle : List NamedEntry) (name : List ℕ) →
    rule_number name rules ≡ None →
    room_refusal rules cycle name (rule_named name rules)
    ≡ cond (nat_le max_rules (length rules)) (Some TooManyRules) None
room_new rules cycle name none =
    ap (room_refusal rules cycle name) (named_at name rules ∙ ap (rule_at rules) none)

-- a rule's name is refused as its number is
pub refused_numbered : (rules : List Rule) (cycle : List Entry) (name : List ℕ) (number : ℕ)
    (used : Bool) → HaveOwnNames rules → true ≡ is_rule_name name →
    rule_number name rules ≡ Some number → used ≡ list_any (uses_number number) cycle →
    cond used (Some RuleInUse) None ≡ rule_refusal rules (named_entries rules cycle) name
refused_numbered rules cycle name number used own named found is =
    ap (λ b. cond b (Some RuleInUse) None) is ∙
    sym (room_numbered rules cycle name number own found) ∙
    ap (λ b. cond b (room_refusal rules (named_entries rules cycle) name (rule_named name rules))
    (Some OutOfRange)) named

-- or as a new one
pub refused_new : (rules : List Rule) (cycle : List NamedEntry) (name : List ℕ) (full : Bool) →
    true ≡ is_rule_name name → rule_number name rules ≡ None →
    full ≡ nat_le max_rules (length rules) →
    cond full (Some TooManyRules) None ≡ rule_refusal rules cycle name
refused_new rules cycle name full named none is =
    ap (λ b. cond b (Some TooManyRules) None) is ∙
    sym (room_new rules cycle name none) ∙
    ap (λ b. cond b (room_refusal rules cycle name (rule_named name rules))
    (Some OutOfRange)) named

-- names and numbers where a rule was put: rules that were there keep both
pub name_with : (new : Rule) (rules : List Rule) (number : ℕ) → number < length rules →
    name_of (slice_get (with_rule new rules) number) ≡ name_of (slice_get rules number)
name_with new [] number within = absurd (omega (arith, within))
name_with new (rule ∷ rules) number within =
    by_test (bytes_eq new.name rule.name) number within
    (λ later inside. name_with new rules later inside)
  where
    by_test : (b : Bool) (number : ℕ) → number < length (rule ∷ rules) →
        ((later : ℕ) → later < length rules →
        name_of (slice_get (with_rule new rules) later) ≡ name_of (slice_get rules later)) →
        name_of (slice_get (cond b
        (record rule { wiring = new.wiring; text = new.text } ∷ rules)
        (rule ∷ with_rule new rules)) number)
        ≡ name_of (slice_get (rule ∷ rules) number)
    by_test true zero within rest = refl
    by_test true (suc number) within rest = refl
    by_test false zero within rest = refl
    by_test false (suc number) within rest = rest number (omega (arith, within))

-- a rule that stands at its number has one of the numbers
is_within : (rules : List Rule) (o : Option HalfRule) → IsNumbered rules o →
    IsNumber rules (number_in o)
is_within rules None numbered = tt
is_within rules (Some half) (rule, here, hood, minor) = slice_get_within rules half.number rule here

half_with : (new : Rule) (rules : List Rule) (o : Option ℕ) → IsNumber rules o →
    name_of (rule_at (with_rule new rules) o) ≡ name_of (rule_at rules o)
half_with new rules None within = refl
half_with new rules (Some number) within = name_with new rules number within

pub entries_with : (new : Rule) (rules : List Rule) (cycle : List Entry) → AreNumbered rules cycle →
    named_entries (with_rule new rules) cycle ≡ named_entries rules cycle
entries_with new rules [] numbered = refl
entries_with new rules (entry ∷ cycle) numbered =
    let later = named_entries (with_rule new rules) cycle in
    ap {B = List NamedEntry} (λ a. record {
      a = a;
      b = name_of (rule_at (with_rule new rules) (number_in entry.b));
      grid = entry.grid;
      phase = phase_number entry.phase;
    } ∷ later) (half_with new rules (number_in entry.a)
    (is_within rules entry.a numbered.0.0)) ∙
    ap {B = List NamedEntry} (λ b. record {
      a = name_of (rule_at rules (number_in entry.a));
      b = b;
      grid = entry.grid;
      phase = phase_number entry.phase;
    } ∷ later) (half_with new rules (number_in entry.b)
    (is_within rules entry.b numbered.0.1)) ∙
    ap (λ l. named_entry rules entry ∷ l) (entries_with new rules cycle numbered.1)

-- names that are numbered are had back
half_named : (rules : List Rule) (half : Half) (o : Option (List ℕ)) → IsNamed rules half o →
    name_of (rule_at rules (number_if_named rules o)) ≡ o
half_named rules half None named = refl
half_named rules half (Some name) (rule, found, of_half) = name_numbered name rules rule found

half_within : (rules : List Rule) (o : Option (List ℕ)) → IsNumber rules (number_if_named rules o)
half_within rules None = tt
half_within rules (Some name) = number_within name rules

-- the number of a rule that an entry was given by its number
number_back : (rules : List Rule) (o : Option ℕ) → IsNumber rules o →
    number_in (half_rule_at rules o) ≡ o
number_back rules None within = refl
number_back rules (Some number) within =
    let (rule, here) = found_at rules number within in
    ap (λ found. number_in (half_rule number found)) here

half_numbered : (rules : List Rule) (half : Half) (o : Option (List ℕ)) → IsNamed rules half o →
    name_of (rule_at rules (number_in (half_rule_at rules (number_if_named rules o)))) ≡ o
half_numbered rules half o named =
    ap (λ number. name_of (rule_at rules number))
    (number_back rules (number_if_named rules o) (half_within rules o)) ∙
    half_named rules half o named

phase_number_back : (n : ℕ) → n < 4 → phase_number (phase_of n) ≡ n
phase_number_back zero within = refl
phase_number_back (suc zero) within = refl
phase_number_back (suc (suc zero)) within = refl
phase_number_back (suc (suc (suc n))) within = omega (arith, within)

pub named_back : (rules : List Rule) (entries : List NamedEntry) →
    AllByRecursion (IsEntry rules) entries →
    named_entries rules (map (numbered_entry rules) entries) ≡ entries
named_back rules [] are = refl
named_back rules (entry ∷ entries) are =
    let later = named_entries rules (map (numbered_entry rules) entries) in
    ap {B = List NamedEntry} (λ a. record {
      a = a;
      b = name_of (rule_at rules
          (number_in (half_rule_at rules (number_if_named rules entry.b))));
      grid = entry.grid;
      phase = phase_number (phase_of entry.phase);
    } ∷ later) (half_numbered rules A entry.a are.0.0) ∙
    ap {B = List NamedEntry} (λ b. record {
      a = entry.a;
      b = b;
      grid = entry.grid;
      phase = phase_number (phase_of entry.phase);
    } ∷ later) (half_numbered rules B entry.b are.0.1) ∙
    ap {B = List NamedEntry} (λ n. record {
      a = entry.a;
      b = entry.b;
      grid = entry.grid;
      phase = n;
    } ∷ later) (phase_number_back entry.phase are.0.2) ∙
    ap (λ l. entry ∷ l) (named_back rules entries are.1)

half_is_numbered : (rules : List Rule) (o : Option ℕ) → IsNumbered rules (half_rule_at rules o)
half_is_numbered rules None = tt
half_is_numbered rules (Some number) = by_rule (slice_get rules number) refl
  where
    by_rule : (found : Option Rule) → slice_get rules number ≡ found →
        IsNumbered rules (half_rule number found)
    by_rule None here = tt
    by_rule (Some rule) here = (rule, here, refl, refl)

pub are_numbered : (rules : List Rule) (entries : List NamedEntry) →
    AreNumbered rules (map (numbered_entry rules) entries)
are_numbered rules [] = tt
are_numbered rules (entry ∷ entries) = (
  (
    half_is_numbered rules (number_if_named rules entry.a),
    half_is_numbered rules (number_if_named rules entry.b),
  ),
  are_numbered rules entries,
)
