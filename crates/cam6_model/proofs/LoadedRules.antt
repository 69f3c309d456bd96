-- Rules that are defined one after another, each under a new name, after those that are there.
use Rattle.std.proofs.Common.{◌≡◌, ◌≤◌, ◌<◌, ℕ, List, [], ◌∷◌, ◌++◌, Bool, true, false, ◌&&◌, cond}
use Rattle.std.proofs.Common.{Option, Some, None, refl, sym, ap, ◌∙◌, subst, append_assoc}
use Rattle.std.proofs.Common.{append-nil, is_none, length, nat_le, arith}
use Rattle.std.specs.List.{AllByRecursion}
use Rattle.std.specs.Str.{bytes_eq, IsUtf8}
use Rattle.std.proofs.lemmas.Bool.{and_parts, and_right, false_from_ne_true, leb-true}
use Rattle.cam6_commands.specs.Limits.{max_rules}
use Rattle.cam6_commands.specs.Names.{is_rule_name}
use Rattle.cam6_commands.specs.declared.faults.Fault.TheVariants.{OutOfRange, TooManyRules}
use Rattle.cam6_commands.specs.declared.refusals.Refusal.{Refusal}
use Rattle.cam6_model.specs.Rules.{Rule, rule_named}
use Rattle.cam6_model.specs.Refusals.{fault_refusal, or_then, room_refusal, rule_refusal}
use Rattle.cam6_model.specs.Refusals.{words_refusal, definition_refusal, is_rule_after}
use Rattle.cam6_model.specs.Refusals.{are_rules_after}
use Rattle.cam6_model.specs.Effects.{with_rule}
use Rattle.cam6_model.specs.Always.{HaveOwnNames, AreRules}
use Rattle.cam6_model.proofs.Names.{names_of, bytes_eq-flip, first_own, later_own}
use Rattle.cam6_model.proofs.KeptNames.{rewritten}
use Rattle.cam6_model.proofs.Staying.{no_rules, no_fault, first_none, rules_defined}

pub is_nothing : {A : Type 0} (o : Option A) → is_none o ≡ true → o ≡ None
is_nothing None e = refl
is_nothing (Some a) e = cc e

-- a rule of a new name goes last
pub goes_last : (new : Rule) (rules : List Rule) → rule_named new.name rules ≡ None →
    with_rule new rules ≡ rules ++ new ∷ []
goes_last new [] none = refl
goes_last new (rule ∷ rules) none =
    by_test (bytes_eq new.name rule.name) none (λ n. goes_last new rules n)
  where
    by_test : (b : Bool) → cond b (Some rule) (rule_named new.name rules) ≡ None →
        (rule_named new.name rules ≡ None → with_rule new rules ≡ rules ++ new ∷ []) →
        cond b (rewritten rule new ∷ rules) (rule ∷ with_rule new rules)
        ≡ rule ∷ (rules ++ new ∷ [])
    by_test true none rest = cc none
    by_test false none rest = ap (λ l. rule ∷ l) (rest none)

-- a rule of a new name that may be defined
pub is_after : (before : List Rule) (rule : Rule) → rule_named rule.name before ≡ None →
    definition_refusal before [] rule.name rule.wiring rule.text ≡ None →
    is_rule_after before rule ≡ true
is_after before rule new none =
    ap (λ o. is_none o && is_none (definition_refusal before [] rule.name rule.wiring rule.text))
    new
    ∙ ap is_none none

-- one whose name is there
pub name_taken : (before : List Rule) (rule old : Rule) →
    rule_named rule.name before ≡ Some old → is_rule_after before rule ≡ false
name_taken before rule old found =
    ap (λ o. is_none o && is_none (definition_refusal before [] rule.name rule.wiring rule.text))
    found

-- one that is refused
pub not_defined : (before : List Rule) (rule : Rule) (refused : Refusal) →
    definition_refusal before [] rule.name rule.wiring rule.text ≡ Some refused →
    is_rule_after before rule ≡ false
not_defined before rule refused e =
    and_right (is_none (rule_named rule.name before))
    (is_none (definition_refusal before [] rule.name rule.wiring rule.text)) (ap is_none e)

-- one rule of those that are left
pub one_is : (before : List Rule) (rule : Rule) (rules : List Rule) →
    is_rule_after before rule ≡ true →
    are_rules_after before (rule ∷ rules) ≡ are_rules_after (before ++ rule ∷ []) rules
one_is before rule rules is =
    ap (λ b. b && are_rules_after (before ++ rule ∷ []) rules) is

pub one_is_none : (before : List Rule) (rule : Rule) (rules : List Rule) →
    is_rule_after before rule ≡ false → are_rules_after before (rule ∷ rules) ≡ false
one_is_none before rule rules is =
    ap (λ b. b && are_rules_after (before ++ rule ∷ []) rules) is

-- what a rule after others says: its name is new, and neither it nor its words are refused
pub record MayFollow (before : List Rule) (rule : Rule) : Type 0 where
  pub new : rule_named rule.name before ≡ None
  pub free : rule_refusal before [] rule.name ≡ None
  pub words : words_refusal rule.wiring rule.text ≡ None

pub may_follow : (before : List Rule) (rule : Rule) → is_rule_after before rule ≡ true →
    MayFollow before rule
may_follow before rule is =
    let defined = definition_refusal before [] rule.name rule.wiring rule.text in
    let (new, none) = and_parts (is_none (rule_named rule.name before)) (is_none defined) is in
    let (free, words) =
    first_none (fault_refusal (rule_refusal before [] rule.name))
    (words_refusal rule.wiring rule.text) (is_nothing defined none) in
    record {
      new = is_nothing (rule_named rule.name before) new;
      free = no_fault (rule_refusal before [] rule.name) free;
      words = words;
    }

-- rules with one more are what rules always are
one_more : (before : List Rule) (new : Rule) → is_rule_after before new ≡ true →
    IsUtf8 new.text → AreRules before → AreRules (before ++ new ∷ [])
one_more before new is text are =
    let follows = may_follow before new is in
    subst AreRules (goes_last new before follows.new)
    (rules_defined new before [] are follows.free follows.words text)

more_are : (before rules : List Rule) → AreRules before →
    AllByRecursion (λ rule. IsUtf8 rule.text) rules → are_rules_after before rules ≡ true →
    AreRules (before ++ rules)
more_are before [] are texts is = subst AreRules (sym (append-nil before)) are
more_are before (rule ∷ rules) are texts is =
    let (here, later) =
    and_parts (is_rule_after before rule) (are_rules_after (before ++ rule ∷ []) rules) is in
    subst AreRules (append_assoc before (rule ∷ []) rules)
    (more_are (before ++ rule ∷ []) rules (one_more before rule here texts.0 are) texts.1 later)

-- rules that may be defined one after another are what rules always are
pub rules_are : (rules : List Rule) → AllByRecursion (λ rule. IsUtf8 rule.text) rules →
    are_rules_after [] rules ≡ true → AreRules rules
rules_are rules texts is = more_are [] rules no_rules texts is

-- what holds of each name holds of one in the middle
in_middle : (P : List ℕ → Type 0) (before rules : List Rule) (rule : Rule) →
    AllByRecursion P (names_of (before ++ rule ∷ rules)) → P rule.name
in_middle P [] rules rule all = all.0
in_middle P (first ∷ before) rules rule all = in_middle P before rules rule all.1

-- where each rule has its own name, none before a rule has the rule's
apart : (before rules : List Rule) (rule : Rule) → HaveOwnNames (before ++ rule ∷ rules) →
    rule_named rule.name before ≡ None
apart [] rules rule own = refl
apart (first ∷ before) rules rule own =
    let other =
    in_middle (λ name. bytes_eq first.name name ≡ false) before rules rule
    (first_own first (before ++ rule ∷ rules) own) in
    ap (λ b. cond b (Some first) (rule_named rule.name before))
    (bytes_eq-flip first.name rule.name false other)
    ∙ apart before rules rule (later_own first (before ++ rule ∷ rules) own)

-- there are fewer before a rule than there are together
fewer : (before rules : List Rule) (rule : Rule) →
    length before < length (before ++ rule ∷ rules)
fewer [] rules rule = omega arith
fewer (first ∷ before) rules rule = omega (arith, fewer before rules rule)

-- a rule's name that is new is free where there is room
free_name : (before : List Rule) (rule : Rule) → is_rule_name rule.name ≡ true →
    rule_named rule.name before ≡ None → length before < max_rules →
    rule_refusal before [] rule.name ≡ None
free_name before rule named new room =
    let full : nat_le max_rules (length before) ≡ false =
    false_from_ne_true (nat_le max_rules (length before))
    (λ e. absurd (omega (arith, room, leb-true max_rules (length before) e))) in
    ap (λ b. cond b (room_refusal before [] rule.name (rule_named rule.name before))
    (Some OutOfRange)) named
    ∙ ap (room_refusal before [] rule.name) new
    ∙ ap (λ b. cond b (Some TooManyRules) None) full

-- and the other way round: what rules always are may be defined one after another
found_after : (before rules : List Rule) → length (before ++ rules) ≤ max_rules →
    AllByRecursion (λ rule. is_rule_name rule.name ≡ true) rules →
    HaveOwnNames (before ++ rules) →
    AllByRecursion (λ rule. words_refusal rule.wiring rule.text ≡ None) rules →
    are_rules_after before rules ≡ true
found_after before [] few names own sound = refl
found_after before (rule ∷ rules) few names own sound =
    let new = apart before rules rule own in
    let free =
    free_name before rule names.0 new (omega (arith, few, fewer before rules rule)) in
    let defined =
    ap (λ o. or_then (fault_refusal o) (words_refusal rule.wiring rule.text)) free ∙ sound.0 in
    let together = sym (append_assoc before (rule ∷ []) rules) in
    one_is before rule rules (is_after before rule new defined)
    ∙ found_after (before ++ rule ∷ []) rules (subst (λ l. length l ≤ max_rules) together few)
    names.1 (subst HaveOwnNames together own) sound.1

pub rules_found : (rules : List Rule) → AreRules rules → are_rules_after [] rules ≡ true
rules_found rules are = found_after [] rules are.few are.names are.own are.sound
