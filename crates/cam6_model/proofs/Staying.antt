-- What isn't refused leaves a machine; the blank one is one; and a machine's rules run.
use Rattle.std.proofs.Common.{◌≡◌, ◌≤◌, ◌<◌, ◌+◌, ◌%◌, ℕ, Bool, true, false, ◌&&◌, ◌||◌, List, []}
use Rattle.std.proofs.Common.{◌∷◌, ◌==◌, length, Option, Some, None, cond, refl, sym, ap, ◌∙◌}
use Rattle.std.proofs.Common.{subst, arith, lit≤, nat_lt, nat_le, IsOk, ◌⊎◌, inl}
use Rattle.std.proofs.Common.{inr, Result, Ok, Err}
use Rattle.std.proofs.Math.Path.{fun_ext}
use Rattle.std.specs.List.{AllByRecursion, list_any, list_all}
use Rattle.std.specs.Str.{bytes_eq, IsUtf8}
use Rattle.std.proofs.lemmas.Bool.{leb-true, leb-false, ltb-true, eqb-true}
use Rattle.std.proofs.lemmas.Map.Made.{IsDistinct-from_AllPairs}
use Rattle.std.proofs.lemmas.Slice.Eq.{bytes_eq-Decides}
use Rattle.std.proofs.Math.Nat.{mod-lt}
use Rattle.cam6_planes.specs.Side.{side_number}
use Rattle.cam6_planes.specs.declared.sides.Side.{Side}
use Rattle.cam6_planes.specs.declared.sides.Side.TheVariants.{S128, S256, S512}
use Rattle.cam6_planes.specs.Cells.{Cells, torus, no_cells}
use Rattle.cam6_block.proofs.Causes.{cause_is_found}
use Rattle.cam6_cycle.specs.declared.tables.Direction.{Direction}
use Rattle.cam6_cycle.specs.declared.tables.Direction.TheVariants.{Forward, Backward}
use Rattle.cam6_wiring.specs.Name.{is_same_half}
use Rattle.cam6_wiring.specs.Seen.{Sees}
use Rattle.cam6_wiring.specs.declared.names.Half.{Half}
use Rattle.cam6_wiring.specs.declared.names.Half.TheVariants as half
use Rattle.cam6_wiring.specs.declared.wirings.Wiring.{Wiring}
use Rattle.cam6_forth.specs.Defined.{Defined}
use Rattle.cam6_forth.specs.Reading.{read_text}
use Rattle.cam6_forth.specs.Tree.{IsRule}
use Rattle.cam6_forth.specs.Trees.{tree_of}
use Rattle.cam6_forth.proofs.OneTree.{tree_is_read}
use Rattle.cam6_forth.proofs.TextLaws.{read_rule}
use Rattle.cam6_table.specs.declared.faults.RuleFault.{RuleFault}
use Rattle.cam6_table.specs.Meaning.{at_address}
use Rattle.cam6_table.specs.Tables.{least_stop}
use Rattle.cam6_table.proofs.TrueTables.{runs_everywhere}
use Rattle.cam6_commands.specs.Limits.{max_rules, max_colour, max_steps, cell_states}
use Rattle.cam6_cycle.specs.Limits.{max_entries}
use Rattle.cam6_commands.specs.Names.{is_rule_name}
use Rattle.cam6_commands.specs.Checks.{unless}
use Rattle.cam6_model.specs.Rules.{Rule, rule_named, rule_if_named, wiring_for}
use Rattle.cam6_model.specs.Steps.{words_mean}
use Rattle.cam6_model.specs.Machine.{Machine, own_colours, first_side, steps}
use Rattle.cam6_model.specs.Moves.{moved, CanMove}
use Rattle.cam6_model.specs.Refusals as refuse
use Rattle.cam6_model.specs.Effects.{with_rule, without_rule}
use Rattle.cam6_model.specs.Alone.{command_of}
use Rattle.cam6_model.specs.Always.{HaveOwnNames, AreRules, IsNamed, IsEntry, IsPosition, IsMachine}
use Rattle.cam6_model.specs.Laws.{BlankIsMachine, IsRuled, RulesRun}
use Rattle.cam6_commands.specs.declared.commands.NamedEntry.{NamedEntry}
use Rattle.cam6_commands.specs.declared.faults.Fault.{Fault}
use Rattle.cam6_commands.specs.declared.faults.Fault.TheVariants.{WrongHalf, OutOfRange}
use Rattle.cam6_commands.specs.declared.faults.Fault.TheVariants.{TooManyRules, RuleInUse}
use Rattle.cam6_commands.specs.declared.faults.Fault.TheVariants.{NoCycle}
use Rattle.cam6_model.proofs.KeptNames.{length_at_most, length_same, all_with, own_with}
use Rattle.cam6_model.proofs.KeptNames.{other_named}
use Rattle.cam6_model.proofs.DroppedNames.{length_without, all_without, own_without}
use Rattle.cam6_model.proofs.DroppedNames.{entries_without}
use Rattle.cam6_model.proofs.Names.{same_bytes}
use Rattle.cam6_model.proofs.StepsOfATorus.{AreWhole, steps_whole}
use Rattle.cam6_model.proofs.StepsBack.{unsteps_is}
use Rattle.cam6_model.proofs.ReversibleCycles.{back_runs, reversible}
use Rattle.cam6_model.proofs.StepLaws.{only_planes_and_position, position_goes_round}

pub none_own : HaveOwnNames []
none_own =
    IsDistinct-from_AllPairs bytes_eq-Decides []
    (λ i j d before within. absurd (omega (arith, within)))

pub no_fault : (o : Option Fault) → refuse.fault_refusal o ≡ None → o ≡ None
no_fault None e = refl
no_fault (Some fault) e = cc e

pub first_none : {A : Type 0} (first next : Option A) → refuse.or_then first next ≡ None →
    (first ≡ None) × (next ≡ None)
first_none None next e = (refl, e)
first_none (Some first) next e = cc e

pub allowed : (b : Bool) (fault : Fault) → unless b fault ≡ None → b ≡ true
allowed true fault e = refl
allowed false fault e = cc e

pub both : (a b : Bool) → (a && b) ≡ true → (a ≡ true) × (b ≡ true)
both true b e = (refl, e)
both false b e = cc e

pub neither : (a b : Bool) → (a || b) ≡ false → (a ≡ false) × (b ≡ false)
neither true b e = cc e
neither false b e = (refl, e)

-- other planes, and another position
pub moved_is : (m : Machine) (planes : Cells) (position : ℕ) → IsMachine m →
    torus (side_number m.side) planes ≡ planes → IsPosition m.cycle position →
    IsMachine (record m { planes = planes; position = position })
moved_is m planes position is whole at = record {
  within = is.within;
  planes = whole;
  rules = is.rules;
  short = is.short;
  entries = is.entries;
  position = at;
  coloured = is.coloured;
  colours = is.colours;
}

-- a run that is accepted has a cycle
pub some_cycle : (cycle : List NamedEntry) (n : ℕ) →
    refuse.fault_refusal (refuse.run_refusal cycle n) ≡ None → 0 < length cycle
some_cycle [] n none =
    let later = first_none _ (refuse.some_cycle []) (no_fault _ none) in cc (later.1)
some_cycle (entry ∷ cycle) n none = omega arith

position_below : (cycle : List NamedEntry) (position : ℕ) → IsPosition cycle position →
    0 < length cycle → position < length cycle
position_below [] position is some = absurd (omega (arith, some))
position_below (entry ∷ cycle) position is some = is

no_cycle_refused : (b : Bool) →
    refuse.fault_refusal (refuse.or_then (unless b OutOfRange) (Some NoCycle)) ≡ None → ⊥
no_cycle_refused true e = cc e
no_cycle_refused false e = cc e

-- a run that is accepted has an entry to begin with
pub run_begins : (cycle : List NamedEntry) (position n : ℕ) → IsPosition cycle position →
    refuse.fault_refusal (refuse.run_refusal cycle n) ≡ None → position < length cycle
run_begins [] position n is accepted = absurd (no_cycle_refused (nat_le n max_steps) accepted)
run_begins (entry ∷ cycle) position n is accepted = is

-- and so has a command of steps in whatever direction
pub moves_begin : (m : Machine) (n : ℕ) (direction : Direction) → IsMachine m →
    refuse.refusal m (command_of n direction) ≡ None → m.position < length m.cycle
moves_begin m n Forward is accepted = run_begins m.cycle m.position n is.position accepted
moves_begin m n Backward is accepted =
    run_begins m.cycle m.position n is.position (back_runs m n accepted)

-- and it can be done
pub can_move : (m : Machine) (n : ℕ) (direction : Direction) →
    refuse.refusal m (command_of n direction) ≡ None → CanMove direction m
can_move m n Forward accepted = tt
can_move m n Backward accepted = reversible cause_is_found m n accepted

below_is : (cycle : List NamedEntry) (position : ℕ) → position < length cycle →
    IsPosition cycle position
below_is [] position within = absurd (omega (arith, within))
below_is (entry ∷ cycle) position within = within

pub steps_is : (m : Machine) (n : ℕ) → IsMachine m → 0 < length m.cycle → IsMachine (steps n m)
steps_is m n is some =
    let at = position_goes_round m n (position_below m.cycle m.position is.position some) in
    let inside : (m.position + n) % length m.cycle < length m.cycle =
    mod-lt (m.position + n) some in
    subst IsMachine (sym (only_planes_and_position m n))
    (moved_is m (steps n m).planes (steps n m).position is
    (subst AreWhole (only_planes_and_position m n) (steps_whole n m is.planes))
    (below_is m.cycle (steps n m).position (omega (arith, at, inside))))

-- steps of a command that isn't refused leave one
pub moves_are : (m : Machine) (n : ℕ) (direction : Direction) → IsMachine m →
    0 < length m.cycle → IsMachine (moved direction n m)
moves_are m n Forward is some = steps_is m n is some
moves_are m n Backward is some = unsteps_is m n is

same_half : (first second : Half) → is_same_half first second ≡ true → first ≡ second
same_half half.A half.A same = refl
same_half half.A half.B same = cc same
same_half half.B half.A same = cc same
same_half half.B half.B same = refl

-- a name that isn't refused for a half is that of a rule of the half
named_rule : (rules : List Rule) (h : Half) (name : List ℕ) (o : Option Rule) →
    rule_named name rules ≡ o → refuse.wiring_refusal h (wiring_for o) ≡ None →
    IsNamed rules h (Some name)
named_rule rules h name None e none = cc none
named_rule rules h name (Some rule) e none =
    (rule, e, by_test (is_same_half rule.wiring.half h) refl none)
  where
    by_test : (b : Bool) → is_same_half rule.wiring.half h ≡ b →
        cond b None (Some WrongHalf) ≡ None → rule.wiring.half ≡ h
    by_test true is none = same_half rule.wiring.half h is
    by_test false is none = cc none

half_named : (rules : List Rule) (h : Half) (o : Option (List ℕ)) →
    refuse.half_refusal rules h o ≡ None → IsNamed rules h o
half_named rules h None none = tt
half_named rules h (Some name) none =
    named_rule rules h name (rule_named name rules) refl none

-- a cycle that isn't refused
cycle_entries : (rules : List Rule) (entries : List NamedEntry) →
    refuse.first_refusal rules entries ≡ None → refuse.have_phases entries ≡ true →
    AllByRecursion (IsEntry rules) entries
cycle_entries rules [] none phases = tt
cycle_entries rules (entry ∷ entries) none phases =
    let (here, later) = first_none _ (refuse.first_refusal rules entries) none in
    let (a, b) = first_none _ (refuse.half_refusal rules half.B entry.b) here in
    let (phase, others) = both (nat_lt entry.phase 4) (refuse.have_phases entries) phases in (
      (
        half_named rules half.A entry.a a,
        half_named rules half.B entry.b b,
        ltb-true entry.phase 4 phase,
      ),
      cycle_entries rules entries later others,
    )

pub accepted_cycle : (rules : List Rule) (entries : List NamedEntry) →
    refuse.cycle_refusal rules entries ≡ None →
    (length entries ≤ max_entries) × AllByRecursion (IsEntry rules) entries
accepted_cycle rules entries none = by_test (refuse.is_named_cycle entries) refl none
  where
    by_test : (b : Bool) → refuse.is_named_cycle entries ≡ b →
        cond b (refuse.first_refusal rules entries) (Some OutOfRange) ≡ None →
        (length entries ≤ max_entries) × AllByRecursion (IsEntry rules) entries
    by_test false is none = cc none
    by_test true is none =
        let (bounds, phases) = both _ (refuse.have_phases entries) is in
        let (some, few) =
        both (nat_le 1 (length entries)) (nat_le (length entries) max_entries) bounds in
        (leb-true (length entries) max_entries few, cycle_entries rules entries none phases)

pub from_0 : (cycle : List NamedEntry) → IsPosition cycle 0
from_0 [] = refl
from_0 (entry ∷ cycle) = omega arith

-- an entry has another name than a rule that is put: there was none of the name, or the entry has
-- another one
abbrev pub IsApart : List Rule → List ℕ → Option (List ℕ) → Type 0
IsApart rules name o = (rule_named name rules ≡ None) ⊎ (refuse.is_name name o ≡ false)

pub other_name : (rules : List Rule) (name other : List ℕ) (rule : Rule) →
    rule_named other rules ≡ Some rule → IsApart rules name (Some other) →
    bytes_eq other name ≡ false
other_name rules name other rule found (inr apart) = apart
other_name rules name other rule found (inl none) = by_test (bytes_eq other name) refl
  where
    by_test : (b : Bool) → bytes_eq other name ≡ b → bytes_eq other name ≡ false
    by_test false e = e
    by_test true e =
        let same = ap (λ n. rule_named n rules) (same_bytes other name e) in
        cc (same, found, none)

-- so the rules that an entry names are there still
half_with : (new : Rule) (rules : List Rule) (h : Half) (o : Option (List ℕ)) →
    IsApart rules new.name o → IsNamed rules h o → IsNamed (with_rule new rules) h o
half_with new rules h None apart named = tt
half_with new rules h (Some name) apart (rule, found, of_half) = (
  rule,
  other_named name new rules (other_name rules new.name name rule found apart) ∙ found,
  of_half,
)

-- each entry of a cycle is apart from it
abbrev pub AreApart : List Rule → List NamedEntry → List ℕ → Type 0
AreApart rules cycle name =
    (rule_named name rules ≡ None) ⊎ (list_any (refuse.uses name) cycle ≡ false)

entries_with : (new : Rule) (rules : List Rule) (cycle : List NamedEntry) →
    AreApart rules cycle new.name → AllByRecursion (IsEntry rules) cycle →
    AllByRecursion (IsEntry (with_rule new rules)) cycle
entries_with new rules [] apart are = tt
entries_with new rules (entry ∷ cycle) (inl none) are = (
  (
    half_with new rules half.A entry.a (inl none) are.0.0,
    half_with new rules half.B entry.b (inl none) are.0.1,
    are.0.2,
  ),
  entries_with new rules cycle (inl none) are.1,
)
entries_with new rules (entry ∷ cycle) (inr unused) are =
    let (here, later) =
    neither (refuse.uses new.name entry) (list_any (refuse.uses new.name) cycle) unused in
    let (a, b) =
    neither (refuse.is_name new.name entry.a) (refuse.is_name new.name entry.b) here in (
      (
        half_with new rules half.A entry.a (inr a) are.0.0,
        half_with new rules half.B entry.b (inr b) are.0.1,
        are.0.2,
      ),
      entries_with new rules cycle (inr later) are.1,
    )

-- room for a rule: there is one that no entry names, or there are fewer than the limit
has_room : (rules : List Rule) (cycle : List NamedEntry) (new : Rule) (o : Option Rule) →
    rule_named new.name rules ≡ o → refuse.room_refusal rules cycle new.name o ≡ None →
    length rules ≤ max_rules →
    AreApart rules cycle new.name × (length (with_rule new rules) ≤ max_rules)
has_room rules cycle new None e none few =
    (inl e, by_test (nat_le max_rules (length rules)) refl none)
  where
    by_test : (b : Bool) → nat_le max_rules (length rules) ≡ b →
        cond b (Some TooManyRules) None ≡ None → length (with_rule new rules) ≤ max_rules
    by_test true is none = cc none
    by_test false is none =
        let fewer = leb-false max_rules (length rules) is in
        omega (arith, fewer, length_at_most new rules)
has_room rules cycle new (Some old) e none few = (
  inr (by_test (refuse.is_used cycle new.name) refl none),
  omega (arith, few, length_same new rules old e),
)
  where
    by_test : (b : Bool) → refuse.is_used cycle new.name ≡ b →
        cond b (Some RuleInUse) None ≡ None → refuse.is_used cycle new.name ≡ false
    by_test true is none = cc none
    by_test false is none = is

-- where a rule isn't refused, each entry of the cycle is apart from it
pub apart_if_room : (rules : List Rule) (cycle : List NamedEntry) (name : List ℕ) →
    refuse.rule_refusal rules cycle name ≡ None → AreApart rules cycle name
apart_if_room rules cycle name none = by_name (is_rule_name name) none
  where
    by_use : (used : Bool) → refuse.is_used cycle name ≡ used →
        cond used (Some RuleInUse) None ≡ None → refuse.is_used cycle name ≡ false
    by_use true is none = cc none
    by_use false is none = is

    by_rule : (o : Option Rule) → rule_named name rules ≡ o →
        refuse.room_refusal rules cycle name o ≡ None → AreApart rules cycle name
    by_rule None e none = inl e
    by_rule (Some old) e none = inr (by_use (refuse.is_used cycle name) refl none)

    by_name : (b : Bool) →
        cond b (refuse.room_refusal rules cycle name (rule_named name rules)) (Some OutOfRange)
        ≡ None → AreApart rules cycle name
    by_name false none = cc none
    by_name true none = by_rule (rule_named name rules) refl none

-- rules with a rule that is put among them, for which there is room
pub rules_with : (new : Rule) (rules : List Rule) → AreRules rules →
    is_rule_name new.name ≡ true → length (with_rule new rules) ≤ max_rules →
    refuse.words_refusal new.wiring new.text ≡ None → IsUtf8 new.text →
    AreRules (with_rule new rules)
rules_with new rules are named few words text = record {
  few = few;
  names = all_with (λ rule. is_rule_name rule.name ≡ true) new rules named
      (λ old same holds. holds) are.names;
  own = own_with new rules none_own are.own;
  sound = all_with (λ rule. refuse.words_refusal rule.wiring rule.text ≡ None) new rules words
      (λ old same holds. words) are.sound;
  texts = all_with (λ rule. IsUtf8 rule.text) new rules text (λ old same holds. text) are.texts;
}

-- rules of which one is dropped
pub rules_without : (name : List ℕ) (rules : List Rule) → AreRules rules →
    AreRules (without_rule name rules)
rules_without name rules are = record {
  few = omega (arith, are.few, length_without name rules);
  names = all_without (λ rule. is_rule_name rule.name ≡ true) name rules are.names;
  own = own_without name rules are.own;
  sound = all_without (λ rule. refuse.words_refusal rule.wiring rule.text ≡ None) name rules
      are.sound;
  texts = all_without (λ rule. IsUtf8 rule.text) name rules are.texts;
}

-- no rules
pub no_rules : AreRules []
no_rules = record {
  few = omega arith;
  names = tt;
  own = none_own;
  sound = tt;
  texts = tt;
}

-- rules among which one is put that isn't refused
pub rules_defined : (new : Rule) (rules : List Rule) (cycle : List NamedEntry) → AreRules rules →
    refuse.rule_refusal rules cycle new.name ≡ None →
    refuse.words_refusal new.wiring new.text ≡ None → IsUtf8 new.text →
    AreRules (with_rule new rules)
rules_defined new rules cycle are none words text = by_name (is_rule_name new.name) refl none
  where
    by_name : (b : Bool) → is_rule_name new.name ≡ b →
        cond b (refuse.room_refusal rules cycle new.name (rule_named new.name rules))
        (Some OutOfRange) ≡ None → AreRules (with_rule new rules)
    by_name false named none = cc none
    by_name true named none =
        let (apart, few) =
        has_room rules cycle new (rule_named new.name rules) refl none are.few in
        rules_with new rules are named few words text

-- a rule that isn't refused is put under its name
pub rule_is : (m : Machine) (new : Rule) → IsMachine m →
    refuse.rule_refusal m.rules m.cycle new.name ≡ None →
    refuse.words_refusal new.wiring new.text ≡ None → IsUtf8 new.text →
    IsMachine (record m { rules = with_rule new m.rules })
rule_is m new is none words text = record {
  within = is.within;
  planes = is.planes;
  rules = rules_defined new m.rules m.cycle is.rules none words text;
  short = is.short;
  entries = entries_with new m.rules m.cycle (apart_if_room m.rules m.cycle new.name none)
      is.entries;
  position = is.position;
  coloured = is.coloured;
  colours = is.colours;
}

small : (colours : List ℕ) → list_all (λ colour. nat_le colour max_colour) colours ≡ true →
    AllByRecursion (λ colour. colour ≤ max_colour) colours
small [] are = tt
small (colour ∷ colours) are =
    let (here, later) =
    both (nat_le colour max_colour) (list_all (λ colour. nat_le colour max_colour) colours) are in
    (leb-true colour max_colour here, small colours later)

-- colours that aren't refused
pub allowed_colours : (colours : List ℕ) → refuse.map_refusal colours ≡ None →
    (length colours ≡ cell_states) × AllByRecursion (λ colour. colour ≤ max_colour) colours
allowed_colours colours none =
    let (sixteen, are) =
    both (length colours == cell_states) (list_all (λ colour. nat_le colour max_colour) colours)
    (allowed _ OutOfRange none) in
    (eqb-true (length colours) cell_states sixteen, small colours are)

-- a rule that isn't refused is dropped
pub dropped_is : (m : Machine) (name : List ℕ) → IsMachine m →
    refuse.drop_refusal m.rules m.cycle name ≡ None →
    IsMachine (record m { rules = without_rule name m.rules })
dropped_is m name is none = record {
  within = is.within;
  planes = is.planes;
  rules = rules_without name m.rules is.rules;
  short = is.short;
  entries = entries_without name m.rules m.cycle (by_rule (rule_named name m.rules) none)
      is.entries;
  position = is.position;
  coloured = is.coloured;
  colours = is.colours;
}
  where
    by_use : (used : Bool) → refuse.is_used m.cycle name ≡ used →
        cond used (Some RuleInUse) None ≡ None → refuse.is_used m.cycle name ≡ false
    by_use true is none = cc none
    by_use false is none = is

    by_rule : (o : Option Rule) → refuse.gone_refusal m.cycle name o ≡ None →
        refuse.is_used m.cycle name ≡ false
    by_rule None none = cc none
    by_rule (Some rule) none = by_use (refuse.is_used m.cycle name) refl none

-- no cell is set on whatever torus
pub none_whole : (s : ℕ) → torus s no_cells ≡ no_cells
none_whole s = fun_ext (λ p. fun_ext (λ x. fun_ext (λ y. never (nat_lt p 4))))
  where
    never : (b : Bool) → (b && false) ≡ false
    never true = refl
    never false = refl

pub first_within : (limit : Side) → side_number (first_side limit) ≤ side_number limit
first_within S128 = lit≤ tt
first_within S256 = lit≤ tt
first_within S512 = lit≤ tt

pub blank_is_machine : BlankIsMachine
blank_is_machine limit = record {
  within = first_within limit;
  planes = none_whole (side_number (first_side limit));
  rules = no_rules;
  short = omega arith;
  entries = tt;
  position = refl;
  coloured = refl;
  colours = small own_colours refl;
}

-- a text without a fault spells a rule
read_ok : (wiring : Wiring) (text : List ℕ) (out : Result (List Defined) (ℕ × ℕ)) →
    read_text wiring text ≡ out → refuse.text_refusal out ≡ None → IsRule wiring (tree_of text)
read_ok wiring text (Err fault) e none = cc none
read_ok wiring text (Ok definitions) e none =
    let (parts, spells, meant) = read_rule wiring text definitions e in
    subst (IsRule wiring) (sym (tree_is_read wiring parts text spells)) spells.all.rule

no_stop : (o : Option (ℕ × RuleFault)) → refuse.stop_refusal o ≡ None → o ≡ None
no_stop None e = refl
no_stop (Some stop) e = cc e

-- a rule whose words aren't refused runs, whatever is seen
words_run : (rule : Rule) (sees : Sees) → refuse.words_refusal rule.wiring rule.text ≡ None →
    IsOk (words_mean rule sees)
words_run rule sees none =
    let wiring = rule.wiring in
    let text = rule.text in
    let stop = least_stop (at_address wiring (tree_of text)) in
    let (read, runs) =
    first_none (refuse.text_refusal (read_text wiring text)) (refuse.stop_refusal stop) none in
    runs_everywhere wiring (tree_of text) sees
    (read_ok wiring text (read_text wiring text) refl read) (no_stop stop runs)

-- a named rule is among the rules
rule_among : (Q : Rule → Type 0) (name : List ℕ) (rules : List Rule) (rule : Rule) →
    AllByRecursion Q rules → rule_named name rules ≡ Some rule → Q rule
rule_among Q name [] rule all found = cc found
rule_among Q name (first ∷ rules) rule all found =
    by_test (bytes_eq name first.name) found (λ f. rule_among Q name rules rule all.1 f)
  where
    by_test : (b : Bool) → cond b (Some first) (rule_named name rules) ≡ Some rule →
        (rule_named name rules ≡ Some rule → Q rule) → Q rule
    by_test true found rest = let is : first ≡ rule = cc found in subst Q is all.0
    by_test false found rest = rest found

half_runs : (m : Machine) (h : Half) (o : Option (List ℕ)) (name : List ℕ) → IsMachine m →
    IsNamed m.rules h o → o ≡ Some name →
    (rule : Rule) × (rule_if_named o m.rules ≡ Some rule) ×
    ((sees : Sees) → IsOk (words_mean rule sees))
half_runs m h None name is named e = cc e
half_runs m h (Some other) name is (rule, found, of_half) e = (
  rule,
  found,
  λ sees. words_run rule sees
      (rule_among (λ r. refuse.words_refusal r.wiring r.text ≡ None) other m.rules rule
      is.rules.sound
      found),
)

all_ruled : (m : Machine) (cycle : List NamedEntry) → IsMachine m →
    AllByRecursion (IsEntry m.rules) cycle → AllByRecursion (IsRuled m) cycle
all_ruled m [] is are = tt
all_ruled m (entry ∷ cycle) is are = (here, all_ruled m cycle is are.1)
  where
    here : IsRuled m entry
    here half.A name e = half_runs m half.A entry.a name is are.0.0 e
    here half.B name e = half_runs m half.B entry.b name is are.0.1 e

pub rules_run : RulesRun
rules_run m is = all_ruled m m.cycle is is.entries
