-- The rules of which tables are needed: they are kept, and can be undone where they are to be.
use Rattle.std.proofs.Common.{◌≡◌, ◌∙◌, ◌++◌, ℕ, zero, suc, List, [], ◌∷◌, Option, Some, None, refl, sym}
use Rattle.std.proofs.Common.{ap, subst}
use Rattle.std.specs.List.{slice_get, AllByRecursion}
use Rattle.std.specs.Option.{option_map}
use Rattle.std.proofs.lemmas.Option.{same_Some}
use Rattle.cam6_wiring.specs.declared.names.Half.{Half}
use Rattle.cam6_wiring.specs.declared.names.Half.TheVariants.{A, B}
use Rattle.cam6_wiring.specs.declared.wirings.Wiring.{Wiring}
use Rattle.cam6_table.specs.RuleTexts.{IsCodeFor}
use Rattle.cam6_block.specs.BlockMaps.{reading_of, IsReversible}
use Rattle.cam6_block.specs.RuleTables.{IsTableBy}
use Rattle.cam6_cycle.specs.Tables.{needed_for, tables_needed}
use Rattle.cam6_cycle.specs.declared.entries.Entry.{Entry}
use Rattle.cam6_cycle.specs.declared.entries.HalfRule.{HalfRule}
use Rattle.cam6_cycle.specs.declared.tables.Direction.{Direction}
use Rattle.cam6_cycle.specs.declared.tables.Direction.TheVariants.{Backward}
use Rattle.cam6_cycle.specs.declared.tables.NeededTable.{NeededTable}
use Rattle.cam6_model.specs.Always.{HaveOwnNames, IsNamed, IsEntry}
use Rattle.cam6_model.specs.Cycles.{EntryRules, entry_rules}
use Rattle.cam6_model.specs.Rules.{Rule, rule_if_named}
use Rattle.cam6_model.specs.Undoing.{IsReversibleRule, IsReversibleEntry}
use Rattle.cam6_model.specs.Moves.{CanMove}
use Rattle.cam6_model.specs.TrueTables.{IsTableFor}
use Rattle.cam6_rules.specs.Compiled.{Compiled, IsKeptAs}
use Rattle.cam6_rules.specs.Numbers.{rule_at, number_in, rules_at, name_of, IsNumbered, AreNumbered}
use Rattle.cam6_rules.specs.Numbers.{named_entries}
use Rattle.cam6_rules.proofs.Naming.{rule_of_name, same_rules}
use Rattle.cam6_machine.specs.Stored.{machine_over}
use Rattle.cam6_slot.specs.declared.needs.Need.{Need}
use Rattle.cam6_slot.specs.Works.{StoredWork, IsWork}
use Rattle.cam6_slot.specs.Needs.{needed, needed_rule, way_told, wiring_told, Tells}
use Rattle.cam6_slot.specs.Needs.{HasCode, CanBeUndone}

-- the rule of a table is kept, with the wiring that the table is for, and can be undone backward
pub record IsUsable (rules : List Rule) (direction : Direction) (table : NeededTable) : Type 0 where
  pub rule : Rule
  pub found : slice_get rules table.rule.number ≡ Some rule
  pub wiring : rule.wiring
      ≡ record { half = table.half; hood = table.rule.hood; minor = table.rule.minor }
  pub way : table.direction ≡ direction
  pub undone : direction ≡ Backward → IsReversibleRule (Some rule)

module _ (rules : List Rule) (direction : Direction) (own : HaveOwnNames rules) where
  abbrev AreUsable : List NeededTable → Type 0
  AreUsable tables =
      (index : ℕ) (table : NeededTable) → slice_get tables index ≡ Some table →
      IsUsable rules direction table

  both_usable : (first later : List NeededTable) → AreUsable first → AreUsable later →
      AreUsable (first ++ later)
  both_usable [] later a b index table at = b index table at
  both_usable (x ∷ first) later a b zero table at = a zero table at
  both_usable (x ∷ first) later a b (suc index) table at =
      both_usable first later (λ i t e. a (suc i) t e) b index table at

  -- the rule at a number has the half for which its name is
  half_is : (half : Half) (number : ℕ) (rule : Rule) → slice_get rules number ≡ Some rule →
      IsNamed rules half (name_of (rule_at rules (Some number))) → rule.wiring.half ≡ half
  half_is half number rule found named =
      let (other, same, is) = subst (λ (o : Option Rule). IsNamed rules half (name_of o)) found
      named in
      let there : Some rule ≡ Some other =
      sym (ap (λ (o : Option Rule). rule_if_named (name_of o) rules) (sym found) ∙
      rule_of_name rules number own ∙ found) ∙ same in
      ap (λ (r : Rule). r.wiring.half) (same_Some rule other there) ∙ is

  one_usable : (half : Half) (rule : Option HalfRule) → IsNumbered rules rule →
      ((r : HalfRule) → rule ≡ Some r → IsNamed rules half (name_of (rule_at rules (Some r.number)))) →
      ((r : HalfRule) → rule ≡ Some r → direction ≡ Backward →
      IsReversibleRule (rule_at rules (Some r.number))) →
      AreUsable (needed_for direction half rule)
  one_usable half None numbered named undone index table at = cc at
  one_usable half (Some r) numbered named undone (suc index) table at = cc at
  one_usable half (Some r) (rule, found, hood, minor) named undone zero table at =
      let is = half_is half r.number rule found (named r refl) in
      let here : IsUsable rules direction
      (record { half = half; rule = r; direction = direction }) =
      record {
        rule = rule;
        found = found;
        wiring =
            ap {B = Wiring} (λ (h : Half). record {
              half = h;
              hood = rule.wiring.hood;
              minor = rule.wiring.minor;
            }) is ∙
            ap {B = Wiring} (λ h. record {
              half = half;
              hood = h;
              minor = rule.wiring.minor;
            }) hood ∙
            ap {B = Wiring} (λ n. record { half = half; hood = r.hood; minor = n }) minor;
        way = refl;
        undone = λ back. subst (λ (o : Option Rule). IsReversibleRule o) found
            (undone r refl back);
      } in
      subst (IsUsable rules direction) (same_Some _ table at) here

  -- whatever table is needed of a cycle's entries
  pub usable : (cycle : List Entry) → AreNumbered rules cycle →
      AllByRecursion (IsEntry rules) (named_entries rules cycle) →
      (direction ≡ Backward →
      AllByRecursion (λ entry. IsReversibleEntry (entry_rules rules entry))
      (named_entries rules cycle)) →
      AreUsable (tables_needed direction cycle)
  usable [] numbered are undone index table at = cc at
  usable (entry ∷ cycle) numbered are undone index table at =
      let back : direction ≡ Backward →
      IsReversibleEntry (rules_at rules entry) =
      λ is. subst (λ (e : EntryRules). IsReversibleEntry e) (same_rules rules entry own)
      (undone is).0 in
      both_usable (needed_for direction A entry.a ++ needed_for direction B entry.b) _
      (both_usable (needed_for direction A entry.a) (needed_for direction B entry.b)
      (one_usable A entry.a numbered.0.0
      (λ r is. subst (λ (o : Option HalfRule). IsNamed rules A (name_of (rule_at rules (number_in o))))
      is are.0.0)
      (λ r is way. subst (λ (o : Option HalfRule). IsReversibleRule (rule_at rules (number_in o)))
      is (back way).0))
      (one_usable B entry.b numbered.0.1
      (λ r is. subst (λ (o : Option HalfRule). IsNamed rules B (name_of (rule_at rules (number_in o))))
      is are.0.1)
      (λ r is way. subst (λ (o : Option HalfRule). IsReversibleRule (rule_at rules (number_in o)))
      is (back way).1)))
      (usable cycle numbered.1 are.1 (λ is. (undone is).1)) index table at

-- so it is with steps that are under way
pub needed_is_usable : (w : StoredWork) → IsWork w → (index : ℕ) (table : NeededTable) →
    slice_get (needed w) index ≡ Some table → IsUsable w.kept.rules w.direction table
needed_is_usable w is index table at =
    usable w.kept.rules w.direction is.kept.rules.own w.kept.cycle is.kept.numbered
    is.kept.entries
    (λ back. subst (λ d. CanMove d (machine_over w.home w.kept)) back (is.can w.home)) index table
    at

module _ (rules : List Rule) (direction : Direction) (table : NeededTable)
    (use_of : IsUsable rules direction table) where
  -- its rule is there
  pub is_there : IsKeptAs (slice_get rules table.rule.number) None → ⊥
  is_there kept = subst (λ (o : Option Rule). IsKeptAs o None) use_of.found kept

  module _ (compiled : Compiled)
      (kept : IsKeptAs (slice_get rules table.rule.number) (Some compiled)) where
    its_rule : (compiled.wiring ≡ use_of.rule.wiring) × (compiled.text ≡ use_of.rule.text)
    its_rule = subst (λ (o : Option Rule). IsKeptAs o (Some compiled)) use_of.found kept

    module _ (need : Need) (half : need.half ≡ table.half) (hood : need.hood ≡ table.rule.hood)
        (minor : need.minor ≡ table.rule.minor) (text : need.text.now ≡ compiled.text)
        (way : way_told need.inverted ≡ table.direction) where
      its_wiring : wiring_told need ≡ use_of.rule.wiring
      its_wiring =
          ap {B = Wiring} (λ (h : Half). record {
            half = h;
            hood = need.hood;
            minor = need.minor;
          }) half ∙
          ap {B = Wiring} (λ h. record {
            half = table.half;
            hood = h;
            minor = need.minor;
          }) hood ∙
          ap {B = Wiring} (λ n. record {
            half = table.half;
            hood = table.rule.hood;
            minor = n;
          }) minor ∙ sym use_of.wiring

      its_text : need.text.now ≡ use_of.rule.text
      its_text = text ∙ its_rule.1

      -- what is told of it is so
      pub tells : Tells rules table need
      tells = record {
        half = half;
        hood = hood;
        minor = minor;
        text = ap (option_map (λ (rule : Rule). rule.text)) use_of.found ∙ ap Some (sym its_text);
        way = way;
      }

      -- its code is that of its text
      pub has_code : IsCodeFor compiled.wiring compiled.text need.code.now → HasCode need
      has_code code =
          subst (λ (wiring : Wiring). IsCodeFor wiring need.text.now need.code.now)
          (its_rule.0 ∙ sym its_wiring)
          (subst (λ (t : List ℕ). IsCodeFor compiled.wiring t need.code.now) (sym text) code)

      -- and it can be undone where it is to be
      pub can_be_undone : CanBeUndone need
      can_be_undone inverted =
          let back : direction ≡ Backward = sym use_of.way ∙ sym way ∙ ap way_told inverted in
          subst (λ (wiring : Wiring).
          IsReversible (reading_of wiring need.text.now) wiring.hood wiring.minor)
          (sym its_wiring)
          (subst (λ (t : List ℕ). IsReversible (reading_of use_of.rule.wiring t)
          use_of.rule.wiring.hood use_of.rule.wiring.minor) (sym its_text)
          (use_of.undone back))

      -- and entries of the rule are those that are needed
      pub serves : (entries : List ℕ) →
          IsTableBy (way_told need.inverted) (wiring_told need) need.text.now entries →
          IsTableFor direction (needed_rule rules table) entries
      serves entries is =
          subst (λ (o : Option Rule). IsTableFor direction o entries) (sym use_of.found)
          (subst (λ d. IsTableBy d use_of.rule.wiring use_of.rule.text entries)
          (way ∙ use_of.way)
          (subst (λ (wiring : Wiring). IsTableBy (way_told need.inverted) wiring use_of.rule.text
          entries) its_wiring
          (subst (λ (t : List ℕ). IsTableBy (way_told need.inverted) (wiring_told need) t entries)
          its_text is)))
