-- The entry at an index of the cycle, and what its rules are.
use Rattle.std.proofs.Common.{◌≡◌, ◌<◌, ℕ, zero, suc, Bool, true, false, List, [], ◌∷◌, length}
use Rattle.std.proofs.Common.{cond, Option, Some, None, refl, subst, arith}
use Rattle.std.proofs.Common.{slice_get, ◌⊎◌, inl, inr}
use Rattle.std.specs.List.{AllByRecursion}
use Rattle.std.specs.Str.{bytes_eq}
use Rattle.cam6_model.specs.Rules.{Rule, rule_named, rule_if_named}
use Rattle.cam6_model.specs.Undoing.{IsReversibleRule}
use Rattle.cam6_model.specs.Refusals.{words_refusal}
use Rattle.cam6_model.specs.Always.{IsPosition}
use Rattle.cam6_model.specs.Laws.{IsOfBlocks}
use Rattle.cam6_commands.specs.declared.commands.NamedEntry.{NamedEntry}

-- there is no cycle, or an entry stands at the position
pub entry_or_none : (cycle : List NamedEntry) (position : ℕ) → IsPosition cycle position →
    (cycle ≡ []) ⊎ (position < length cycle)
entry_or_none [] position is = inl refl
entry_or_none (entry ∷ cycle) position is = inr is

pub entry_at : (cycle : List NamedEntry) (index : ℕ) → index < length cycle →
    (entry : NamedEntry) × (slice_get cycle index ≡ Some entry)
entry_at [] index within = absurd (omega (arith, within))
entry_at (entry ∷ cycle) zero within = (entry, refl)
entry_at (entry ∷ cycle) (suc index) within = entry_at cycle index (omega (arith, within))

pub is_position : (cycle : List NamedEntry) (position : ℕ) → position < length cycle →
    IsPosition cycle position
is_position [] position within = absurd (omega (arith, within))
is_position (entry ∷ cycle) position within = within

-- what holds of all entries holds of the one at an index
pub of_entry : (Q : NamedEntry → Type 0) (cycle : List NamedEntry) (index : ℕ)
    (entry : NamedEntry) → AllByRecursion Q cycle → slice_get cycle index ≡ Some entry → Q entry
of_entry Q [] index entry all found = cc found
of_entry Q (first ∷ cycle) zero entry all found =
    let same : first ≡ entry = cc found in subst Q same all.0
of_entry Q (first ∷ cycle) (suc index) entry all found =
    of_entry Q cycle index entry all.1 found

-- texts that aren't refused
abbrev pub AreSound : List Rule → Type 0
AreSound rules = AllByRecursion (λ rule. words_refusal rule.wiring rule.text ≡ None) rules

-- the text of a rule, where there is one, isn't refused
abbrev pub IsSound : Option Rule → Type 0
IsSound None = Unit {0}
IsSound (Some rule) = words_refusal rule.wiring rule.text ≡ None

named_sound : (rules : List Rule) (name : List ℕ) → AreSound rules →
    IsSound (rule_named name rules)
named_sound [] name sound = tt
named_sound (rule ∷ rules) name sound =
    by_test (bytes_eq name rule.name) (named_sound rules name sound.1)
  where
    by_test : (b : Bool) → IsSound (rule_named name rules) →
        IsSound (cond b (Some rule) (rule_named name rules))
    by_test true later = sound.0
    by_test false later = later

pub sound_if_named : (rules : List Rule) (o : Option (List ℕ)) → AreSound rules →
    IsSound (rule_if_named o rules)
sound_if_named rules None sound = tt
sound_if_named rules (Some name) sound = named_sound rules name sound

-- so a rule that can be undone is one of blocks
pub is_of_blocks : (rule : Option Rule) → IsSound rule → IsReversibleRule rule → IsOfBlocks rule
is_of_blocks None sound can = tt
is_of_blocks (Some rule) sound can = (sound, can.blocks, can.alone)
