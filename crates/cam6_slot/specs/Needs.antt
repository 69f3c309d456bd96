-- The tables that steps under way need.
use Rattle.std.specs.Prelude.{ℕ, ◌≡◌, Bool, true, false, List, length, Option, Some}
use Rattle.std.specs.List.{slice_get}
use Rattle.std.specs.Option.{option_map}
use Rattle.cam6_wiring.specs.declared.wirings.Wiring.{Wiring}
use Rattle.cam6_table.specs.RuleTexts.{IsCodeFor}
use Rattle.cam6_block.specs.BlockMaps.{reading_of, IsReversible}
use Rattle.cam6_cycle.specs.Tables.{tables_needed}
use Rattle.cam6_cycle.specs.declared.tables.Direction.{Direction}
use Rattle.cam6_cycle.specs.declared.tables.Direction.TheVariants.{Forward, Backward}
use Rattle.cam6_cycle.specs.declared.tables.NeededTable.{NeededTable}
use Rattle.cam6_model.specs.Rules.{Rule}
use Rattle.cam6_model.specs.TrueTables.{IsTableFor}
use Rattle.cam6_rules.specs.Numbers.{rule_at}
use Rattle.cam6_slot.specs.declared.needs.Need.{Need}
use Rattle.cam6_slot.specs.Works.{StoredWork}

-- one for each use of a rule in the cycle: entry by entry, half A's before half B's
abbrev pub needed : StoredWork → List NeededTable
needed w = tables_needed w.direction w.kept.cycle

-- how many they are
abbrev pub needs_of : StoredWork → ℕ
needs_of w = length (needed w)

-- the rule of a needed table
abbrev pub needed_rule : List Rule → NeededTable → Option Rule
needed_rule rules table = rule_at rules (Some table.rule.number)

-- the way of a table, by whether it undoes its rule: steps backward use tables that do
abbrev pub way_told : Bool → Direction
way_told false = Forward
way_told true = Backward

-- what the rule of a need is written for
abbrev pub wiring_told : Need → Wiring
wiring_told need = record { half = need.half; hood = need.hood; minor = need.minor }

-- a need says of a table what its rule is written for, the rule's text, and whether the table is to
-- undo the rule
pub record Tells (rules : List Rule) (table : NeededTable) (need : Need) : Type 0 where
  pub half : need.half ≡ table.half
  pub hood : need.hood ≡ table.rule.hood
  pub minor : need.minor ≡ table.rule.minor
  pub text : option_map (λ (rule : Rule). rule.text) (needed_rule rules table)
      ≡ Some need.text.now
  pub way : way_told need.inverted ≡ table.direction

-- the code with it is that of the text, and a rule that is to be undone can be
abbrev pub HasCode : Need → Type 0
HasCode need = IsCodeFor (wiring_told need) need.text.now need.code.now

abbrev pub CanBeUndone : Need → Type 0
CanBeUndone need =
    need.inverted ≡ true →
    IsReversible (reading_of (wiring_told need) need.text.now) need.hood need.minor

-- a need is that of the table at an index, if one is needed there
abbrev pub IsNeed : StoredWork → ℕ → Need → Type 0
IsNeed w index need =
    (table : NeededTable) → slice_get (needed w) index ≡ Some table →
    Tells w.kept.rules table need

-- entries are those that are needed at an index: its rule's, for the way of the command
abbrev pub IsTableNeeded : StoredWork → ℕ → List ℕ → Type 0
IsTableNeeded w index entries =
    (table : NeededTable) → slice_get (needed w) index ≡ Some table →
    IsTableFor w.direction (needed_rule w.kept.rules table) entries
