-- What a table is asked for by, and its true table.
use Rattle.std.specs.Prelude.{ℕ, Bool, true, false, not, ◌&&◌, List}
use Rattle.std.specs.Str.{bytes_eq}
use Rattle.cam6_wiring.specs.Same.{is_same_wiring}
use Rattle.cam6_wiring.specs.declared.wirings.Wiring.{Wiring}
use Rattle.cam6_cycle.specs.declared.tables.Direction.{Direction}
use Rattle.cam6_cycle.specs.declared.tables.Direction.TheVariants.{Forward, Backward}
use Rattle.cam6_block.specs.BlockMaps.{reading_of, IsReversible}
use Rattle.cam6_block.specs.RuleTables.{IsTableBy}

-- what a rule is written for, its whole text, and whether the table is to undo it. The name under
-- which a user keeps the rule is no part of it
pub record TableKey : Type 0 where
  pub wiring : Wiring
  pub text : List ℕ
  pub inverted : Bool

-- a table that undoes a rule is asked for only if the rule can be undone
abbrev pub IsReversibleKey : TableKey → Type 0
IsReversibleKey key = IsReversible (reading_of key.wiring key.text) key.wiring.hood key.wiring.minor

-- a table that is to undo a rule is used backward along a cycle
abbrev pub way_of : Bool → Direction
way_of false = Forward
way_of true = Backward

-- a table is the key's true one: that of the rule's words, or the one that undoes what they make of
-- blocks
abbrev pub IsTrueBy : Bool → TableKey → List ℕ → Type 0
IsTrueBy inverted key entries = IsTableBy (way_of inverted) key.wiring key.text entries

abbrev pub IsTrueFor : TableKey → List ℕ → Type 0
IsTrueFor key entries = IsTrueBy key.inverted key entries

-- whether two keys are both for the table of a rule, or both for the one that undoes it
abbrev pub is_same_way : Bool → Bool → Bool
is_same_way false second = not second
is_same_way true second = second

-- whether two keys are one: in every part
abbrev pub is_same_key : TableKey → TableKey → Bool
is_same_key first second =
    is_same_wiring first.wiring second.wiring && bytes_eq first.text second.text
    && is_same_way first.inverted second.inverted
