-- A rule without where it lies in memory.
use Rattle.std.specs.Prelude.{ℕ, List}
use Rattle.cam6_wiring.specs.declared.wirings.Wiring.{Wiring}
use Rattle.cam6_forth.specs.declared.words.Word.{Word}

-- a definition: its name, its words in a row, and its size
pub record Defined : Type 0 where
  pub name : List ℕ
  pub words : List Word
  pub size : ℕ

-- a rule: what it is written for, and its definitions; the last one is the rule
pub record RuleWords : Type 0 where
  pub wiring : Wiring
  pub definitions : List Defined
