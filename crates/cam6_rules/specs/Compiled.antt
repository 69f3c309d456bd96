-- A rule as it is kept, and the one that is kept at a number.
use Rattle.std.specs.Prelude.{◌≡◌, ℕ, List, Option, Some, None, ⊤}
use Rattle.cam6_wiring.specs.declared.wirings.Wiring.{Wiring}
use Rattle.cam6_table.specs.declared.codes.Instruction.{Instruction}
use Rattle.cam6_model.specs.Rules.{Rule}

-- what a rule is written for, its text, and the code that does what the words of the text mean
pub record Compiled : Type 0 where
  pub wiring : Wiring
  pub text : List ℕ
  pub code : List Instruction

-- if there is a rule it is kept as it was defined, and if there is none nothing is
abbrev pub IsKeptAs : Option Rule → Option Compiled → Type 0
IsKeptAs None None = ⊤
IsKeptAs None (Some compiled) = ⊥
IsKeptAs (Some rule) None = ⊥
IsKeptAs (Some rule) (Some compiled) =
    (compiled.wiring ≡ rule.wiring) × (compiled.text ≡ rule.text)
