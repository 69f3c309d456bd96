-- What code and a table are to the text of a rule.
use Rattle.std.specs.Prelude.{◌≡◌, ℕ, ◌<◌, List, length, IsOk}
use Rattle.cam6_wiring.specs.declared.wirings.Wiring.{Wiring}
use Rattle.cam6_forth.specs.Texts.{IsTextOf}
use Rattle.cam6_forth.specs.Tree.{IsRule}
use Rattle.cam6_forth.specs.Trees.{tree_of}
use Rattle.cam6_table.specs.declared.codes.Instruction.{Instruction}
use Rattle.cam6_entries.specs.Limits.{addresses}
use Rattle.cam6_table.specs.Codes.{result_at}
use Rattle.cam6_table.specs.Meaning.{at_address}
use Rattle.cam6_table.specs.Tables.{IsTrueTable}

-- the code of a kept rule: its text spells a rule, the code's result at each address is what the
-- rule's words mean there, and it stops nowhere
pub record IsCodeFor (wiring : Wiring) (text : List ℕ) (code : List Instruction) : Type 0 where
  pub spells : IsTextOf wiring (tree_of text) text
  pub means : (address : ℕ) → result_at code address ≡ at_address wiring (tree_of text) address
  pub runs : (address : ℕ) → address < addresses → IsOk (result_at code address)

-- the true table of the rule that a text spells: an entry for each address
pub record IsTableOf (wiring : Wiring) (text : List ℕ) (entries : List ℕ) : Type 0 where
  pub rule : IsRule wiring (tree_of text)
  pub whole : length entries ≡ addresses
  pub holds : IsTrueTable wiring (tree_of text) entries
