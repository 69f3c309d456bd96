-- The tables of a rule's text, by the direction of a step along a cycle.
use Rattle.std.specs.Prelude.{ℕ, List}
use Rattle.cam6_wiring.specs.declared.wirings.Wiring.{Wiring}
use Rattle.cam6_cycle.specs.declared.tables.Direction.{Direction}
use Rattle.cam6_cycle.specs.declared.tables.Direction.TheVariants.{Forward, Backward}
use Rattle.cam6_table.specs.RuleTexts.{IsTableOf}
use Rattle.cam6_block.specs.BlockMaps.{reading_of, IsReversible}
use Rattle.cam6_block.specs.Inverted.{IsInverted}

-- forward, these are the entries of the rule's words; backward, the rule can be undone, and these
-- are the entries that undo its blocks
abbrev pub IsTableBy : Direction → Wiring → List ℕ → List ℕ → Type 0
IsTableBy Forward wiring text entries = IsTableOf wiring text entries
IsTableBy Backward wiring text entries =
    IsReversible (reading_of wiring text) wiring.hood wiring.minor
    × IsInverted (reading_of wiring text) wiring.hood wiring.minor entries
