-- What a cell becomes by the words of its rule, and one step of all cells.
use Rattle.std.specs.Prelude.{ℕ, Bool, false, Option, Some, None, Result, Ok, Err}
use Rattle.cam6_planes.specs.Cells.{Cells, torus}
use Rattle.cam6_wiring.specs.Name.{plane_of, on_plane}
use Rattle.cam6_wiring.specs.Seen.{Sees, seen}
use Rattle.cam6_wiring.specs.declared.names.Level.{Level}
use Rattle.cam6_wiring.specs.declared.neighbours.Setting.{Setting}
use Rattle.cam6_forth.specs.Trees.{tree_of}
use Rattle.cam6_table.specs.declared.faults.RuleFault.{RuleFault}
use Rattle.cam6_table.specs.Meaning.{meaning}
use Rattle.cam6_entries.specs.NewBits.{bit_for}
use Rattle.cam6_model.specs.Rules.{Rule}
use Rattle.cam6_model.specs.Cycles.{EntryRules, rule_for, setting_for}

-- the new bit that a rule makes; a rule of a machine stops nowhere
abbrev pub new_bit : Level → Result ℕ RuleFault → Bool
new_bit level (Ok bits) = bit_for level bits
new_bit level (Err fault) = false

-- what a rule's words mean if its names mean these bits
abbrev pub words_mean : Rule → Sees → Result ℕ RuleFault
words_mean rule sees = meaning rule.wiring (tree_of rule.text) sees

-- the new bit of a plane of a half at a cell of f: by the words of the half's rule, each name with
-- the bit that the cell sees under it. Without a rule the bit stays
abbrev pub new_cell : ℕ → Cells → Setting → Option Rule → Level → ℕ → ℕ → Bool
new_cell s f setting None level x y = f (plane_of setting.half level) x y
new_cell s f setting (Some rule) level x y =
    new_bit level (words_mean rule (λ name. seen s f setting name x y))

-- one step by an entry: every cell of both halves takes its new bits at once, read from f, on a
-- torus of s rows and columns
abbrev pub step : ℕ → EntryRules → Cells → Cells
step s entry f =
    torus s (λ p x y. on_plane p (λ half level.
    new_cell s f (setting_for half entry) (rule_for half entry) level x y))
