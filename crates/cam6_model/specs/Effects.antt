-- The reply to a command that is not refused, and what it does to the machine.
use Rattle.std.specs.Prelude.{ℕ, ◌/◌, List, [], ◌∷◌, map, if◌then◌else◌, Option, Some, None}
use Rattle.std.specs.List.{range_with_len}
use Rattle.std.specs.Str.{bytes_eq}
use Rattle.cam6_planes.specs.Row.{byte_column}
use Rattle.cam6_planes.specs.Digits.{row_text}
use Rattle.cam6_planes.specs.Side.{side_number, side_of}
use Rattle.cam6_planes.specs.declared.sides.Side.{Side}
use Rattle.cam6_planes.specs.Cells.{Cells, no_cells, with_row, without_plane}
use Rattle.cam6_view.specs.States.{row_colours, count_of}
use Rattle.cam6_model.specs.Rules.{Rule}
use Rattle.cam6_model.specs.Machine.{Machine, steps, unsteps}
use Rattle.cam6_model.specs.Saved.{saved_of, restored}
use Rattle.cam6_commands.specs.declared.commands.Command.{Command}
use Rattle.cam6_commands.specs.declared.commands.Command.TheVariants.{Set, Rule as SetRule}
use Rattle.cam6_commands.specs.declared.commands.Command.TheVariants.{Cycle, Run, Back, Row}
use Rattle.cam6_commands.specs.declared.commands.Command.TheVariants.{Plane, Side as SetSide, Map}
use Rattle.cam6_commands.specs.declared.commands.Command.TheVariants.{Colours, Count, Save, Load}
use Rattle.cam6_commands.specs.declared.commands.Command.TheVariants.{Clear, Rules}
use Rattle.cam6_commands.specs.declared.commands.Command.TheVariants.{Drop as DropRule}
use Rattle.cam6_commands.specs.declared.saved.SavedMachine.{SavedMachine}
use Rattle.cam6_commands.specs.declared.replies.Done.{Done}
use Rattle.cam6_commands.specs.declared.replies.Done.TheVariants as done

-- the text of each row of a plane of s rows and columns, from row 0 on, n digits a row
unfoldable pub plane_rows : ℕ → ℕ → Cells → ℕ → List (List ℕ)
plane_rows s n f p = map (λ y. row_text n (λ x. f p x y)) (range_with_len 0 s)

-- a new rule replaces the one of its name, in its place; if there is none of its name, it goes last
abbrev pub with_rule : Rule → List Rule → List Rule
with_rule new [] = new ∷ []
with_rule new (rule ∷ rules) =
    if bytes_eq new.name rule.name
    then record rule { wiring = new.wiring; text = new.text } ∷ rules
    else rule ∷ with_rule new rules

-- the rules but for the one of this name; those after it close up
abbrev pub without_rule : List ℕ → List Rule → List Rule
without_rule name [] = []
without_rule name (rule ∷ rules) =
    if bytes_eq name rule.name then rules else rule ∷ without_rule name rules

-- the side changes, with no cell set and with position 0, even if it is the side already
abbrev pub with_side : Option Side → Machine → Machine
with_side None m = m
with_side (Some side) m = record m { side = side; planes = no_cells; position = 0 }

-- the machine becomes what was saved, whole, and the limit stays
abbrev pub with_saved : Option Side → SavedMachine → Machine → Machine
with_saved None saved m = m
with_saved (Some side) saved m = restored side m.limit saved

-- what is done for a command that is not refused
abbrev pub accepted : Machine → Command → Done
accepted m (Set plane row bits) = done.Set
accepted m (Clear plane) = done.Clear
accepted m (SetRule name wiring text) = done.Rule
accepted m (DropRule name) = done.Drop
accepted m Rules = done.Rules (map (λ rule. rule.name) m.rules)
accepted m (Cycle entries) = done.Cycle
accepted m (Run n) = done.Run (steps n m).position
accepted m (Back n) = done.Back (unsteps n m).position
accepted m (Row plane row) =
    done.Row (row_text (side_number m.side / 4) (λ x. m.planes plane x row))
accepted m (Plane plane) =
    let s = side_number m.side in done.Plane (plane_rows s (s / 4) m.planes plane)
accepted m (SetSide n) = done.Side
accepted m (Map colours) = done.Map
accepted m (Colours row) =
    done.Colours (row_colours (side_number m.side) m.colours m.planes row)
accepted m (Count mask) = done.Count (count_of (side_number m.side) m.planes mask)
accepted m Save = done.Save (saved_of m)
accepted m (Load saved) = done.Load

-- the machine after it
abbrev pub effect : Machine → Command → Machine
effect m (Set plane row bits) =
    record m { planes = with_row (side_number m.side) m.planes plane row (byte_column bits) }
effect m (Clear plane) = record m { planes = without_plane (side_number m.side) m.planes plane }
effect m (SetRule name wiring text) =
    record m { rules = with_rule (record { name = name; wiring = wiring; text = text }) m.rules }
effect m (DropRule name) = record m { rules = without_rule name m.rules }
effect m Rules = m
effect m (Cycle entries) = record m { cycle = entries; position = 0 }
effect m (Run n) = steps n m
effect m (Back n) = unsteps n m
effect m (Row plane row) = m
effect m (Plane plane) = m
effect m (SetSide n) = with_side (side_of n) m
effect m (Map colours) = record m { colours = colours }
effect m (Colours row) = m
effect m (Count mask) = m
effect m Save = m
effect m (Load saved) = with_saved (side_of saved.side) saved m
