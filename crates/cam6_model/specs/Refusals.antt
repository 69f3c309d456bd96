-- When a command is refused, and why.
use Rattle.std.specs.Prelude.{ℕ, suc, ◌*◌, ◌/◌, Bool, true, false, ◌&&◌, ◌||◌, ◌==◌, List, [], ◌∷◌}
use Rattle.std.specs.Prelude.{◌++◌, length, nat_le, nat_lt, Option, Some, None, is_none, Result, Ok}
use Rattle.std.specs.Prelude.{Err, if◌then◌else◌}
use Rattle.std.specs.List.{list_all, list_any}
use Rattle.std.specs.Str.{bytes_eq}
use Rattle.cam6_wiring.specs.Name.{is_same_half}
use Rattle.cam6_wiring.specs.declared.names.Half.{Half}
use Rattle.cam6_wiring.specs.declared.names.Half.TheVariants as half
use Rattle.cam6_wiring.specs.declared.wirings.Wiring.{Wiring}
use Rattle.cam6_forth.specs.Defined.{Defined}
use Rattle.cam6_forth.specs.Reading.{read_text}
use Rattle.cam6_forth.specs.Trees.{tree_of}
use Rattle.cam6_table.specs.declared.faults.RuleFault.{RuleFault}
use Rattle.cam6_table.specs.Meaning.{at_address}
use Rattle.cam6_table.specs.Tables.{least_stop}
use Rattle.cam6_block.specs.BlockMaps.{reading_of}
use Rattle.cam6_block.specs.Refusals.{cause_of}
use Rattle.cam6_block.specs.declared.refusals.NotReversible.{NotReversible}
use Rattle.cam6_planes.specs.Side.{side_number, side_of}
use Rattle.cam6_planes.specs.declared.sides.Side.{Side}
use Rattle.cam6_cycle.specs.Limits.{max_entries}
use Rattle.cam6_commands.specs.Limits as limits
use Rattle.cam6_commands.specs.Names.{is_rule_name}
use Rattle.cam6_commands.specs.Checks.{unless, plane_refusal, row_refusal, mask_refusal}
use Rattle.cam6_commands.specs.Checks.{steps_refusal}
use Rattle.cam6_model.specs.Rules.{Rule, rule_named, wiring_of}
use Rattle.cam6_model.specs.Cycles.{EntryRules, entry_rules}
use Rattle.cam6_model.specs.Machine.{Machine}
use Rattle.cam6_commands.specs.declared.commands.NamedEntry.{NamedEntry}
use Rattle.cam6_commands.specs.declared.commands.Command.{Command}
use Rattle.cam6_commands.specs.declared.commands.Command.TheVariants.{Set, Rule as SetRule}
use Rattle.cam6_commands.specs.declared.commands.Command.TheVariants.{Cycle, Run, Back, Row}
use Rattle.cam6_commands.specs.declared.commands.Command.TheVariants.{Plane, Side as SetSide, Map}
use Rattle.cam6_commands.specs.declared.commands.Command.TheVariants.{Colours, Count, Save, Load}
use Rattle.cam6_commands.specs.declared.commands.Command.TheVariants.{Clear, Rules}
use Rattle.cam6_commands.specs.declared.commands.Command.TheVariants.{Drop as DropRule}
use Rattle.cam6_commands.specs.declared.faults.Fault.{Fault}
use Rattle.cam6_commands.specs.declared.faults.Fault.TheVariants.{NoRule, RuleInUse, TooManyRules}
use Rattle.cam6_commands.specs.declared.faults.Fault.TheVariants.{NoCycle, OutOfRange, WrongHalf}
use Rattle.cam6_commands.specs.declared.faults.Fault.TheVariants.{AboveLimit, NoMachine}
use Rattle.cam6_commands.specs.declared.saved.SavedMachine.{SavedMachine}
use Rattle.cam6_commands.specs.declared.refusals.Refusal.{Refusal}
use Rattle.cam6_commands.specs.declared.refusals.Refusal.TheVariants as refused

-- the first of two refusals, if there is one
abbrev pub or_then : {A : Type 0} → Option A → Option A → Option A
or_then None next = next
or_then (Some first) next = Some first

-- a row of a plane
abbrev pub plane_row_refusal : Side → ℕ → ℕ → Option Fault
plane_row_refusal side plane row = or_then (plane_refusal plane) (row_refusal side row)

-- a row that is set is one of a plane, and has a bit for each column
abbrev pub set_refusal : Side → ℕ → ℕ → List ℕ → Option Fault
set_refusal side plane row bits =
    or_then (plane_row_refusal side plane row)
    (unless (8 * length bits == side_number side) OutOfRange)

-- a side is one of the three, and then not above the limit
abbrev pub within_refusal : Side → Option Side → Option Fault
within_refusal limit None = Some OutOfRange
within_refusal limit (Some side) =
    unless (nat_le (side_number side) (side_number limit)) AboveLimit

abbrev pub side_refusal : Side → ℕ → Option Fault
side_refusal limit n = within_refusal limit (side_of n)

-- a colour for each state
abbrev pub map_refusal : List ℕ → Option Fault
map_refusal colours =
    unless
    ((length colours == limits.cell_states)
    && list_all (λ colour. nat_le colour limits.max_colour) colours) OutOfRange

abbrev pub some_cycle : List NamedEntry → Option Fault
some_cycle [] = Some NoCycle
some_cycle (entry ∷ entries) = None

-- at most 65,535 steps, and then a cycle
abbrev pub run_refusal : List NamedEntry → ℕ → Option Fault
run_refusal cycle n = or_then (steps_refusal n) (some_cycle cycle)

-- whether a name that an entry has, if it has one, is this one
abbrev pub is_name : List ℕ → Option (List ℕ) → Bool
is_name name None = false
is_name name (Some other) = bytes_eq other name

-- whether an entry names this rule
abbrev pub uses : List ℕ → NamedEntry → Bool
uses name entry = is_name name entry.a || is_name name entry.b

abbrev pub is_used : List NamedEntry → List ℕ → Bool
is_used cycle name = list_any (uses name) cycle

-- a rule that is there and that the cycle uses stays; a new one must be among sixteen
abbrev pub room_refusal : List Rule → List NamedEntry → List ℕ → Option Rule → Option Fault
room_refusal rules cycle name (Some rule) = if is_used cycle name then Some RuleInUse else None
room_refusal rules cycle name None =
    if nat_le limits.max_rules (length rules) then Some TooManyRules else None

abbrev pub rule_refusal : List Rule → List NamedEntry → List ℕ → Option Fault
rule_refusal rules cycle name =
    if is_rule_name name then room_refusal rules cycle name (rule_named name rules)
    else Some OutOfRange

-- a rule that is dropped must be there, and the cycle must not use it
abbrev pub gone_refusal : List NamedEntry → List ℕ → Option Rule → Option Fault
gone_refusal cycle name None = Some NoRule
gone_refusal cycle name (Some rule) = if is_used cycle name then Some RuleInUse else None

abbrev pub drop_refusal : List Rule → List NamedEntry → List ℕ → Option Fault
drop_refusal rules cycle name = gone_refusal cycle name (rule_named name rules)

-- phases are 0 to 3
abbrev pub have_phases : List NamedEntry → Bool
have_phases entries = list_all (λ entry. nat_lt entry.phase 4) entries

-- 1 to 16 entries, each with a phase
abbrev pub is_named_cycle : List NamedEntry → Bool
is_named_cycle entries =
    nat_le 1 (length entries) && nat_le (length entries) max_entries && have_phases entries

-- a name must be a rule's, and the rule one of this half
abbrev pub wiring_refusal : Half → Option Wiring → Option Fault
wiring_refusal h None = Some NoRule
wiring_refusal h (Some wiring) = if is_same_half wiring.half h then None else Some WrongHalf

abbrev pub half_refusal : List Rule → Half → Option (List ℕ) → Option Fault
half_refusal rules h None = None
half_refusal rules h (Some name) = wiring_refusal h (wiring_of name rules)

-- half A's name is looked at before half B's
abbrev pub entry_refusal : List Rule → NamedEntry → Option Fault
entry_refusal rules entry =
    or_then (half_refusal rules half.A entry.a) (half_refusal rules half.B entry.b)

abbrev pub first_refusal : List Rule → List NamedEntry → Option Fault
first_refusal rules [] = None
first_refusal rules (entry ∷ entries) =
    or_then (entry_refusal rules entry) (first_refusal rules entries)

abbrev pub cycle_refusal : List Rule → List NamedEntry → Option Fault
cycle_refusal rules entries =
    if is_named_cycle entries then first_refusal rules entries else Some OutOfRange

-- a text's first fault, with its token
abbrev pub text_refusal : Result (List Defined) (ℕ × ℕ) → Option Refusal
text_refusal (Ok definitions) = None
text_refusal (Err fault) = Some (refused.Text (record { number = fault.0; token = fault.1 }))

-- the least address at which a rule stops, with the fault there
abbrev pub stop_refusal : Option (ℕ × RuleFault) → Option Refusal
stop_refusal None = None
stop_refusal (Some stop) = Some (refused.Stops stop.0 stop.1)

-- a text must be a rule's, and the rule must stop nowhere
abbrev pub words_refusal : Wiring → List ℕ → Option Refusal
words_refusal wiring text =
    or_then (text_refusal (read_text wiring text))
    (stop_refusal (least_stop (at_address wiring (tree_of text))))

-- a fault as a refusal
abbrev pub fault_refusal : Option Fault → Option Refusal
fault_refusal None = None
fault_refusal (Some fault) = Some (refused.Fault fault)

-- a rule that is defined: its name first, and then its words
abbrev pub definition_refusal :
    List Rule → List NamedEntry → List ℕ → Wiring → List ℕ → Option Refusal
definition_refusal rules cycle name wiring text =
    or_then (fault_refusal (rule_refusal rules cycle name)) (words_refusal wiring text)

-- why a rule can't be undone, if there is a rule and it can't
abbrev pub rule_cause : Option Rule → Option NotReversible
rule_cause None = None
rule_cause (Some rule) =
    cause_of (reading_of rule.wiring rule.text) rule.wiring.hood rule.wiring.minor

-- the refusal for a half's rule of the entry with this number
abbrev pub cause_refusal : ℕ → Half → Option NotReversible → Option Refusal
cause_refusal entry half None = None
cause_refusal entry half (Some cause) = Some (refused.NotReversible entry half cause)

-- half A's rule is looked at before half B's
abbrev pub entry_cause : ℕ → EntryRules → Option Refusal
entry_cause number entry =
    or_then (cause_refusal number half.A (rule_cause entry.a))
    (cause_refusal number half.B (rule_cause entry.b))

-- the refusal for the first entry, from this number on, with a rule that can't be undone
abbrev pub first_cause : List Rule → ℕ → List NamedEntry → Option Refusal
first_cause rules number [] = None
first_cause rules number (entry ∷ entries) =
    or_then (entry_cause number (entry_rules rules entry)) (first_cause rules (suc number) entries)

-- a back is refused as a run is, and then for a rule of the cycle that can't be undone, even if no
-- step is to be undone
abbrev pub back_refusal : List Rule → List NamedEntry → ℕ → Option Refusal
back_refusal rules cycle n =
    or_then (fault_refusal (run_refusal cycle n)) (first_cause rules 0 cycle)

-- a row of a side has a bit for each column, and a plane has as many rows
abbrev pub is_row : ℕ → List ℕ → Bool
is_row s row = length row == s / 8

abbrev pub are_rows : ℕ → List (List ℕ) → Bool
are_rows s rows = (length rows == s) && list_all (is_row s) rows

-- four planes of a side
abbrev pub are_planes : ℕ → List (List (List ℕ)) → Bool
are_planes s planes = (length planes == 4) && list_all (are_rows s) planes

-- a rule that may be defined after these, under a name that none of them has
abbrev pub is_rule_after : List Rule → Rule → Bool
is_rule_after before rule =
    is_none (rule_named rule.name before)
    && is_none (definition_refusal before [] rule.name rule.wiring rule.text)

-- rules that may be defined so, one after another
abbrev pub are_rules_after : List Rule → List Rule → Bool
are_rules_after before [] = true
are_rules_after before (rule ∷ rules) =
    is_rule_after before rule && are_rules_after (before ++ rule ∷ []) rules

-- no entries, if no cycle is set, or those of a cycle
abbrev pub are_entries : List Rule → List NamedEntry → Bool
are_entries rules [] = true
are_entries rules (entry ∷ entries) = is_none (cycle_refusal rules (entry ∷ entries))

-- a position in a cycle, or 0 without one
abbrev pub is_position : List NamedEntry → ℕ → Bool
is_position [] position = position == 0
is_position (entry ∷ cycle) position = nat_lt position (length (entry ∷ cycle))

-- what is saved of a machine of this side: planes of the side, a colour for each state, rules that
-- may be defined one after another, and then entries of a cycle with a position in it
abbrev pub is_saved : Side → SavedMachine → Bool
is_saved side saved =
    are_planes (side_number side) saved.planes && is_none (map_refusal saved.colours)
    && are_rules_after [] saved.rules && are_entries saved.rules saved.cycle
    && is_position saved.cycle saved.position

-- what is loaded must be what is saved of a machine of one of the three sides, and then its side
-- must not be above the limit
abbrev pub loaded_refusal : Side → Option Side → SavedMachine → Option Fault
loaded_refusal limit None saved = Some NoMachine
loaded_refusal limit (Some side) saved =
    if is_saved side saved then within_refusal limit (Some side) else Some NoMachine

abbrev pub load_refusal : Side → SavedMachine → Option Fault
load_refusal limit saved = loaded_refusal limit (side_of saved.side) saved

-- why a machine refuses a command, if it does
abbrev pub refusal : Machine → Command → Option Refusal
refusal m (Set plane row bits) = fault_refusal (set_refusal m.side plane row bits)
refusal m (Clear plane) = fault_refusal (plane_refusal plane)
refusal m (SetRule name wiring text) = definition_refusal m.rules m.cycle name wiring text
refusal m (DropRule name) = fault_refusal (drop_refusal m.rules m.cycle name)
refusal m Rules = None
refusal m (Cycle entries) = fault_refusal (cycle_refusal m.rules entries)
refusal m (Run n) = fault_refusal (run_refusal m.cycle n)
refusal m (Back n) = back_refusal m.rules m.cycle n
refusal m (Row plane row) = fault_refusal (plane_row_refusal m.side plane row)
refusal m (Plane plane) = fault_refusal (plane_refusal plane)
refusal m (SetSide n) = fault_refusal (side_refusal m.limit n)
refusal m (Map colours) = fault_refusal (map_refusal colours)
refusal m (Colours row) = fault_refusal (row_refusal m.side row)
refusal m (Count mask) = fault_refusal (mask_refusal mask)
refusal m Save = None
refusal m (Load saved) = fault_refusal (load_refusal m.limit saved)
