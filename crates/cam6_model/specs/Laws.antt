-- Laws of steps, of what a machine always is, and of what is saved of it and loaded.
use Rattle.std.specs.Prelude.{◌≡◌, ◌≢◌, ◌↔◌, ℕ, ◌+◌, ◌<◌, ◌%◌, true, List, length, Option, Some, None}
use Rattle.std.specs.Prelude.{IsOk, ⊤, ◌≤◌, [], slice_index, slice_index_or}
use Rattle.std.specs.List.{AllByRecursion}
use Rattle.cam6_planes.specs.declared.sides.Side.{Side}
use Rattle.cam6_planes.specs.Side.{side_number}
use Rattle.cam6_planes.specs.Cells.{Cells, torus}
use Rattle.cam6_wiring.specs.Name.{plane_of}
use Rattle.cam6_wiring.specs.Seen.{Sees}
use Rattle.cam6_wiring.specs.declared.names.Half.{Half}
use Rattle.cam6_wiring.specs.declared.names.Level.{Level}
use Rattle.cam6_wiring.specs.declared.wirings.Minor.TheVariants.{Centers}
use Rattle.cam6_wiring.specs.Wiring.{is_margolus}
use Rattle.cam6_band.specs.ByTables.{StepTables, step_by}
use Rattle.cam6_cycle.specs.declared.tables.Direction.{Direction}
use Rattle.cam6_cycle.specs.declared.tables.Direction.TheVariants.{Forward, Backward}
use Rattle.cam6_model.specs.Rules.{Rule}
use Rattle.cam6_model.specs.Cycles.{EntryRules, name_for, entry_rules, rule_for}
use Rattle.cam6_model.specs.Steps.{words_mean, step}
use Rattle.cam6_model.specs.Undoing.{blockwise, done_by, unstep, IsReversibleEntry}
use Rattle.cam6_model.specs.TrueTables.{AreTablesFor}
use Rattle.cam6_model.specs.Machine.{Machine, blank, steps, unsteps, IsReversibleCycle}
use Rattle.cam6_model.specs.Moves.{moved, planes_moved, position_moved}
use Rattle.cam6_model.specs.Refusals.{refusal, words_refusal}
use Rattle.cam6_model.specs.Always.{IsMachine}
use Rattle.cam6_commands.specs.RuleTexts.{HasText}
use Rattle.cam6_model.specs.Saved.{saved_of}
use Rattle.cam6_model.specs.Alone.{after, replies}
use Rattle.cam6_model.specs.Recovery.{HaveTexts, IsRecovered, Part, IsPart, IsOneList}
use Rattle.cam6_commands.specs.declared.commands.Command.{Command}
use Rattle.cam6_commands.specs.declared.commands.Command.TheVariants.{Run, Back, Load}
use Rattle.cam6_commands.specs.declared.commands.NamedEntry.{NamedEntry}
use Rattle.cam6_commands.specs.declared.saved.SavedMachine.{SavedMachine}

-- an entry's step of any planes of a torus by the tables of its rules is the step by their words
abbrev pub TrueTablesStep : Type 0
TrueTablesStep =
    (s : ℕ) (entry : EntryRules) (tables : StepTables) (f : Cells) →
    AreTablesFor Forward entry tables → torus s f ≡ f → step_by s tables f ≡ step s entry f

-- a half without a rule keeps its planes, in a step and in a step undone
abbrev pub KeepsItsPlanes : Type 0
KeepsItsPlanes =
    (direction : Direction) (s : ℕ) (entry : EntryRules) (f : Cells) (half : Half)
    (level : Level) (x y : ℕ) → x < s → y < s → rule_for half entry ≡ None →
    planes_moved direction s entry f (plane_of half level) x y ≡ f (plane_of half level) x y

-- after some steps one way more come all of them together
abbrev pub StepsAddUp : Type 0
StepsAddUp =
    (direction : Direction) (m : Machine) (first later : ℕ) →
    moved direction (first + later) m ≡ moved direction later (moved direction first m)

-- steps one way change only planes and position
abbrev pub OnlyPlanesAndPosition : Type 0
OnlyPlanesAndPosition =
    (direction : Direction) (m : Machine) (n : ℕ) →
    moved direction n m
    ≡ record m { planes = (moved direction n m).planes; position = (moved direction n m).position }

-- the position goes round the cycle, by one with each step
abbrev pub PositionGoesRound : Type 0
PositionGoesRound =
    (direction : Direction) (m : Machine) (n : ℕ) → m.position < length m.cycle →
    (moved direction n m).position ≡ position_moved direction (length m.cycle) n m.position

-- a blank machine is a machine, of whatever limit
abbrev pub BlankIsMachine : Type 0
BlankIsMachine = (limit : Side) → IsMachine (blank limit)

-- no command changes the limit
abbrev pub LimitStays : Type 0
LimitStays = (m : Machine) (c : Command) → (after m c).limit ≡ m.limit

-- a machine is still a machine after any command with texts of rules in UTF-8
abbrev pub StaysMachine : Type 0
StaysMachine =
    (m : Machine) (c : Command) → IsMachine m → HasText c → IsMachine (after m c)

-- a name that an entry has for a half is that of a rule that stops nowhere, whatever is seen
abbrev pub IsRuled : Machine → NamedEntry → Type 0
IsRuled m entry =
    (half : Half) (name : List ℕ) → name_for half entry ≡ Some name →
    (rule : Rule) × (rule_for half (entry_rules m.rules entry) ≡ Some rule) ×
    ((sees : Sees) → IsOk (words_mean rule sees))

-- so it is with each entry of a machine's cycle
abbrev pub RulesRun : Type 0
RulesRun = (m : Machine) → IsMachine m → AllByRecursion (IsRuled m) m.cycle

-- a rule, if there is one, has a text without a fault that stops nowhere, and its cells see only
-- their blocks
abbrev pub IsOfBlocks : Option Rule → Type 0
IsOfBlocks None = ⊤
IsOfBlocks (Some rule) =
    (words_refusal rule.wiring rule.text ≡ None)
    × (is_margolus rule.wiring.hood ≡ true) × (rule.wiring.minor ≢ Centers)

-- on a torus of an even side, a step by rules of blocks changes each block of the grid as a whole
abbrev pub StepChangesBlocks : Type 0
StepChangesBlocks =
    (s : ℕ) (entry : EntryRules) (f : Cells) → 0 < s → s % 2 ≡ 0 →
    IsOfBlocks entry.a → IsOfBlocks entry.b →
    step s entry f
    ≡ blockwise s entry.grid (λ half. done_by entry.phase (rule_for half entry)) f

-- by the tables that undo its rules, a step is one undone
abbrev pub InvertedTablesUndo : Type 0
InvertedTablesUndo =
    (s : ℕ) (entry : EntryRules) (tables : StepTables) (f : Cells) → 0 < s → s % 2 ≡ 0 →
    IsReversibleEntry entry → AreTablesFor Backward entry tables → torus s f ≡ f →
    step_by s tables f ≡ unstep s entry f

-- if every rule of the cycle can be undone, steps done and then undone give the machine back
abbrev pub UndoingUndoes : Type 0
UndoingUndoes =
    (m : Machine) (n : ℕ) → IsMachine m → IsReversibleCycle m → unsteps n (steps n m) ≡ m

-- and so do steps that are undone and done again
abbrev pub DoingRedoes : Type 0
DoingRedoes =
    (m : Machine) (n : ℕ) → IsMachine m → IsReversibleCycle m → steps n (unsteps n m) ≡ m

-- a machine that doesn't refuse to go back so many steps can run and then go back as many, or go
-- back and then run as many, and is the machine that it was
abbrev pub BackGivesTheMachineBack : Type 0
BackGivesTheMachineBack =
    (m : Machine) (n : ℕ) → IsMachine m → refusal m (Back n) ≡ None →
    (after (after m (Run n)) (Back n) ≡ m) × (after (after m (Back n)) (Run n) ≡ m)

-- a machine may go back so many steps exactly if it may run as many, and every rule of its cycle
-- can be undone
abbrev pub BackNeedsReversibleRules : Type 0
BackNeedsReversibleRules =
    (m : Machine) (n : ℕ) →
    (refusal m (Back n) ≡ None) ↔ ((refusal m (Run n) ≡ None) × IsReversibleCycle m)

-- what was saved of a machine is loaded by every machine with a limit that allows its side; that
-- machine then is the saved one, but for its limit
abbrev pub LoadGivesBack : Type 0
LoadGivesBack =
    (m n : Machine) → IsMachine m → side_number m.side ≤ side_number n.limit →
    (refusal n (Load (saved_of m)) ≡ None)
    × (after n (Load (saved_of m)) ≡ record m { limit = n.limit })

-- each number of the rows of planes is that of a byte
abbrev pub AreBytes : List (List (List ℕ)) → Type 0
AreBytes planes =
    (p y i : ℕ) → slice_index (slice_index_or (slice_index_or planes p []) y []) i < 256

-- nothing else is loaded: what a load doesn't refuse was saved of the machine that it makes
abbrev pub LoadTakesSaved : Type 0
LoadTakesSaved =
    (n : Machine) (saved : SavedMachine) → AreBytes saved.planes → HasText (Load saved) →
    refusal n (Load saved) ≡ None →
    IsMachine (after n (Load saved)) × (saved ≡ saved_of (after n (Load saved)))

-- two machines that are saved alike differ only in their limits
abbrev pub SavedOfOne : Type 0
SavedOfOne =
    (m n : Machine) → IsMachine m → IsMachine n → saved_of m ≡ saved_of n →
    n ≡ record m { limit = n.limit }

-- a machine that was saved and loaded under the same limit replies to all commands as before
abbrev pub LoadedAnswersAlike : Type 0
LoadedAnswersAlike =
    (m n : Machine) (commands : List Command) → IsMachine m → m.limit ≡ n.limit →
    replies (after n (Load (saved_of m))) commands ≡ replies m commands

-- any machine takes the place of a lost one of its limit: it loads what was saved after some
-- commands and is given those since, and nothing tells it from the machine that was never lost
abbrev pub RecoveryIsExact : Type 0
RecoveryIsExact =
    (other : Machine) (saved since : List Command) → HaveTexts saved →
    IsRecovered other.limit saved since other

-- so it is however often machines of one limit are lost
abbrev pub RecoveriesAreExact : Type 0
RecoveriesAreExact =
    (limit : Side) (parts : List Part) → AllByRecursion (IsPart limit) parts → IsOneList limit parts
