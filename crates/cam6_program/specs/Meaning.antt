-- What a program means: the two bits that it makes of what the twelve lines show. Every list of
-- steps means something.
use Rattle.std.specs.Prelude.{ℕ, ◌==◌, nat_lt, Bool, false, not, ◌&&◌, ◌||◌, if◌then◌else◌}
use Rattle.std.specs.Prelude.{List, [], ◌∷◌, ◌++◌, length, slice_index_or, slice_set}
use Rattle.std.specs.Prelude.{Option, Some, None}
use Rattle.cam6_wiring.specs.declared.names.Level.{Level}
use Rattle.cam6_lines.specs.Units.{asked_for}
use Rattle.cam6_program.specs.Limits.{max_slots}
use Rattle.cam6_program.specs.Programs.{Steps, number, source_of}
use Rattle.cam6_program.specs.declared.steps.Source.{Source}
use Rattle.cam6_program.specs.declared.steps.Source.TheVariants.{Constant, Line, Slot}
use Rattle.cam6_program.specs.declared.steps.Operation.{Operation}
use Rattle.cam6_program.specs.declared.steps.Operation.TheVariants.{Choice, ChoiceNot, And, AndNot}
use Rattle.cam6_program.specs.declared.steps.Operation.TheVariants.{Or, OrNot, Xor}
use Rattle.cam6_program.specs.declared.steps.Step.{Step}

-- what a source reads from the lines, and from the slots that were written. Past the last line and
-- the last of these slots it reads 0
abbrev pub read : List Bool → List Bool → Source → Bool
read lines slots (Constant bit) = bit
read lines slots (Line line) = slice_index_or lines line false
read lines slots (Slot slot) = slice_index_or slots slot false

-- what an operation makes of what it reads; a choice selects one of two bits by a third, and
-- `ChoiceNot` inverts the one that it selects by 1
abbrev pub made : List Bool → List Bool → Operation → Bool
made lines slots (Choice by low high) =
    if read lines slots by then read lines slots high else read lines slots low
made lines slots (ChoiceNot by low high) =
    if read lines slots by then not (read lines slots high) else read lines slots low
made lines slots (And first second) = read lines slots first && read lines slots second
made lines slots (AndNot first second) = read lines slots first && not (read lines slots second)
made lines slots (Or first second) = read lines slots first || read lines slots second
made lines slots (OrNot first second) = read lines slots first || not (read lines slots second)
made lines slots (Xor first second) =
    if read lines slots first then not (read lines slots second) else read lines slots second

-- the slots that a step may write: those that were written, and the next one, which holds 0, if that
-- is the one and there is room for it
abbrev pub with_next : ℕ → List Bool → List Bool
with_next into slots =
    if (into == length slots) && nat_lt into max_slots then slots ++ (false ∷ []) else slots

-- slots after an operation: its slot is emptied, and then holds what the operation makes. What is
-- put past the last slot is lost
abbrev pub put_into : List Bool → Step → List Bool → List Bool
put_into lines step slots =
    let emptied : List Bool = slice_set slots step.into false in
    slice_set emptied step.into (made lines emptied step.operation)

-- the slots that are written after a step. It writes one of those that were, or the next one
abbrev pub after_step : List Bool → Step → List Bool → List Bool
after_step lines step slots = put_into lines step (with_next step.into slots)

-- the slots after steps
abbrev pub after_steps : List Bool → List Step → List Bool → List Bool
after_steps lines [] slots = slots
after_steps lines (step ∷ steps) slots = after_steps lines steps (after_step lines step slots)

-- the new bit of a level: what its source reads from the lines that the program is shown and from
-- the slots at the end. Without a source it is the bit of the level's own line
abbrev pub given : Level → List Bool → List Bool → List Bool → Option Source → Bool
given level bits lines slots None = slice_index_or bits (number level) false
given level bits lines slots (Some source) = read lines slots source

-- the new bit of a level that a program makes of what the lines show. It is shown those that it
-- asks for, and begins with no slot
abbrev pub bit_by : Level → Steps → List Bool → Bool
bit_by level program bits =
    let lines : List Bool = asked_for program.asked bits in
    given level bits lines (after_steps lines program.steps []) (source_of level program)
