-- What is read and made at one column of units, which only this crate cites.
use Rattle.std.specs.Prelude.{ℕ, Bool, false, ◌≡◌, ◌<◌, ◌*◌, ◌+◌, ◌==◌, ◌&&◌, nat_lt, if◌then◌else◌}
use Rattle.std.specs.Prelude.{Option, IfSome}
use Rattle.std.specs.Prelude.{List, [], ◌∷◌, ◌++◌, map, drop, length, slice_index_or}
use Rattle.cam6_planes.specs.Row.{column_bit}
use Rattle.cam6_wiring.specs.Lines.{at_column}
use Rattle.cam6_wiring.specs.Seen.{number_of}
use Rattle.cam6_wiring.specs.declared.wirings.TheConstants.{LINES}
use Rattle.cam6_wiring.specs.declared.names.Level.{Level}
use Rattle.cam6_lines.specs.Units.{asked_for}
use Rattle.cam6_program.specs.Limits.{max_slots}
use Rattle.cam6_program.specs.Programs.{Steps, keeps}
use Rattle.cam6_program.specs.Meaning.{read, made, bit_by, after_step, after_steps}
use Rattle.cam6_program.specs.declared.steps.Operation.{Operation}
use Rattle.cam6_program.specs.declared.steps.Source.{Source}
use Rattle.cam6_program.specs.declared.steps.Step.{Step}
use Rattle.cam6_program.specs.declared.running.Readable.{Readable}

-- what the lines show
abbrev pub lines_at : ℕ → Readable → List Bool
lines_at c readable = at_column c (map (λ line. line.now) readable.lines.now)

-- what the slots hold; the one that is written is empty
abbrev pub slots_at : ℕ → Readable → List Bool
slots_at c readable = at_column c readable.before.now ++ (false ∷ at_column c readable.later.now)

-- slots that follow others, after an operation has written the first of them
abbrev pub with_first : List Bool → List Bool → Operation → List Bool → List Bool
with_first lines before operation slots =
    made lines (before ++ (false ∷ drop 1 slots)) operation ∷ drop 1 slots

-- how many slots are written after a step into this one: one more if it is the next one, and there is
-- room for it
abbrev pub written_after : ℕ → ℕ → ℕ
written_after written into =
    if (into == written) && nat_lt into max_slots then written + 1 else written

-- what a step after others makes, read from its slot
abbrev pub beside : List Bool → List Step → Step → Bool
beside lines steps last =
    slice_index_or (after_step lines last (after_steps lines steps [])) last.into false

-- a level that is read from no slot: from a constant or a line, or from nothing
abbrev pub ReadsNoSlot : Option Source → Type 0
ReadsNoSlot source =
    (lines slots : List Bool) → IfSome source (λ source. read lines [] source ≡ read lines slots source)

-- unless the level is kept, the unit has the bits that the program makes of these lines, which show
-- 0 if the program doesn't ask for them
abbrev pub Makes : Level → Steps → List (List ℕ) → ℕ → List ℕ → Type 0
Makes level program lines words unit =
    keeps level program ≡ false → (c : ℕ) (bits : List Bool) → c < 64 * words →
    at_column c lines ≡ asked_for program.asked bits →
    column_bit unit c ≡ bit_by level program bits

-- the unit has, at the column of each address, the bit that the program makes there
abbrev pub MakesAtAddresses : Level → Steps → List ℕ → Type 0
MakesAtAddresses level program unit =
    (bits : List Bool) → length bits ≡ LINES →
    column_bit unit (number_of bits) ≡ bit_by level program bits
