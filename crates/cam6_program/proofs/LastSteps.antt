-- A last step that writes the lower level's row in place of its slot.
use Rattle.std.proofs.Common.{◌≡◌, ℕ, ◌<◌, ◌*◌, Bool, false, List, [], ◌∷◌, ◌++◌}
use Rattle.std.proofs.Common.{get_or, Option, Some, None, IfSome, refl, sym, ◌∙◌, ap}
use Rattle.std.specs.Option.{is_none}
use Rattle.cam6_wiring.specs.declared.names.Level.TheVariants.{Lower, Upper}
use Rattle.cam6_planes.specs.Row.{column_bit}
use Rattle.cam6_lines.specs.Units.{asked_for}
use Rattle.cam6_lines.specs.declared.units.TheConstants.{UNIT}
use Rattle.cam6_program.specs.Meaning.{read, given, bit_by, after_step, after_steps}
use Rattle.cam6_program.specs.Programs.{Steps, keeps}
use Rattle.cam6_program.specs.Running.{beside, ReadsNoSlot}
use Rattle.cam6_program.specs.declared.steps.Source.{Source}
use Rattle.cam6_program.specs.declared.steps.Source.TheVariants.{Slot}
use Rattle.cam6_program.specs.declared.steps.Step.{Step}

after_one_more : (lines : List Bool) (steps : List Step) (last : Step) (slots : List Bool) →
    after_steps lines (steps ++ (last ∷ [])) slots
    ≡ after_step lines last (after_steps lines steps slots)
after_one_more lines [] last slots = refl
after_one_more lines (step ∷ steps) last slots =
    after_one_more lines steps last (after_step lines step slots)

-- what the last step makes is the lower bit, if that is read from its slot
pub lower_beside : (program : Steps) (steps : List Step) (last : Step) (bits : List Bool) →
    program.lower ≡ Some (Slot last.into) → program.steps ≡ steps ++ (last ∷ []) →
    beside (asked_for program.asked bits) steps last ≡ bit_by Lower program bits
lower_beside program steps last bits is parts =
    let lines : List Bool = asked_for program.asked bits in
    ap (λ slots. get_or slots last.into false)
    (sym (after_one_more lines steps last []) ∙
    ap (λ steps. after_steps lines steps []) (sym parts)) ∙
    ap (given Lower bits lines (after_steps lines program.steps [])) (sym is)

-- a bit that is read from no slot is read before all steps
free_bit : (bits lines slots : List Bool) (source : Option Source) (bit : Bool) →
    is_none source ≡ false → ReadsNoSlot source →
    IfSome source (λ source. bit ≡ read lines [] source) →
    bit ≡ given Upper bits lines slots source
free_bit bits lines slots None bit some free is = absurd cc
free_bit bits lines slots (Some source) bit some free is = is ∙ free lines slots

-- what a source reads at every column it reads at one
pub at_one : (source : Option Source) (out : List ℕ) (lines : ℕ → List Bool) (x : ℕ) →
    x < 64 * UNIT →
    IfSome source (λ source. (c : ℕ) → c < 64 * UNIT → column_bit out c ≡ read (lines c) [] source) →
    IfSome source (λ source. column_bit out x ≡ read (lines x) [] source)
at_one None out lines x h is = is
at_one (Some source) out lines x h is = is x h

pub upper_free : (program : Steps) (bits : List Bool) (bit : Bool) → keeps Upper program ≡ false →
    ReadsNoSlot program.upper →
    IfSome program.upper (λ source. bit ≡ read (asked_for program.asked bits) [] source) →
    bit ≡ bit_by Upper program bits
upper_free program bits bit some free is =
    let lines : List Bool = asked_for program.asked bits in
    free_bit bits lines (after_steps lines program.steps []) program.upper bit some free is
