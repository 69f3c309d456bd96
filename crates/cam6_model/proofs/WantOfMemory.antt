-- For which commands memory may be wanted: a text is kept, or the reply has rows.
use Rattle.std.proofs.Common.{◌≡◌, ◌∙◌, ℕ, true, ◌&&◌, List, Option, Some, None}
use Rattle.std.proofs.Common.{Result, Ok, Err, refl, sym, ap, is_none, Bool}
use Rattle.cam6_planes.specs.Cells.{Cells}
use Rattle.cam6_planes.specs.Side.{side_number}
use Rattle.cam6_planes.specs.declared.sides.Side.{Side}
use Rattle.cam6_planes.specs.declared.sides.Side.TheVariants.{S128, S256, S512}
use Rattle.cam6_wiring.specs.declared.wirings.Wiring.{Wiring}
use Rattle.cam6_forth.specs.Defined.{Defined}
use Rattle.cam6_forth.specs.Reading.{read_text, keeps}
use Rattle.cam6_forth.proofs.SomethingKept.{accepted_is_kept}
use Rattle.cam6_commands.specs.Checks.{plane_refusal}
use Rattle.cam6_commands.specs.declared.commands.Command.TheVariants.{Plane}
use Rattle.cam6_commands.specs.declared.faults.Fault.{Fault}
use Rattle.cam6_commands.specs.declared.commands.NamedEntry.{NamedEntry}
use Rattle.cam6_model.specs.Rules.{Rule}
use Rattle.cam6_model.specs.Machine.{Machine}
use Rattle.cam6_model.specs.Refusals.{text_refusal, words_refusal, rule_refusal, fault_refusal}
use Rattle.cam6_model.specs.Effects.{plane_rows}
use Rattle.cam6_model.specs.Alone.{reply}
use Rattle.cam6_model.specs.Memory.{keeps_definition, are_some, has_rows}
use Rattle.cam6_model.proofs.Refusing.{reply-accepted}
use Rattle.cam6_model.proofs.Staying.{first_none}

-- a text without a fault is read
is_read : (read : Result (List Defined) (ℕ × ℕ)) → text_refusal read ≡ None →
    (definitions : List Defined) × (read ≡ Ok definitions)
is_read (Ok definitions) none = (definitions, refl)
is_read (Err fault) none = cc none

-- something of the text of a rule is kept
sound_is_kept : (wiring : Wiring) (text : List ℕ) → words_refusal wiring text ≡ None →
    keeps wiring text ≡ true
sound_is_kept wiring text none =
    let read = is_read (read_text wiring text) (first_none _ _ none).0 in
    accepted_is_kept wiring text read.0 read.1

both : (o : Option Fault) (kept : Bool) → None ≡ o → kept ≡ true → (is_none o && kept) ≡ true
both None kept none is = is
both (Some fault) kept none is = cc none

-- so a rule that is accepted keeps its text
pub definition_is_kept : (rules : List Rule) (cycle : List NamedEntry) (name : List ℕ)
    (wiring : Wiring) (text : List ℕ) → None ≡ rule_refusal rules cycle name →
    words_refusal wiring text ≡ None → keeps_definition rules cycle name wiring text ≡ true
definition_is_kept rules cycle name wiring text free sound =
    both (rule_refusal rules cycle name) (keeps wiring text) free
    (sound_is_kept wiring text sound)

-- a plane has rows
rows_are_some : (side : Side) (n : ℕ) (f : Cells) (p : ℕ) →
    are_some (plane_rows (side_number side) n f p) ≡ true
unfolding plane_rows
rows_are_some S128 n f p = refl
rows_are_some S256 n f p = refl
rows_are_some S512 n f p = refl

-- so has the reply that shows one
pub plane_has_rows : (m : Machine) (plane : ℕ) → None ≡ plane_refusal plane →
    has_rows (reply m (Plane plane)) ≡ true
plane_has_rows m plane within =
    ap has_rows (reply-accepted m (Plane plane) (ap fault_refusal (sym within)))
    ∙ rows_are_some m.side _ m.planes plane
