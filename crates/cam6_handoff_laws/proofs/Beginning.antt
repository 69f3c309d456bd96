-- The threads of a host that begins.
use Rattle.std.proofs.Common.{◌≡◌, ◌∙◌, ℕ, zero, suc, List, [], ◌∷◌, length, map, sym, refl, ap}
use Rattle.std.proofs.Common.{subst, slice_index, Option, Some, None}
use Rattle.std.proofs.lemmas.List.{length-map}
use Rattle.std.proofs.lemmas.Option.{same_Some, slice_get-map}
use Rattle.std.specs.List.{slice_get}
use Rattle.std.specs.Option.{option_map}
use mathlib.Core.Option.{some-injective, some-ne-none}
use Rattle.cam6_planes.specs.declared.sides.Side.{Side}
use Rattle.cam6_model.specs.Machine.{Machine}
use Rattle.cam6_slot.specs.Parking.{StoredQueued}
use Rattle.cam6_core.specs.Fresh.{fresh}
use Rattle.cam6_core.specs.Good.{UserFits, Good}
use Rattle.cam6_core.specs.Internal.Starting.{IsNewcomer, AreNewcomers}
use Rattle.cam6_core.proofs.Starting.{begins_good}
use Rattle.cam6_core.specs.Model.{Stage, resting, user, newcomer, machine_of}
use Rattle.cam6_core.specs.declared.parts.Whereabouts.{Whereabouts}
use Rattle.cam6_core.specs.declared.parts.Whereabouts.TheVariants as whereabouts
use Rattle.cam6_handoff.specs.Boot.{AreBlankDesks}
use Rattle.cam6_handoff.specs.Desks.{IsBlankDesk}
use Rattle.cam6_handoff.specs.Rule.{Shared, Rule, At}
use Rattle.cam6_handoff.specs.Standing.{Stance, standing, waiting, nowhere}
use Rattle.cam6_handoff.specs.declared.rule.View.TheVariants.{First, Waits}
use Rattle.cam6_handoff.proofs.Keeps.{opens, zeros_at}
use Rattle.cam6_handoff_laws.specs.Configurations.{Configuration, WordSays}
use Rattle.cam6_handoff_laws.specs.Executions.{Begins, held_at}
use Rattle.cam6_handoff_laws.specs.Threads.{BeginsAtFresh}

-- a newcomer is at rest, and so is whoever isn't there
new_stage : (limits : List Side) (u : ℕ) → (user (map newcomer limits) u).stage ≡ resting
new_stage limits zero = refl
new_stage limits (suc i) = by_row limits i
  where
    by_row : (limits : List Side) (i : ℕ) → (user (map newcomer limits) (suc i)).stage ≡ resting
    by_row [] i = refl
    by_row (limit ∷ limits) zero = refl
    by_row (limit ∷ limits) (suc i) = by_row limits i

at_rest_says : (k : Configuration) (row : ℕ) (m : Machine) (x : Whereabouts) (stage : Stage) →
    stage ≡ resting → UserFits m x stage →
    slice_index k.table.words row ≡ 0 → WordSays k row x
at_rest_says k row m (whereabouts.Resting r) stage is fits word = word
at_rest_says k row m (whereabouts.Queued q) stage is fits word =
    absurd (subst (UserFits m (whereabouts.Queued q)) is fits)
at_rest_says k row m whereabouts.Out stage is fits word =
    absurd (subst (UserFits m whereabouts.Out) is fits)
at_rest_says k row m (whereabouts.Finished f) stage is fits word =
    absurd (subst (UserFits m (whereabouts.Finished f)) is fits)

no_desk_yet : (j row : ℕ) (asked : StoredQueued) → At (First 0 0 ∷ []) j (Waits row asked) → ⊥
no_desk_yet zero row asked at =
    let e : First 0 0 ≡ Waits row asked = some-injective (First 0 0) (Waits row asked) at in cc e
no_desk_yet (suc j) row asked at = some-ne-none (Waits row asked) (sym at)

-- a desk of the beginning holds what a newcomer has
new_at : (u : ℕ) (limit : Side) (desk : Stance) → IsBlankDesk u limit desk →
    IsNewcomer limit (held_at desk)
new_at u limit (standing v machine) is = is.1
new_at u limit (waiting v asked) is = absurd is
new_at u limit nowhere is = absurd is

newcomers : (limits : List Side) (desks : List Stance) → AreBlankDesks limits desks →
    AreNewcomers limits (map held_at desks)
newcomers limits desks blank = record {
  long = length-map desks held_at ∙ blank.long;
  each = λ i limit x at there.
      by_desk i limit x (slice_get desks i) refl at (sym (slice_get-map held_at desks i) ∙ there);
}
  where
    by_desk : (i : ℕ) (limit : Side) (x : Whereabouts) (desk : Option Stance) →
        slice_get desks i ≡ desk → slice_get limits i ≡ Some limit →
        option_map held_at desk ≡ Some x → IsNewcomer limit x
    by_desk i limit x None here at e = cc e
    by_desk i limit x (Some desk) here at e =
        subst (IsNewcomer limit) (same_Some (held_at desk) x e)
        (new_at (suc i) limit desk (blank.each i limit desk at here))

begins_held : (limits : List Side) (boards : ℕ) (k : Configuration) → Begins limits boards k →
    Good k.held (fresh limits boards)
begins_held limits boards k begins =
    begins_good limits boards k.held
    (subst (AreNewcomers limits) (sym begins.users) (newcomers limits begins.desks begins.blank))
    begins.idle begins.none_cached

pub begins_at_fresh : BeginsAtFresh
begins_at_fresh limits boards k begins =
    let n = length limits in
    let good = begins_held limits boards k begins in
    let word : (row : ℕ) → slice_index k.table.words row ≡ 0 =
    (λ row. ap (λ (t : Shared). slice_index t.words row) begins.table ∙
    zeros_at n n row) in record {
      said = record {
        rule = subst (Rule n) (sym begins.table) (opens n);
        long = good.users_long ∙ length-map limits newcomer;
        says = λ row x at. at_rest_says k row
            (machine_of (user (map newcomer limits) (suc row))) x
            (user (map newcomer limits) (suc row)).stage (new_stage limits (suc row))
            (good.users (suc row) x at) (word row);
      };
      good = good;
      awaited = λ j row asked at. absurd (no_desk_yet j row asked
          (subst (λ (t : Shared). At t.views j (Waits row asked)) begins.table at));
    }
