-- What a desk waits for, after one user has changed.
use Rattle.std.proofs.Common.{◌≡◌, ◌≢◌, ◌∙◌, ℕ, suc, ⊎_elim, List, length, set, sym}
use Rattle.std.proofs.Common.{ap, subst, arith}
use mathlib.Core.Logic.{dite}
use native.Mathlib.Decide.{ℕ_discrete}
use Rattle.atomic_table.proofs.Lists.{at_set}
use Rattle.cam6_slot.specs.Parking.{StoredQueued}
use Rattle.cam6_core.specs.Model.{User, user, machine_of}
use Rattle.cam6_core.specs.State.{with_number, IsNumber}
use Rattle.cam6_core.proofs.Frames.{user_here, user_else}
use Rattle.cam6_handoff.specs.Rule.{At}
use Rattle.cam6_handoff.specs.declared.rule.View.{View}
use Rattle.cam6_handoff.specs.declared.rule.View.TheVariants.{Waits}
use Rattle.cam6_handoff_laws.specs.Configurations.{command_at, IsAwaited}

-- what each desk waits for, by these views, is what these users wait for
abbrev pub AreAwaited : List View → List User → Type 0
AreAwaited views us = (seat row : ℕ) (asked : StoredQueued) → At views seat (Waits row asked) →
    IsAwaited asked (user us (suc row))

-- a user with the same machine and command waits for the same
pub same_awaited : (asked : StoredQueued) (p q : User) → machine_of q ≡ machine_of p →
    command_at q.stage ≡ command_at p.stage → IsAwaited asked p → IsAwaited asked q
same_awaited asked p q machine command is =
    record { machine = is.machine ∙ sym machine; command = is.command ∙ sym command }

-- so do all if one user changes so
pub restaged_awaited : (views : List View) (us : List User) (u : ℕ) (y : User) →
    IsNumber (length us) u → machine_of y ≡ machine_of (user us u) →
    command_at y.stage ≡ command_at (user us u).stage → AreAwaited views us →
    AreAwaited views (with_number us u y)
restaged_awaited views us u y is machine command are seat row asked at =
    dite (ℕ_discrete (suc row) u)
    (λ same.
    let here : y ≡ user (with_number us u y) (suc row) =
    sym (ap (user (with_number us u y)) same ∙ user_here us u y is) in
    subst (IsAwaited asked) here
    (same_awaited asked (user us u) y machine command
    (subst (λ (i : ℕ). IsAwaited asked (user us i)) same (are seat row asked at))))
    (λ apart. subst (IsAwaited asked) (sym (user_else us u (suc row) y apart))
    (are seat row asked at))

-- one view changes, and is no desk's that waits
pub view_awaited : (views : List View) (us : List User) (seat : ℕ) (view : View) →
    ((row : ℕ) (asked : StoredQueued) → view ≡ Waits row asked → ⊥) → AreAwaited views us →
    AreAwaited (set views seat view) us
view_awaited views us seat view nay are j row asked at =
    ⊎_elim (λ t. absurd (nay row asked t.1)) (λ t. are j row asked t.1)
    (at_set views seat j view (Waits row asked) at)

-- one user changes at whose desk, but for one seat, nobody waits
pub other_awaited : (views : List View) (us : List User) (row seat : ℕ) (view : View) (y : User) →
    IsNumber (length us) (suc row) →
    ((j : ℕ) (asked : StoredQueued) → j ≢ seat → At views j (Waits row asked) → ⊥) →
    ((r : ℕ) (asked : StoredQueued) → view ≡ Waits r asked →
    IsAwaited asked (user (with_number us (suc row) y) (suc r))) → AreAwaited views us →
    AreAwaited (set views seat view) (with_number us (suc row) y)
other_awaited views us row seat view y is nay new are j r asked at =
    ⊎_elim (λ t. new r asked t.1)
    (λ t. dite (ℕ_discrete r row)
    (λ same. absurd (nay j asked t.0
    (subst (λ (i : ℕ). At views j (Waits i asked)) same t.1)))
    (λ apart. subst (IsAwaited asked)
    (sym (user_else us (suc row) (suc r) y (λ e. apart (omega (arith, e)))))
    (are j r asked t.1)))
    (at_set views seat j view (Waits r asked) at)
