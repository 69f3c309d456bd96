-- An action that is one event.
use Rattle.std.proofs.Common.{◌≡◌, ◌∙◌, ℕ, zero, suc, ◌<◌, ◌≤◌, Bool, true, cond, List, [], ◌∷◌, length, Option, Some, None}
use Rattle.std.proofs.Common.{sym, refl, ap, subst, arith}
use Rattle.std.specs.List.{slice_get}
use Rattle.cam6_commands.specs.declared.events.Event.{Event}
use Rattle.cam6_commands.specs.declared.outcomes.Outcome.{Outcome}
use Rattle.cam6_commands.specs.declared.refused.Refused.{Refused}
use Rattle.cam6_core.specs.Goes.{Goes, Obeys, Takes}
use Rattle.cam6_core.specs.Good.{Good}
use Rattle.cam6_core.specs.Headline.{asked_by, given_to}
use Rattle.cam6_core.specs.Model.{User, Seat, Model, user, or_nobody, seat, or_none, transition}
use Rattle.cam6_core.specs.Refusals.{standing, refusal}
use Rattle.cam6_core.specs.Runs.{accepted, after_one}
use Rattle.cam6_core.specs.State.{State}
use Rattle.cam6_core.proofs.Chains.{one_goes}
use Rattle.cam6_handoff_laws.specs.Configurations.{Configuration, IsSaid, IsAtModel}
use Rattle.cam6_handoff_laws.specs.Executions.{AreEvents}
use Rattle.cam6_handoff_laws.specs.Steps.{HasUser, HasSeat}
use Rattle.cam6_handoff_laws.proofs.Awaited.{AreAwaited}
use Rattle.cam6_handoff_laws.proofs.Events.{one_event}

-- an event that isn't refused
pub goes_on : (s t : State) (e : Event) (r : Outcome) → refusal (standing s) e ≡ None →
    Takes s e r t → Goes s e r t
goes_on s t e r free takes =
    subst (λ (o : Option Refused). Obeys o s e r t) (sym free) takes

-- the model has a user for each of the core's, and a board
module _ (s : State) (a : Model) (good : Good s a) where
  pub has_user : (row : ℕ) → suc row ≤ length s.users → HasUser a (suc row) (user a.users (suc row))
  has_user row small = at a.users row (omega (arith, small, good.users_long))
    where
      at : (us : List User) (i : ℕ) → i < length us → slice_get us i ≡ Some (or_nobody (slice_get us i))
      at [] i small = absurd (omega (arith, small))
      at (p ∷ us) zero small = refl
      at (p ∷ us) (suc i) small = at us i (omega (arith, small))

  pub has_seat : (b : ℕ) → b < length s.boards → HasSeat a b (seat a.boards b)
  has_seat b small = at a.boards b (omega (arith, small, good.boards_long))
    where
      at : (bs : List Seat) (i : ℕ) → i < length bs → slice_get bs i ≡ Some (or_none (slice_get bs i))
      at [] i small = absurd (omega (arith, small))
      at (t ∷ bs) zero small = refl
      at (t ∷ bs) (suc i) small = at bs i (omega (arith, small))

-- threads that were where the model is do what is one event, by which the model comes to m
pub by_event : (users : ℕ) (k next : Configuration) (a m : Model) (e : Event) (r : Outcome) →
    IsAtModel users k a → Goes k.held e r next.held → accepted r ≡ true → (transition a e).0 ≡ m →
    IsSaid users next → AreAwaited next.table.views m.users →
    AreEvents users a (e ∷ []) (r ∷ []) (λ u. asked_by u e r) (λ u. given_to u e r) next
by_event users k next a m e r at goes ok leads said awaited =
    let one = one_goes k.held e next.held a at.good r goes in
    let is : after_one a e r ≡ m = ap (λ (b : Bool). cond b (transition a e).0 a) ok ∙ leads in
    one_event users a e r next one.0
    (subst (IsAtModel users next) (sym is)
    (record { said = said; good = subst (Good next.held) is one.1; awaited = awaited }))
