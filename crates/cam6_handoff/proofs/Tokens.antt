-- What a board's seat has in the table, where it says that it holds something.
use Rattle.std.proofs.Common.{◌≡◌, ◌∙◌, ℕ, ◌<◌, [], ◌∷◌, Option, Some, None, sym, ap, subst}
use Rattle.cam6_commands.specs.declared.commands.Command.{Command}
use Rattle.cam6_model.specs.Machine.{Machine}
use Rattle.cam6_slot.specs.Finished.{StoredFinished, IsDone}
use Rattle.cam6_slot.specs.Parking.{StoredQueued}
use Rattle.cam6_slot.specs.Stands.{Stands}
use Rattle.cam6_handoff.specs.declared.rule.View.TheVariants.{Holds}
use Rattle.cam6_handoff.specs.Rule.{Seated}
use Rattle.cam6_handoff.specs.Holding.{Holding}
use Rattle.cam6_handoff.specs.Seats.{Accepts, AcceptsDone}
use Rattle.cam6_handoff.specs.Internal.Tokens.{holds_at, TakenToken}

pub held : (n b u : ℕ) (t r : Option ℕ) (me : Seated) → TakenToken n b t me → r ≡ t → r ≡ Some u →
    (u < n) × ((q : StoredQueued) × (me ≡ (Holds b u q, (u, None) ∷ [])))
held n b u t r me token is some =
    subst (λ (z : Option ℕ). TakenToken n b z me) (sym is ∙ some) token

-- what the seat accepts, at the view that it has
pub accepts_at : (u : ℕ) (h : Holding) (x : StoredQueued) (me : Seated) → h ≡ holds_at me.0 →
    Accepts h x → (b : ℕ) (q : StoredQueued) → me ≡ (Holds b u q, (u, None) ∷ []) →
    (m : Machine) (c : Command) → Stands q m c → Stands x m c
accepts_at u h x me is law b q e =
    subst (λ (z : Holding). Accepts z x) (is ∙ ap (λ (m : Seated). holds_at m.0) e) law

pub accepts_done_at : (u : ℕ) (h : Holding) (x : StoredFinished) (me : Seated) → h ≡ holds_at me.0 →
    AcceptsDone h x → (b : ℕ) (q : StoredQueued) → me ≡ (Holds b u q, (u, None) ∷ []) →
    (m : Machine) (c : Command) → Stands q m c → IsDone x m c
accepts_done_at u h x me is law b q e =
    subst (λ (z : Holding). AcceptsDone z x) (is ∙ ap (λ (m : Seated). holds_at m.0) e) law
