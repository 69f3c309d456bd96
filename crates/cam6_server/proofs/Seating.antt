-- What is written for a first line that asks for a seat and gets it.
use Rattle.std.proofs.Common.{◌≡◌, ℕ, List, Option, Some, None, Ok, inl, inr}
use Rattle.std.proofs.Common.{subst}
use Rattle.cam6_handoff.specs.Standing.{Stance, IsDeskOf}
use Rattle.cam6_session.specs.Desks.{machine_at}
use Rattle.cam6_wire.specs.Seats.{seat}
use Rattle.cam6_server.specs.Connections.{Converses, FirstSays, IsFirst, Sits, SitsDown, SitsDownAt}
use Rattle.cam6_server.specs.Connections.{Went}
use Rattle.cam6_server.specs.declared.connections.Visit.{Visit}
use Rattle.cam6_server.specs.declared.connections.Visit.TheVariants.{Silent, Refused, Unheard, Served}

-- by how it went
went : (visit : Visit) (all line unread out : List ℕ) (user : ℕ) (remaining new : Option (List ℕ))
    (d e : Stance) → IsFirst all line unread → seat line ≡ Ok user → IsDeskOf user d →
    IsDeskOf user e → Sits visit unread remaining out new (machine_at d) (machine_at e) →
    Went visit all remaining out new
went (Silent end) all line unread out user remaining new d e first asks own still sits =
    absurd sits
went Refused all line unread out user remaining new d e first asks own still sits = absurd sits
went Unheard all line unread out user remaining new d e first asks own still sits =
    inr (line, unread, user, first, asks, (d, e, own, still, sits))
went (Served end) all line unread out user remaining new d e first asks own still sits =
    (line, unread, user, first, asks, (d, e, own, still, sits))

-- the lines that are read then are those after the first one
pub seated : (visit : Visit) (user : ℕ) (d : Stance)
    (read after remaining old new : Option (List ℕ)) → IsDeskOf user d →
    FirstSays (Ok user) read after → SitsDownAt user d visit after remaining old new →
    Converses visit read remaining old new
seated visit user d None after remaining old new own says sits = tt
seated visit user d (Some all) after remaining None new own says sits = tt
seated visit user d (Some all) after remaining (Some out) new own
    (line, unread, first, inr long, asks) sits =
    let never : ⊥ = cc in absurd never
seated visit user d (Some all) after remaining (Some out) new own
    (line, unread, first, inl left, asks) (e, still, sits) =
    went visit all line unread out user remaining new d e first asks own still
    (subst (λ (b : Option (List ℕ)). SitsDown visit b remaining (Some out) new (machine_at d) (machine_at e))
    left sits)
