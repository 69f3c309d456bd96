-- What a first line is refused by.
use Rattle.std.proofs.Common.{◌≡◌, ◌≢◌, ℕ, List, [], ◌∷◌, ◌++◌, Option, Some, None, IfSome}
use Rattle.std.proofs.Common.{Result, Ok, Err, inl, inr, refl, subst}
use Rattle.cam6_wire.specs.Commands.{IsFaultOf}
use Rattle.cam6_wire.specs.Replies.{fault_bytes}
use Rattle.cam6_wire.specs.Seats.{seating_bytes}
use Rattle.cam6_wire.specs.declared.faults.LineFault.{LineFault}
use Rattle.cam6_wire.specs.declared.faults.LineFault.TheVariants.{NoMemory, TooLong, NoJson}
use Rattle.cam6_wire.specs.declared.faults.LineFault.TheVariants.{NoCommand, OtherSpelling}
use Rattle.cam6_wire.specs.declared.seats.Seating.{Seating}
use Rattle.cam6_wire.specs.declared.seats.Seating.TheVariants.{Seated, Taken, NoUser}
use Rattle.cam6_server.specs.Connections.{AnswersOnly, Converses, FirstSays, IsFirst, IsRefusal}
use Rattle.cam6_server.specs.Connections.{IsRefused, Went}
use Rattle.cam6_server.specs.Places.{Takes}
use Rattle.cam6_handoff.specs.Standing.{Stance}
use Rattle.cam6_server.specs.declared.connections.Visit.{Visit}
use Rattle.cam6_server.specs.declared.connections.Visit.TheVariants.{Silent, Refused, Unheard, Served}

fault_is : (fault : LineFault) (said : Result ℕ LineFault) → fault ≢ NoMemory →
    IsFaultOf fault said → said ≡ Err fault
fault_is NoMemory said told is = absurd (told refl)
fault_is TooLong said told is = is
fault_is NoJson said told is = is
fault_is NoCommand said told is = is
fault_is OtherSpelling said told is = is

-- a place from which nothing is taken never tells that its seat is had
pub not_seated : (old new : List (Option Stance)) (user : ℕ) (seating : Seating) →
    Takes old user (Err seating) new → seating ≢ Seated
not_seated old new user Seated takes is = absurd takes
not_seated old new user Taken takes is = cc
not_seated old new user NoUser takes is = cc

-- the first line of a reader's bytes is refused by this
abbrev IsRefusedBy : List ℕ → Option (List ℕ) → Type 0
IsRefusedBy answer read =
    IfSome read (λ all. (line unread : List ℕ) × IsFirst all line unread × IsRefusal line answer)

pub by_fault : (fault : LineFault) (read remaining : Option (List ℕ)) → fault ≢ NoMemory →
    FirstSays (Err fault) read remaining → IsRefusedBy (fault_bytes fault ++ 10 ∷ []) read
by_fault fault None remaining told says = tt
by_fault fault (Some all) remaining told (line, unread, first, left, said) =
    (line, unread, first, inl (fault, fault_is fault _ told said, refl))

pub by_seating : (user : ℕ) (seating : Seating) (read remaining : Option (List ℕ)) →
    seating ≢ Seated → FirstSays (Ok user) read remaining →
    IsRefusedBy (seating_bytes seating ++ 10 ∷ []) read
by_seating user seating None remaining refused says = tt
by_seating user seating (Some all) remaining refused (line, unread, first, left, said) =
    (line, unread, first, inr (user, seating, said, refused, refl))

-- the same as by how it went
told : (visit : Visit) (all : List ℕ) (remaining : Option (List ℕ)) (out : List ℕ)
    (new : Option (List ℕ)) → IsRefused visit all out new → Went visit all remaining out new
told (Silent end) all remaining out new (line, unread, answer, first, refusal, none) = absurd none
told Refused all remaining out new refused = refused
told Unheard all remaining out new refused = inl refused
told (Served end) all remaining out new (line, unread, answer, first, refusal, none) = absurd none

went : (visit : Visit) (answer : List ℕ) (read remaining old new : Option (List ℕ)) →
    IsRefusedBy answer read → AnswersOnly visit answer old new →
    Converses visit read remaining old new
went visit answer None remaining old new is written = tt
went visit answer (Some all) remaining None new is written = tt
went visit answer (Some all) remaining (Some out) new (line, unread, first, refusal) written =
    told visit all remaining out new (line, unread, answer, first, refusal, written)

-- what is refused, and answered so
pub refused : (visit : Visit) (text answer : List ℕ) (read remaining old new : Option (List ℕ)) →
    text ≡ answer → IsRefusedBy answer read → AnswersOnly visit text old new →
    Converses visit read remaining old new
refused visit text answer read remaining old new same by written =
    went visit answer read remaining old new by
    (subst (λ (bytes : List ℕ). AnswersOnly visit bytes old new) same written)
