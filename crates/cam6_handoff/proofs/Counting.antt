-- Desks and seats, one more after the others.
use Rattle.std.proofs.Common.{◌≡◌, ◌∙◌, ◌<◌, ◌+◌, ◌++◌, inl, inr, ℕ, suc, List, [], ◌∷◌}
use Rattle.std.proofs.Common.{length, Some, sym, ap, subst, arith, get_or}
use Rattle.std.specs.List.{slice_get}
use Rattle.std.proofs.lemmas.List.{length-append}
use Rattle.std.proofs.lemmas.Option.{same_Some, slice_get-get_or}
use Rattle.cam6_planes.specs.declared.sides.Side.{Side}
use Rattle.cam6_station.proofs.Lists.{last_or_before}
use Rattle.cam6_handoff.specs.Boot.{AreBlankDesksTo, AreIdleSeats, IsSeatOf}
use Rattle.cam6_handoff.specs.Desks.{IsBlankDesk}
use Rattle.cam6_handoff.specs.Holding.{BoardStance}
use Rattle.cam6_handoff.specs.Standing.{Stance}

pub one_more_desk : (n : ℕ) (limits : List Side) (desks : List Stance) (desk : Stance)
    (d : Side) → AreBlankDesksTo n limits desks → n < length limits →
    IsBlankDesk (n + 1) (get_or limits n d) desk →
    AreBlankDesksTo (n + 1) limits (desks ++ desk ∷ [])
one_more_desk n limits desks desk d made some new = record {
  long = omega (arith, length-append desks (desk ∷ []), made.long);
  each = λ i limit x at there. elim (last_or_before desks desk i x there) [
    | inl before ↦ made.each i limit x at before
    | inr last ↦
        let here : slice_get limits n ≡ Some limit =
        ap (slice_get limits) (sym (last.0 ∙ made.long)) ∙ at in
        let same : get_or limits n d ≡ limit =
        same_Some (get_or limits n d) limit (sym (slice_get-get_or limits n d some) ∙ here) in
        let user : n + 1 ≡ suc i = omega (arith, last.0, made.long) in
        subst (IsBlankDesk (suc i) limit) last.1
        (subst (λ (l : Side). IsBlankDesk (suc i) l desk) same
        (subst (λ (k : ℕ). IsBlankDesk k (get_or limits n d) desk) user new))
  ];
}

pub one_more_seat : (n users : ℕ) (seats : List BoardStance) (seat : BoardStance) →
    AreIdleSeats n users seats → IsSeatOf n users seat → AreIdleSeats (n + 1) users
    (seats ++ seat ∷ [])
one_more_seat n users seats seat made new = record {
  long = omega (arith, length-append seats (seat ∷ []), made.long);
  each = λ i x there. elim (last_or_before seats seat i x there) [
    | inl before ↦ made.each i x before
    | inr last ↦
        subst (λ k. IsSeatOf k users x) (sym (last.0 ∙ made.long))
        (subst (IsSeatOf n users) last.1 new)
  ];
}
