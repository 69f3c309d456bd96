-- What the places of desks have before and after a change of one.
use Rattle.std.proofs.Common.{◌≡◌, ◌<◌, ◌≤◌, ℕ, zero, suc, List, [], ◌∷◌, length, slice_get, slice_set}
use Rattle.std.proofs.Common.{map, get_or, ok_or, Option, Some, None, Result, Ok, Err, true, false}
use Rattle.std.proofs.Common.{◌⊎◌, inl, inr, subst, refl, sym, ap, ◌∙◌}
use Rattle.std.proofs.lemmas.Bool.{cases_lt}
use Rattle.std.proofs.lemmas.Option.{slice_get_past, slice_get_read}
use Rattle.cam6_handoff.specs.Standing.{Stance, standing, waiting, nowhere, IsDeskOf}
use Rattle.cam6_wire.specs.declared.seats.Seating.{Seating}
use Rattle.cam6_wire.specs.declared.seats.Seating.TheVariants.{Taken}
use Rattle.cam6_server.specs.Places.{AreAtTheirPlaces, AreOwnDesks, GivesBack, IsFreeDeskOf}
use Rattle.cam6_server.specs.Places.{Takes, place_of, with_user}

-- nothing is changed by what is there already
pub set_same : {A : Type 0} (xs : List A) (n : ℕ) (x : A) → slice_get xs n ≡ Some x →
    slice_set xs n x ≡ xs
set_same [] n x is = refl
set_same (y ∷ ys) zero x is = let same : y ≡ x = cc in ap (λ z. z ∷ ys) (sym same)
set_same (y ∷ ys) (suc n) x is = ap (λ zs. y ∷ zs) (set_same ys n x is)

-- a place that isn't found is past the end
pub none_past : {A : Type 0} (xs : List A) (long n : ℕ) → long ≡ length xs →
    (n < long → false ≡ true) → slice_get xs n ≡ None
none_past xs long n is within = by_cases (cases_lt n (length xs))
  where
    by_cases : (n < length xs) ⊎ (length xs ≤ n) → slice_get xs n ≡ None
    by_cases (inl less) = absurd (cc (within (subst (λ k. n < k) (sym is) less)))
    by_cases (inr past) = slice_get_past xs n past

-- one that is found is in the list
pub some_there : {A : Type 0} (xs : List A) (long n : ℕ) (x : A) → long ≡ length xs → n < long →
    x ≡ get_or xs n x → slice_get xs n ≡ Some x
some_there xs long n x is within same = slice_get_read xs long n x is within same

-- the place of a user that is past the end
pub no_place : (places : List (Option Stance)) (user n : ℕ) → user ≡ suc n →
    slice_get places n ≡ None → place_of places user ≡ None
no_place places user n is none = ap (place_of places) is ∙ none

by_place : (places : List (Option Stance)) (user n : ℕ) (place : Option Stance) →
    AreAtTheirPlaces places → user ≡ suc n → slice_get places n ≡ Some place →
    Takes places user (ok_or place Taken) (slice_set places n None)
by_place places user n (Some desk) are is there = record {
  there = ap (place_of places) is ∙ there;
  free = subst (λ u. IsFreeDeskOf u desk) (sym is) (are n desk there);
  gone = sym (ap (λ u. with_user places u None) is);
}
by_place places user n None are is there =
    (ap (place_of places) is ∙ there, set_same places n None there)

-- what was there is taken, if it was a desk
pub takes : (places : List (Option Stance)) (user n : ℕ) (place after : Option Stance)
    (result : Result Stance Seating) → AreAtTheirPlaces places → user ≡ suc n →
    slice_get places n ≡ Some place → result ≡ ok_or place Taken → after ≡ None →
    Takes places user result (slice_set places n after)
takes places user n place after result are is there same none =
    subst (λ (o : Option Stance). Takes places user result (slice_set places n o)) (sym none)
    (subst (λ (r : Result Stance Seating). Takes places user r (slice_set places n None)) (sym same)
    (by_place places user n place are is there))

-- what is found after a change was there before, or is what was put
found : {A : Type 0} (xs : List A) (n i : ℕ) (x y : A) → slice_get (slice_set xs n x) i ≡ Some y →
    (slice_get xs i ≡ Some y) ⊎ ((i ≡ n) × (x ≡ y))
found [] n i x y is = inl is
found (z ∷ zs) zero zero x y is = inr (refl, cc)
found (z ∷ zs) zero (suc i) x y is = inl is
found (z ∷ zs) (suc n) zero x y is = inl is
found (z ∷ zs) (suc n) (suc i) x y is = by_cases (found zs n i x y is)
  where
    by_cases : (slice_get zs i ≡ Some y) ⊎ ((i ≡ n) × (x ≡ y)) →
        (slice_get zs i ≡ Some y) ⊎ ((suc i ≡ suc n) × (x ≡ y))
    by_cases (inl was) = inl was
    by_cases (inr put) = inr (ap suc put.0, put.1)

-- a place that is left empty changes no other
pub one_gone : (places : List (Option Stance)) (n : ℕ) → AreAtTheirPlaces places →
    AreAtTheirPlaces (slice_set places n None)
one_gone places n are i desk at = by_cases (found places n i None (Some desk) at)
  where
    by_cases : (slice_get places i ≡ Some (Some desk)) ⊎ ((i ≡ n) × (None ≡ Some desk)) →
        IsFreeDeskOf (suc i) desk
    by_cases (inl was) = are i desk was
    by_cases (inr put) = absurd (cc put.1)

-- nor does one at which its user's desk is put
pub one_back : (places : List (Option Stance)) (n : ℕ) (new : Stance) → AreAtTheirPlaces places →
    IsFreeDeskOf (suc n) new → AreAtTheirPlaces (slice_set places n (Some new))
one_back places n new are free i desk at = by_cases (found places n i (Some new) (Some desk) at)
  where
    by_cases : (slice_get places i ≡ Some (Some desk)) ⊎ ((i ≡ n) × (Some new ≡ Some desk)) →
        IsFreeDeskOf (suc i) desk
    by_cases (inl was) = are i desk was
    by_cases (inr put) =
        let same : new ≡ desk = cc in
        subst (λ (d : Stance). IsFreeDeskOf (suc i) d) same
        (subst (λ k. IsFreeDeskOf (suc k) new) (sym put.0) free)

-- a desk at each place
there : (desks : List Stance) (i : ℕ) (desk : Stance) → slice_get (map Some desks) i ≡ Some (Some desk) →
    slice_get desks i ≡ Some desk
there [] i desk at = absurd (cc at)
there (d ∷ ds) zero desk at = cc
there (d ∷ ds) (suc i) desk at = there ds i desk at

pub all_there : (desks : List Stance) → AreOwnDesks desks → AreAtTheirPlaces (map Some desks)
all_there desks own i desk at = own i desk (there desks i desk at)

-- a desk is one user's
one_user : (u v : ℕ) (desk : Stance) → IsDeskOf u desk → IsDeskOf v desk → u ≡ v
one_user u v (standing w m) first second = sym first ∙ second
one_user u v (waiting w asked) first second = sym first ∙ second
one_user u v nowhere first second = absurd first

-- so what is at that user's place is given back
pub given_back : (old : List (Option Stance)) (user : ℕ) (desk : Stance)
    (new : List (Option Stance)) → IsDeskOf user desk → new ≡ with_user old user (Some desk) →
    GivesBack old desk new
given_back old user desk new own is u its =
    is ∙ ap (λ v. with_user old v (Some desk)) (one_user user u desk own its)
