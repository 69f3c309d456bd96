-- Writes one after another make one front.
use Rattle.std.proofs.Common.{◌≡◌, [], ◌++◌, ℕ, List, Option, subst, sym, ap, ◌∙◌, refl}
use Rattle.std.proofs.Common.{append-nil, append_assoc, Result, Ok, Err}
use Rattle.std.specs.Prelude.{IsErr}
use Rattle.std.proofs.KnownBytes.{Appends-trans, Appends-nil}
use Rattle.std.specs.Io.KnownBytes.{Appends}
use Rattle.cam6_writing.specs.Front.{WritesSome}
use Rattle.cam6_show_frames.specs.Front.{WritesFront}
use Rattle.cam6_show_frames.specs.declared.showing.Unshown.{Unshown}

-- of these bytes all but a rest have been written
pub record Written (old new : Option (List ℕ)) (bytes rest : List ℕ) : Type 0 where
  pub part : List ℕ
  pub whole : bytes ≡ part ++ rest
  pub appends : Appends old new part

-- nothing was written yet
pub nothing_written : (old : Option (List ℕ)) (bytes : List ℕ) → Written old old bytes bytes
nothing_written old bytes = record { part = []; whole = refl; appends = Appends-nil old }

module _ (old now : Option (List ℕ)) (bytes more rest left : List ℕ)
    (before : Written old now bytes left) (is : left ≡ more ++ rest) where
  -- more was written
  pub more_written : (new : Option (List ℕ)) → Appends now new more → Written old new bytes rest
  more_written new appends = record {
    part = before.part ++ more;
    whole = before.whole ∙ ap (λ l. before.part ++ l) is
        ∙ sym (append_assoc before.part more rest);
    appends = Appends-trans old now new before.part more before.appends appends;
  }

  -- or some of it
  pub some_written : (new : Option (List ℕ)) → WritesSome now new more → WritesSome old new bytes
  some_written new some = (
    before.part ++ some.0,
    some.1 ++ rest,
    before.whole ∙ ap (λ l. before.part ++ l) (is ∙ ap (λ l. l ++ rest) some.2)
        ∙ ap (λ l. before.part ++ l) (append_assoc some.0 some.1 rest)
        ∙ sym (append_assoc before.part some.0 (some.1 ++ rest)),
    Appends-trans old now new before.part some.0 before.appends some.3,
  )

-- where it failed, some front was written
pub front_at_fault : (old new : Option (List ℕ)) (bytes : List ℕ)
    (result : Result (Unit {0}) Unshown) → IsErr result → WritesSome old new bytes
    → WritesFront result old new bytes
front_at_fault old new bytes (Ok done) failed front = let never : ⊥ = cc in absurd never
front_at_fault old new bytes (Err fault) failed front = front

-- all was written
pub all_written : (old new : Option (List ℕ)) (bytes rest : List ℕ) → Written old new bytes rest
    → rest ≡ [] → Appends old new bytes
all_written old new bytes rest before none =
    subst (λ l. Appends old new l)
    (sym (before.whole ∙ ap (λ l. before.part ++ l) none ∙ append-nil before.part)) before.appends
