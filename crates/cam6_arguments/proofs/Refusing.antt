-- Refused arguments, by the kind of clap's error, or where they ask for nothing.
use Rattle.std.proofs.Common.{◌≡◌, ◌⊎◌, [], inl, inr}
use Rattle.clap.specs.Words.{HasKind, Kinds, kind_of}
use Rattle.clap.specs.declared.error.Error.{Error}
use Rattle.cam6_arguments.specs.Refusals.{IsOfKind, IsRefusal, Refuses}
use Rattle.cam6_arguments.specs.declared.refusals.Refused.{Refused}
use Rattle.cam6_arguments.specs.declared.refusals.Refused.TheVariants.{Help, Words, NoMemory}

module _ (nothing : Type 0) where
  -- an error of clap's is refused by its kind
  pub refused_by_kind : (kinds : Kinds) (refused : Refused) (e : Error) → HasKind kinds e
      → IsOfKind refused (kind_of e) → Refuses kinds nothing refused
  refused_by_kind kinds (Help text) e (inl memory) (inl is) = let never : ⊥ = cc in absurd never
  refused_by_kind kinds (Help text) e (inl memory) (inr is) = let never : ⊥ = cc in absurd never
  refused_by_kind kinds (Help text) e (inr among) is = (kind_of e, among, is)
  refused_by_kind kinds (Words text) e (inl memory) is = absurd (is.1 memory)
  refused_by_kind kinds (Words text) e (inr among) is = inl (kind_of e, among, is.0, is.1)
  refused_by_kind kinds NoMemory e has is = tt

  -- arguments that clap takes and that ask for nothing are refused
  pub refused_unsaid : (kinds : Kinds) (refused : Refused) → kinds ≡ [] → IsRefusal refused
      → nothing ⊎ (refused ≡ NoMemory) → Refuses kinds nothing refused
  refused_unsaid kinds (Help text) taken is why = absurd is
  refused_unsaid kinds (Words text) taken is (inl none) = inr (taken, none)
  refused_unsaid kinds (Words text) taken is (inr never) = let none : ⊥ = cc in absurd none
  refused_unsaid kinds NoMemory taken is why = tt
