-- Seats that hold nothing, one after another.
use Rattle.std.proofs.Common.{◌≡◌, suc, List, ◌∷◌, refl, subst}
use Rattle.cam6_handoff.specs.Holding.{BoardStance, IsIdle, AreIdle}

module _ (seats : List BoardStance) (first : BoardStance) (rest : List BoardStance)
    (are : seats ≡ first ∷ rest) (idle : AreIdle seats) where
  pub first_idle : IsIdle first
  first_idle = subst AreIdle are idle 0 first refl

  pub rest_idle : AreIdle rest
  rest_idle i seat at = subst AreIdle are idle (suc i) seat at
