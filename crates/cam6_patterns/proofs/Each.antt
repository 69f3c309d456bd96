-- What holds of each element, element by element.
use Rattle.std.proofs.Common.{ℕ, List, [], ◌∷◌, ◌++◌, zero, suc, replicate}
use Rattle.std.specs.List.{AllByRecursion}

pub each_append : {X : Type 0} (P : X → Type 0) (xs ys : List X) → AllByRecursion P xs
    → AllByRecursion P ys → AllByRecursion P (xs ++ ys)
each_append P [] ys here there = there
each_append P (x ∷ xs) ys here there = (here.0, each_append P xs ys here.1 there)

pub each_replicate : {X : Type 0} (P : X → Type 0) (n : ℕ) (x : X) → P x
    → AllByRecursion P (replicate n x)
each_replicate P zero x one = tt
each_replicate P (suc n) x one = (one, each_replicate P n x one)

pub each_more : {X : Type 0} (P Q : X → Type 0) → ((x : X) → P x → Q x) → (xs : List X)
    → AllByRecursion P xs → AllByRecursion Q xs
each_more P Q gives [] all = tt
each_more P Q gives (x ∷ xs) all = (gives x all.0, each_more P Q gives xs all.1)
