-- What holds of a value that is there after some steps, if there is one.
use Rattle.std.proofs.Common.{◌≡◌, Bool, true, false, cond, Option, Some, None, IfSome}
use Rattle.std.proofs.Common.{option_map, option_and_then, refl, subst}
use Rattle.cam6_wire.specs.Fields.{◌>>=◌}

-- what holds of the value that a step gives
pub of_map : {A B : Type 0} (P : A → Type 0) (Q : B → Type 0) (f : A → B) →
    ((a : A) → P a → Q (f a)) → (o : Option A) → IfSome o P → IfSome (option_map f o) Q
of_map P Q f holds None given = tt
of_map P Q f holds (Some a) given = holds a given

pub of_step : {A B : Type 0} (P : A → Type 0) (Q : B → Type 0) (f : A → Option B) →
    ((a : A) → P a → IfSome (f a) Q) → (o : Option A) → IfSome o P →
    IfSome (option_and_then f o) Q
of_step P Q f holds None given = tt
of_step P Q f holds (Some a) given = holds a given

-- the value that is there has what holds of it
pub of_value : {A : Type 0} (P : A → Type 0) (o : Option A) (a : A) → IfSome o P → o ≡ Some a → P a
of_value P o a given is = subst (λ x. IfSome x P) is given

pub of_test : {A : Type 0} (P : A → Type 0) (b : Bool) (x y : Option A) → (b ≡ true → IfSome x P) →
    IfSome y P → IfSome (cond b x y) P
of_test P true x y here there = here refl
of_test P false x y here there = there

-- three steps that don't wait for one another
pub of_three : {A B C D : Type 0} (P : A → Type 0) (Q : B → Type 0) (R : C → Type 0)
    (S : D → Type 0) (make : A → B → C → D) →
    ((a : A) (b : B) (c : C) → P a → Q b → R c → S (make a b c)) →
    (x : Option A) (y : Option B) (z : Option C) → IfSome x P → IfSome y Q → IfSome z R →
    IfSome (x >>= λ a. y >>= λ b. z >>= λ c. Some (make a b c)) S
of_three P Q R S make holds None y z p q r = tt
of_three P Q R S make holds (Some a) None z p q r = tt
of_three P Q R S make holds (Some a) (Some b) None p q r = tt
of_three P Q R S make holds (Some a) (Some b) (Some c) p q r = holds a b c p q r

-- and of two
pub of_two : {A B C : Type 0} (P : A → Type 0) (Q : B → Type 0) (R : C → Type 0)
    (make : A → B → C) → ((a : A) (b : B) → P a → Q b → R (make a b)) →
    (x : Option A) (y : Option B) → IfSome x P → IfSome y Q →
    IfSome (x >>= λ a. y >>= λ b. Some (make a b)) R
of_two P Q R make holds None y p q = tt
of_two P Q R make holds (Some a) None p q = tt
of_two P Q R make holds (Some a) (Some b) p q = holds a b p q

-- and four
pub of_four : {A B C D E : Type 0} (P : A → Type 0) (Q : B → Type 0) (R : C → Type 0)
    (S : D → Type 0) (T : E → Type 0) (make : A → B → C → D → E) →
    ((a : A) (b : B) (c : C) (d : D) → P a → Q b → R c → S d → T (make a b c d)) →
    (x : Option A) (y : Option B) (z : Option C) (w : Option D) →
    IfSome x P → IfSome y Q → IfSome z R → IfSome w S →
    IfSome (x >>= λ a. y >>= λ b. z >>= λ c. w >>= λ d. Some (make a b c d)) T
of_four P Q R S T make holds None y z w p q r s = tt
of_four P Q R S T make holds (Some a) None z w p q r s = tt
of_four P Q R S T make holds (Some a) (Some b) None w p q r s = tt
of_four P Q R S T make holds (Some a) (Some b) (Some c) None p q r s = tt
of_four P Q R S T make holds (Some a) (Some b) (Some c) (Some d) p q r s = holds a b c d p q r s
