-- Each text of a half, a neighbourhood, a minor assignment or a grid names what it is the text of,
-- and no other text does.
use Rattle.std.proofs.Common.{◌≡◌, ℕ, Bool, true, false, List, Option, Some, IfSome, cond}
use Rattle.std.proofs.Common.{bytes_eq, refl, subst}
use Rattle.std.proofs.lemmas.Slice.Eq.{bytes_eq-Decides}
use Rattle.cam6_wiring.specs.Laws.{NamesExactly, TextsNameWhatTheyAreOf}
use Rattle.cam6_wiring.specs.Texts.{half_text, hood_text, minor_text, grid_text}
use Rattle.cam6_wiring.specs.Texts.{half_named, hood_named, minor_named, grid_named}
use Rattle.cam6_wiring.specs.declared.blocks.Grid.{Grid}
use Rattle.cam6_wiring.specs.declared.blocks.Grid.TheVariants.{Even, Odd}
use Rattle.cam6_wiring.specs.declared.names.Half.{Half}
use Rattle.cam6_wiring.specs.declared.names.Half.TheVariants.{A, B}
use Rattle.cam6_wiring.specs.declared.wirings.Hood.{Hood}
use Rattle.cam6_wiring.specs.declared.wirings.Hood.TheVariants.{Moore, VonNeumann, Margolus}
use Rattle.cam6_wiring.specs.declared.wirings.Hood.TheVariants.{MargolusPhase, MargolusHorzVert}
use Rattle.cam6_wiring.specs.declared.wirings.Minor.{Minor}
use Rattle.cam6_wiring.specs.declared.wirings.Minor.TheVariants.{Centers, Phases, HorzVert}

pub half_of_text : (half : Half) → half_named (half_text half) ≡ Some half
half_of_text A = refl
half_of_text B = refl

pub hood_of_text : (hood : Hood) → hood_named (hood_text hood) ≡ Some hood
hood_of_text Moore = refl
hood_of_text VonNeumann = refl
hood_of_text Margolus = refl
hood_of_text MargolusPhase = refl
hood_of_text MargolusHorzVert = refl

pub minor_of_text : (minor : Minor) → minor_named (minor_text minor) ≡ Some minor
minor_of_text Centers = refl
minor_of_text Phases = refl
minor_of_text HorzVert = refl

pub grid_of_text : (grid : Grid) → grid_named (grid_text grid) ≡ Some grid
grid_of_text Even = refl
grid_of_text Odd = refl

-- a text that is one of a list of names
one_of : {A : Type 0} (shown : A → List ℕ) (text : List ℕ) (a : A) (later : Option A) →
    IfSome later (λ x. text ≡ shown x) →
    IfSome (cond (bytes_eq text (shown a)) (Some a) later) (λ x. text ≡ shown x)
one_of shown text a later rest = by_test (bytes_eq text (shown a)) refl
  where
    by_test : (b : Bool) → bytes_eq text (shown a) ≡ b →
        IfSome (cond b (Some a) later) (λ x. text ≡ shown x)
    by_test true is = (bytes_eq-Decides text (shown a)).0 is
    by_test false is = rest

pub half_in : (text : List ℕ) → IfSome (half_named text) (λ half. text ≡ half_text half)
half_in text = one_of half_text text A _ (one_of half_text text B _ tt)

pub hood_in : (text : List ℕ) → IfSome (hood_named text) (λ hood. text ≡ hood_text hood)
hood_in text =
    one_of hood_text text Moore _ (one_of hood_text text VonNeumann _
    (one_of hood_text text Margolus _ (one_of hood_text text MargolusPhase _
    (one_of hood_text text MargolusHorzVert _ tt))))

pub minor_in : (text : List ℕ) → IfSome (minor_named text) (λ minor. text ≡ minor_text minor)
minor_in text =
    one_of minor_text text Centers _ (one_of minor_text text Phases _
    (one_of minor_text text HorzVert _ tt))

pub grid_in : (text : List ℕ) → IfSome (grid_named text) (λ grid. text ≡ grid_text grid)
grid_in text = one_of grid_text text Even _ (one_of grid_text text Odd _ tt)

-- from both, the two directions of the law
exactly : {A : Type 0} (text_of : A → List ℕ) (named : List ℕ → Option A) →
    ((a : A) → named (text_of a) ≡ Some a) →
    ((text : List ℕ) → IfSome (named text) (λ a. text ≡ text_of a)) → NamesExactly text_of named
exactly text_of named there back = (
  there,
  λ text a is. subst (λ o. IfSome o (λ a. text ≡ text_of a)) is (back text),
)

pub texts_name_what_they_are_of : TextsNameWhatTheyAreOf
texts_name_what_they_are_of = (
  exactly half_text half_named half_of_text half_in,
  exactly hood_text hood_named hood_of_text hood_in,
  exactly minor_text minor_named minor_of_text minor_in,
  exactly grid_text grid_named grid_of_text grid_in,
)
