-- Colours as a list of numbers: what is read of one, and what one says.
use Rattle.std.proofs.Common.{◌≡◌, ℕ, List, [], ◌∷◌, length, cond, ◌==◌, Option, Some}
use Rattle.std.proofs.Common.{None, IfSome, refl, ap, ◌∙◌}
use Rattle.std.proofs.lemmas.Bool.{eq-eqb, eqb-true}
use Rattle.serde_json.specs.Data.{Data, null, boolean, number, string, array, object}
use Rattle.serde_json.specs.Data.{Items, no_items, item}
use Rattle.serde_json.specs.Find.{get, as_array}
use Rattle.cam6_commands.specs.Limits.{cell_states}
use Rattle.cam6_wire.specs.Fields.{number_in, numbers_of, of_states, colours_at, ◌>>=◌}
use Rattle.cam6_wire.specs.Numbers.{natural, naturals}
use Rattle.cam6_wire.proofs.Steps.{of_step, of_test}
use Rattle.cam6_wire.proofs.Found.{number_shown}

numbers_shown : (items : Items) → IfSome (numbers_of items) (λ numbers. items ≡ naturals numbers)
numbers_shown no_items = refl
numbers_shown (item d items) =
    of_step (λ n. d ≡ natural n) (λ numbers. item d items ≡ naturals numbers)
    (λ n. numbers_of items >>= λ numbers. Some (n ∷ numbers))
    (λ n is.
    of_step (λ numbers. items ≡ naturals numbers) (λ numbers. item d items ≡ naturals numbers)
    (λ numbers. Some (n ∷ numbers))
    (λ numbers are. ap (λ e. item e items) is ∙ ap (item (natural n)) are)
    (numbers_of items) (numbers_shown items))
    (number_in d) (number_shown d)

-- sixteen colours that stand at a key
abbrev pub HasColours : List ℕ → Data → List ℕ → Type 0
HasColours key d colours =
    (length colours ≡ cell_states) × (get key d ≡ Some (array (naturals colours)))

colours_in : (key : List ℕ) (d found : Data) → get key d ≡ Some found →
    IfSome (as_array found >>= λ items. numbers_of items >>= λ numbers. of_states numbers)
    (HasColours key d)
colours_in key d null at = tt
colours_in key d (boolean b) at = tt
colours_in key d (number n) at = tt
colours_in key d (string s) at = tt
colours_in key d (object held) at = tt
colours_in key d (array items) at =
    of_step (λ numbers. items ≡ naturals numbers) (HasColours key d) of_states
    (λ numbers are.
    of_test (HasColours key d) (length numbers == cell_states) (Some numbers) None
    (λ is. (eqb-true (length numbers) cell_states is, at ∙ ap (λ i. Some (array i)) are)) tt)
    (numbers_of items) (numbers_shown items)

and_is : (o : Option Data) → IfSome o (λ d. o ≡ Some d)
and_is None = tt
and_is (Some d) = refl

pub colours_found : (key : List ℕ) (d : Data) → IfSome (colours_at key d) (HasColours key d)
colours_found key d =
    of_step (λ found. get key d ≡ Some found) (HasColours key d)
    (λ found. as_array found >>= λ items. numbers_of items >>= λ numbers. of_states numbers)
    (λ found at. colours_in key d found at) (get key d) (and_is (get key d))

pub numbers_said : (numbers : List ℕ) → numbers_of (naturals numbers) ≡ Some numbers
numbers_said [] = refl
numbers_said (n ∷ numbers) =
    ap (λ o. o >>= λ numbers. Some (n ∷ numbers)) (numbers_said numbers)

pub colours_said : (colours : List ℕ) → length colours ≡ cell_states →
    (numbers_of (naturals colours) >>= λ numbers. of_states numbers) ≡ Some colours
colours_said colours sixteen =
    ap (λ o. o >>= λ numbers. of_states numbers) (numbers_said colours) ∙
    ap (λ b. cond b (Some colours) None) (eq-eqb (length colours) cell_states sixteen)
