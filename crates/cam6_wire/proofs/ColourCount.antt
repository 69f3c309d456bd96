-- Colours are as many as the values that they are read of.
use Rattle.std.specs.Prelude.{⊤}
use Rattle.std.proofs.Common.{◌≡◌, ℕ, suc, List, [], ◌∷◌, length, Bool, true, false, cond, ◌==◌}
use Rattle.std.proofs.Common.{Option}
use Rattle.std.proofs.Common.{Some, None, IfSome, option_and_then, refl, sym, ap, ◌∙◌}
use Rattle.std.proofs.lemmas.Bool.{eqb-true}
use Rattle.serde_json.specs.View.{view, items_view}
use Rattle.serde_json.specs.declared.value.Value.{Value}
use Rattle.cam6_commands.specs.Limits.{cell_states}
use Rattle.cam6_wire.specs.Fields.{number_in, numbers_of, of_states, ◌>>=◌}
use Rattle.cam6_wire.proofs.Steps.{of_step}

pub whatever : {A : Type 0} (o : Option A) → IfSome o (λ a. ⊤)
whatever None = tt
whatever (Some a) = tt

as_many : (values : List Value) →
    IfSome (numbers_of (items_view values)) (λ numbers. length numbers ≡ length values)
as_many [] = refl
as_many (value ∷ values) =
    of_step (λ n. ⊤) (λ numbers. length numbers ≡ length (value ∷ values))
    (λ n. numbers_of (items_view values) >>= λ numbers. Some (n ∷ numbers))
    (λ n given.
    of_step (λ numbers. length numbers ≡ length values)
    (λ numbers. length numbers ≡ length (value ∷ values)) (λ numbers. Some (n ∷ numbers))
    (λ numbers many. ap suc many) (numbers_of (items_view values)) (as_many values))
    (number_in (view value)) (whatever (number_in (view value)))

-- where they are not sixteen, there are no colours
pub no_colours : (values : List Value) → (length values ≡ 16 → ⊥) →
    option_and_then of_states (numbers_of (items_view values)) ≡ None
no_colours values other = by_numbers (numbers_of (items_view values)) (as_many values)
  where
    by_count : (numbers : List ℕ) (b : Bool) → length numbers ≡ length values →
        (length numbers == cell_states) ≡ b → cond b (Some numbers) None ≡ None
    by_count numbers true many is =
        absurd (other (sym many ∙ eqb-true (length numbers) cell_states is))
    by_count numbers false many is = refl

    by_numbers : (o : Option (List ℕ)) → IfSome o (λ numbers. length numbers ≡ length values) →
        option_and_then of_states o ≡ None
    by_numbers None given = refl
    by_numbers (Some numbers) many = by_count numbers (length numbers == cell_states) many refl
