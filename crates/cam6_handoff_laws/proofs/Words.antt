-- Who is said to be where, after one user and one board have changed.
use Rattle.std.proofs.Common.{◌≡◌, ◌≢◌, ◌∙◌, ℕ, zero, suc, ◌<◌, List, [], ◌∷◌, length, set}
use Rattle.std.proofs.Common.{Some, sym, refl, ap, subst, arith, slice_index}
use Rattle.std.specs.List.{slice_get}
use mathlib.Core.Logic.{dite}
use native.Mathlib.Decide.{ℕ_discrete}
use lib.ListN.{get_elem?}
use Rattle.cam6_station.specs.Held.{Manned, Held}
use Rattle.cam6_station.specs.Held as board
use Rattle.cam6_core.specs.State.{at_number, with_number, IsNumber}
use Rattle.cam6_core.specs.declared.parts.Whereabouts.{Whereabouts}
use Rattle.cam6_core.specs.declared.parts.Whereabouts.TheVariants as whereabouts
use Rattle.cam6_core.proofs.Numbers.{one_of, set_else, here_with, else_with, long_with}
use Rattle.cam6_handoff.specs.Rule.{Rule}
use Rattle.cam6_handoff_laws.specs.Configurations.{Configuration, WordSays, IsLoadedWith, IsSaid}

-- what is said of a row stays said if its word, its slot and its user's board stay
pub stays_said : (k next : Configuration) (row : ℕ) (x : Whereabouts) →
    slice_index next.table.words row ≡ slice_index k.table.words row →
    get_elem? next.table.homes row ≡ get_elem? k.table.homes row →
    ((b : ℕ) (h : Held) → IsLoadedWith k row b h → (g : Held) × IsLoadedWith next row b g) →
    WordSays k row x → WordSays next row x
stays_said k next row (whereabouts.Resting r) word home boards says = word ∙ says
stays_said k next row (whereabouts.Queued q) word home boards says =
    (word ∙ says.0, home ∙ says.1)
stays_said k next row whereabouts.Out word home boards says =
    let on = boards says.0 says.1 says.3 in (says.0, on.0, word ∙ says.2, on.1)
stays_said k next row (whereabouts.Finished f) word home boards says =
    (word ∙ says.0, home ∙ says.1)

-- the number of a row's user
pub is_of_row : (n row users : ℕ) → n ≡ users → row < users → IsNumber n (suc row)
is_of_row n row users long small = (omega arith, omega (arith, long, small))

pub user_of_row : {A : Type 0} → (xs : List A) (users row : ℕ) → length xs ≡ users → row < users →
    (x : A) × (at_number xs (suc row) ≡ Some x)
user_of_row xs users row long small = at xs row (omega (arith, long, small))
  where
    at : {A : Type 0} → (ys : List A) (i : ℕ) → i < length ys → (x : A) × (slice_get ys i ≡ Some x)
    at [] i small = absurd (omega (arith, small))
    at (y ∷ ys) zero small = (y, refl)
    at (y ∷ ys) (suc i) small = at ys i (omega (arith, small))

-- one row's user changes, and what is said of the other rows stays
pub said_with : (users : ℕ) (k next : Configuration) (row : ℕ) (x : Whereabouts) →
    IsSaid users k → row < users → Rule users next.table →
    next.held.users ≡ with_number k.held.users (suc row) x → WordSays next row x →
    ((j : ℕ) → j ≢ row → slice_index next.table.words j ≡ slice_index k.table.words j) →
    ((j : ℕ) → j ≢ row → get_elem? next.table.homes j ≡ get_elem? k.table.homes j) →
    ((j b : ℕ) (h : Held) → j ≢ row → IsLoadedWith k j b h → IsLoadedWith next j b h) →
    IsSaid users next
said_with users k next row x said small rule us new words homes boards = record {
  rule = rule;
  long = ap length us ∙ long_with k.held.users (suc row) x ∙ said.long;
  says = λ j y at.
      let there : at_number (with_number k.held.users (suc row) x) (suc j) ≡ Some y =
      sym (ap (λ (us : List Whereabouts). at_number us (suc j)) us) ∙ at in
      dite (ℕ_discrete j row)
      (λ same.
      let is : x ≡ y = one_of (at_number (with_number k.held.users (suc row) x) (suc row)) x y
      (here_with k.held.users (suc row) x
      (is_of_row (length k.held.users) row users said.long small))
      (ap (λ (i : ℕ). at_number (with_number k.held.users (suc row) x) (suc i)) (sym same) ∙
      there) in
      subst (λ (i : ℕ). WordSays next i y) (sym same) (subst (WordSays next row) is new))
      (λ apart. stays_said k next j y (words j apart) (homes j apart)
      (λ b h on. (h, boards j b h apart on))
      (said.says j y (sym (else_with k.held.users (suc row) (suc j) x
      (λ e. apart (omega (arith, e)))) ∙ there)));
}

-- one board changes, which was not loaded for any other row's user
pub others_stay : (bs : List Manned) (b row : ℕ) (old new : Manned) → slice_get bs b ≡ Some old →
    ((j : ℕ) (h : Held) → j ≢ row → old ≡ board.loaded (suc j) h → ⊥) →
    (j d : ℕ) (h : Held) → j ≢ row → slice_get bs d ≡ Some (board.loaded (suc j) h) →
    slice_get (set bs b new) d ≡ Some (board.loaded (suc j) h)
others_stay bs b row old new at nay j d h apart on = dite (ℕ_discrete d b)
    (λ same. absurd (nay j h apart (one_of (slice_get bs b) old (board.loaded (suc j) h) at
    (subst (λ (i : ℕ). slice_get bs i ≡ Some (board.loaded (suc j) h)) same on))))
    (λ ne. set_else bs b d new ne ∙ on)

pub idle_is_nobodys : (row j : ℕ) (h : Held) → j ≢ row →
    board.idle ≡ board.loaded (suc j) h → ⊥
idle_is_nobodys row j h apart e = cc e

pub loaded_is_one_users : (row : ℕ) (on : Held) (j : ℕ) (h : Held) → j ≢ row →
    board.loaded (suc row) on ≡ board.loaded (suc j) h → ⊥
loaded_is_one_users row on j h apart e =
    let same : suc row ≡ suc j = cc e in apart (omega (arith, same))
