-- What it means that what is being written grows by a token.
use Rattle.std.proofs.Common.{◌≡◌, ◌≤◌, ◌+◌, ℕ, Bool, true, false, List, [], ◌∷◌}
use Rattle.std.proofs.Common.{◌++◌, refl, ap, ◌∙◌, Result, Ok, Err, cond, nat_le}
use Rattle.std.specs.Result.{IsOk}
use Rattle.std.proofs.lemmas.Bool.{leb-true}
use Rattle.cam6_wiring.specs.declared.wirings.Wiring.{Wiring}
use Rattle.cam6_forth.specs.declared.words.SingleWord.{SingleWord}
use Rattle.cam6_forth.specs.declared.words.Word.{Word}
use Rattle.cam6_forth.specs.declared.words.Word.TheVariants as word
use Rattle.cam6_forth.specs.Tokens.{Token}
use Rattle.cam6_forth.specs.Comments.{Mode, Plain, AfterColon}
use Rattle.cam6_forth.specs.Limits.{max_size, too_large}
use Rattle.cam6_forth.specs.Defined.{Defined}
use Rattle.cam6_forth.specs.Tree.{Body, words_in, size_in}
use Rattle.cam6_forth.specs.Unfinished.{OpenIf, Opened, Unfinished}
use Rattle.cam6_forth.specs.Unfinished.{Unnamed, spell_unfinished, IsSound}
use Rattle.cam6_forth.specs.Reading.{State, grown, grown_by}
use Rattle.cam6_forth.proofs.States.{in_body, in_braces, state_of}
use Rattle.cam6_forth.proofs.Runs.{ok_state, ok-same}

-- where a token that follows stands
abbrev pub mode_of : Unfinished → Mode
mode_of (Unnamed parts) = AfterColon
mode_of unfinished = Plain

-- a state of what is longer by a token
pub record Grows (w : Wiring) (u : Unfinished) (t : Token) (next : Mode) (s1 : State) : Type 0 where
  pub unfinished : Unfinished
  pub sound : IsSound w unfinished
  pub spelled : spell_unfinished unfinished ≡ spell_unfinished u ++ t ∷ []
  pub state : s1 ≡ state_of w unfinished
  pub mode : mode_of unfinished ≡ next

-- an advance that goes on where a test holds
pub if_ok : (b : Bool) (x y : State) (n : ℕ) → cond b (ok_state x) (Err n) ≡ ok_state y →
    (b ≡ true) × (x ≡ y)
if_ok true x y n e = (refl, ok-same x y e)
if_ok false x y n e = cc

pub if_then_ok : (b : Bool) (r : Result State ℕ) (y : State) (n : ℕ) →
    cond b r (Err n) ≡ ok_state y → (b ≡ true) × (r ≡ ok_state y)
if_then_ok true r y n e = (refl, e)
if_then_ok false r y n e = cc

-- an advance that adds a word
pub grown_ok : (n : ℕ) (said : Word) (s s1 : State) → grown n said s ≡ ok_state s1 →
    (s.size + n ≤ max_size)
    × (record s { size = s.size + n; words = s.words ++ said ∷ [] } ≡ s1)
grown_ok n said s s1 e =
    let both = if_ok (nat_le (s.size + n) max_size)
    (record s { size = s.size + n; words = s.words ++ said ∷ [] }) s1 too_large e in
    (leb-true (s.size + n) max_size both.0, both.1)

pub grown_by_ok : (more : ℕ) (r : Result (SingleWord × ℕ) ℕ) (s s1 : State) →
    grown_by more r s ≡ ok_state s1 →
    IsOk r × (s.size + (size_in r + more) ≤ max_size)
    × (record s { size = s.size + (size_in r + more); words = s.words ++ words_in r } ≡ s1)
grown_by_ok more (Ok (said, n)) s s1 e =
    let both = grown_ok (n + more) (word.Single said) s s1 e in
    (refl, both.0, both.1)
grown_by_ok more (Err number) s s1 e = cc

-- an opened definition
abbrev pub opened : Token → List OpenIf → Body → Opened
opened name open_ifs said = record { name = name; open_ifs = open_ifs; said = said }

module _ (done : List Defined) where
  -- states of one opened definition
  pub same_body : (name : Token) (words more : List Word) (m n : ℕ) (flags : List Bool) →
      words ≡ more → m ≡ n → in_body done name words m flags ≡ in_body done name more n flags
  same_body name words more m n flags e f =
      ap (λ x. in_body done name x m flags) e ∙ ap (λ x. in_body done name more x flags) f

  pub same_braces : (name : Token) (words more : List Word) (m n : ℕ) (flags : List Bool) →
      words ≡ more → m ≡ n → in_braces done name words m flags ≡ in_braces done name more n flags
  same_braces name words more m n flags e f =
      ap (λ x. in_braces done name x m flags) e ∙ ap (λ x. in_braces done name more x flags) f
