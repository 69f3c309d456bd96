-- Values with a word at a key, by which what they show is told apart.
use Rattle.std.proofs.Common.{◌≡◌, ℕ, List, Option, Some, IfSome, option_map, cond, bytes_eq}
use Rattle.std.proofs.Common.{Less, ap, ◌∙◌}
use Rattle.std.specs.Cmp.Lexicographic.{slice_cmp}
use Rattle.std.specs.Ordering.{nat_cmp}
use Rattle.std.proofs.lemmas.Option.{IfSome_then}
use Rattle.std.proofs.lemmas.Slice.Eq.{bytes_eq-Decides}
use Rattle.serde_json.specs.Data.{Data, string, object, Members, no_members, member}
use Rattle.serde_json.specs.Find.{get}
use Rattle.cam6_wire.specs.Fields.{count, number_at, text_at, ◌>>=◌}
use Rattle.cam6_wire.specs.Numbers.{natural}
use Rattle.cam6_wire.specs.Commands.{sole_number}
use Rattle.cam6_wire.proofs.Steps.{of_map, of_step, of_test}
use Rattle.cam6_wire.proofs.Ordered.{IsOrdered}
use Rattle.cam6_wire.proofs.Exactly.{these}
use Rattle.cam6_wire.proofs.Found.{number_found, text_found, of_object}

-- what holds of a value whose word at a key is known
abbrev pub HasWord : List ℕ → List ℕ → Data → Type 0
HasWord at word d = IsOrdered d × (get at d ≡ Some (string word))

-- one word after another
pub of_word : {A : Type 0} (at word its : List ℕ) (d : Data) (P : A → Type 0) (x y : Option A) →
    HasWord at word d → (HasWord at its d → IfSome x P) → IfSome y P →
    IfSome (cond (bytes_eq word its) x y) P
of_word at word its d P x y has here later =
    of_test P (bytes_eq word its) x y
    (λ is. here (has.0, has.1 ∙ ap (λ w. Some (string w)) ((bytes_eq-Decides word its).0 is)))
    later

-- what a value shows by its word
pub word_shown : {A : Type 0} (by : List ℕ → Data → Option A) (at : List ℕ) (d : Data)
    (P : A → Type 0) → IsOrdered d →
    ((word : List ℕ) → HasWord at word d → IfSome (by word d) P) →
    IfSome (text_at at d >>= λ word. by word d) P
word_shown by at d P ordered holds =
    of_step (λ word. get at d ≡ Some (string word)) P (λ word. by word d)
    (λ word found. holds word (ordered, found)) (text_at at d) (text_found at d)

-- what is shown by a value that has a word and a number, and nothing else
sole_shown : {A : Type 0} (at word key : List ℕ) (wanted : ℕ → Members) (make : ℕ → A)
    (d : Data) (P : A → Type 0) →
    ((n : ℕ) (held : Members) → count held ≡ 2 → HasWord at word (object held) →
    get key (object held) ≡ Some (natural n) → object held ≡ object (wanted n)) →
    ((n : ℕ) → d ≡ object (wanted n) → P (make n)) →
    HasWord at word d → IfSome (option_map make (sole_number key d)) P
unfolding sole_number
sole_shown at word key wanted make d P are holds given =
    of_map (λ n. d ≡ object (wanted n)) P make holds (sole_number key d)
    (of_object 2 (number_at key) (HasWord at word) (λ x n. x ≡ object (wanted n))
    (λ held same has.
    IfSome_then (number_at key (object held)) (number_found key (object held))
    (λ n found. are n held same has found))
    d given)

-- where the word comes first
pub number_later : {A : Type 0} (at word key : List ℕ) (make : ℕ → A) (d : Data)
    (P : A → Type 0) → slice_cmp nat_cmp at key ≡ Less →
    ((n : ℕ) → d ≡ object (member at (string word) (member key (natural n) no_members)) →
    P (make n)) →
    HasWord at word d → IfSome (option_map make (sole_number key d)) P
number_later at word key make d P later holds given =
    sole_shown at word key (λ n. member at (string word) (member key (natural n) no_members)) make
    d P
    (λ n held same has found.
    these (member at (string word) (member key (natural n) no_members)) held
    ((later, tt), (tt, tt)) same has.0 (has.1, (found, tt)))
    holds given

-- and where the number does
pub number_first : {A : Type 0} (at word key : List ℕ) (make : ℕ → A) (d : Data)
    (P : A → Type 0) → slice_cmp nat_cmp key at ≡ Less →
    ((n : ℕ) → d ≡ object (member key (natural n) (member at (string word) no_members)) →
    P (make n)) →
    HasWord at word d → IfSome (option_map make (sole_number key d)) P
number_first at word key make d P later holds given =
    sole_shown at word key (λ n. member key (natural n) (member at (string word) no_members)) make
    d P
    (λ n held same has found.
    these (member key (natural n) (member at (string word) no_members)) held
    ((later, tt), (tt, tt)) same has.0 (found, (has.1, tt)))
    holds given

-- what a value shows, by the word of one that it equals
pub by_its_word : {A : Type 0} (by : List ℕ → Data → Option A) (at : List ℕ) (d e : Data)
    (word : List ℕ) (a : A) → d ≡ e → text_at at e ≡ Some word → by word e ≡ Some a →
    (text_at at d >>= λ word. by word d) ≡ Some a
by_its_word by at d e word a same found is =
    ap (λ x. text_at at x >>= λ word. by word x) same ∙ ap (λ o. o >>= λ word. by word e) found ∙ is
