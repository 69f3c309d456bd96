-- A token has the first of its faults.
use Rattle.std.proofs.Common.{◌≡◌, ◌+◌, ℕ, Bool, true, false, not, ◌&&◌, List, [], ◌∷◌}
use Rattle.std.proofs.Common.{length, refl, sym, ap, ◌∙◌, arith, Option, Some, None}
use Rattle.std.proofs.Common.{cond, if◌then◌else◌, is_some, nat_lt, nat_le, max, Ok, Err}
use Rattle.std.proofs.lemmas.Bool.{le-leb}
use Rattle.cam6_wiring.specs.declared.wirings.Wiring.{Wiring}
use Rattle.cam6_wiring.specs.Wiring.{line_of}
use Rattle.cam6_forth.specs.declared.words.SingleWord.{SingleWord}
use Rattle.cam6_forth.specs.declared.words.SingleWord.TheVariants as single
use Rattle.cam6_forth.specs.declared.kinds.Kind.{Kind}
use Rattle.cam6_forth.specs.declared.kinds.Kind.TheVariants as kind
use Rattle.cam6_forth.specs.Tokens.{Token}
use Rattle.cam6_forth.specs.Limits.{max_size, max_open_ifs, max_definitions, unknown_word}
use Rattle.cam6_forth.specs.Limits.{out_of_place, too_large, too_many_ifs, wrong_output, too_long}
use Rattle.cam6_forth.specs.Defined.{Defined}
use Rattle.cam6_wiring.specs.Name.{is_same_half}
use Rattle.cam6_forth.specs.SingleWords.{definition_at, defined_word}
use Rattle.cam6_forth.specs.Tree.{Part, case_size, meant}
use Rattle.cam6_forth.specs.Unfinished.{OpenIf, Opened, Whole, Unnamed, Within, Braced, opened_size}
use Rattle.cam6_forth.specs.Faults.{size_fault, word_fault, token_fault}
use Rattle.cam6_forth.specs.Faults.{end_of_body_fault, then_fault, else_fault}
use Rattle.cam6_forth.specs.FaultOrder.{takes_above, defined_size, is_open, wants_else, first_fault}
use Rattle.cam6_forth.specs.Laws.{FaultsInOrder, OneBetween}

-- a fault where a test holds
abbrev pub fault_if : Bool → ℕ → Option ℕ
fault_if has number = if has then Some number else None

-- a token of no size takes no definition above the limit
above_by_none : (size : ℕ) → takes_above size 0 ≡ false
above_by_none size = by_test (nat_le size max_size) refl
  where
    by_test : (b : Bool) → nat_le size max_size ≡ b →
        (b && not (nat_le (size + 0) max_size)) ≡ false
    by_test true e =
        let same : size + 0 ≡ size = omega arith in
        ap (λ n. not (nat_le n max_size)) same ∙ ap not e
    by_test false e = refl

-- a token of some size has fault 23 where it takes the definition above the limit
sized : (size more : ℕ) → nat_le size max_size ≡ true →
    size_fault (size + more) ≡ fault_if (takes_above size more) too_large
sized size more fits =
    by_test (nat_le (size + more) max_size)
    ∙ ap (λ b. fault_if (b && not (nat_le (size + more) max_size)) too_large) (sym fits)
  where
    by_test : (b : Bool) → cond b None (Some too_large) ≡ fault_if (not b) too_large
    by_test true = refl
    by_test false = refl

-- in a definition of this size
module _ (size : ℕ) (fits : nat_le size max_size ≡ true) where
  none_more : None ≡ fault_if (takes_above size 0) too_large
  none_more = ap (λ b. fault_if b too_large) (sym (above_by_none size))

  -- a single word makes it grow from this size on, by so much in all
  by_size : (from own more : ℕ) → from + own ≡ size + more →
      size_fault (from + own) ≡ fault_if (takes_above size more) too_large
  by_size from own more sum = ap size_fault sum ∙ sized size more fits

  known_or : (from more : ℕ) → from + 1 ≡ size + more →
      (said : SingleWord) (number : ℕ) (b : Bool) →
      word_fault from (cond b (Ok (said, 1)) (Err number))
      ≡ cond (not b) (Some number) (fault_if (takes_above size more) too_large)
  known_or from more sum said number true = by_size from 1 more sum
  known_or from more sum said number false = refl

  defined_or : (from : ℕ) (more : ℕ → ℕ) → ((own : ℕ) → from + own ≡ size + more own) →
      (o : Option (ℕ × ℕ)) →
      word_fault from (defined_word o)
      ≡ cond (not (is_some o)) (Some unknown_word)
      (fault_if (takes_above size (more (defined_size o))) too_large)
  defined_or from more sum None = refl
  defined_or from more sum (Some (position, own)) =
      by_size from (max own 1) (more (max own 1)) (sum (max own 1))

  end_or : (open_ifs : List OpenIf) →
      end_of_body_fault open_ifs
      ≡ cond (is_open open_ifs) (Some out_of_place) (fault_if (takes_above size 0) too_large)
  end_or [] = none_more
  end_or (open_if ∷ outer) = refl

  then_or : (open_ifs : List OpenIf) →
      then_fault open_ifs
      ≡ cond (not (is_open open_ifs)) (Some out_of_place)
      (fault_if (takes_above size 0) too_large)
  then_or [] = refl
  then_or (open_if ∷ outer) = none_more

  else_or : (open_ifs : List OpenIf) →
      else_fault open_ifs size
      ≡ cond (not (wants_else open_ifs)) (Some out_of_place)
      (fault_if (takes_above size 1) too_large)
  else_or [] = refl
  else_or (open_if ∷ outer) = by_test (is_some open_if.first)
    where
      by_test : (b : Bool) →
          cond b (Some out_of_place) (size_fault (size + 1))
          ≡ cond (not (not b)) (Some out_of_place) (fault_if (takes_above size 1) too_large)
      by_test true = refl
      by_test false = sized size 1 fits

  if_or : (few : Bool) →
      cond few (size_fault (size + 1)) (Some too_many_ifs)
      ≡ cond (not few) (Some too_many_ifs) (fault_if (takes_above size 1) too_large)
  if_or true = sized size 1 fits
  if_or false = refl

-- a token outside definitions
outside : (wiring : Wiring) (parts : List Part) (token : Token) (k : Kind) →
    token_fault wiring (Whole parts) k token ≡ first_fault wiring (Whole parts) k token
outside wiring parts token kind.Colon = by_test (nat_lt (length parts) max_definitions)
  where
    by_test : (b : Bool) → cond b None (Some too_long) ≡ cond (not b) (Some too_long) None
    by_test true = refl
    by_test false = refl
outside wiring parts token k = refl

-- right after `:`
naming : (wiring : Wiring) (parts : List Part) (token : Token) (k : Kind) →
    token_fault wiring (Unnamed parts) k token ≡ first_fault wiring (Unnamed parts) k token
naming wiring parts token kind.Other = refl
naming wiring parts token k = refl

-- in a body
inside : (wiring : Wiring) (parts : List Part) (last : Opened) (token : Token) (k : Kind) →
    nat_le (opened_size wiring (meant wiring [] parts) last) max_size ≡ true →
    token_fault wiring (Within parts last) k token
    ≡ first_fault wiring (Within parts last) k token
inside wiring parts last token k fits = at_kind k
  where
    done : List Defined
    done = meant wiring [] parts

    size : ℕ
    size = opened_size wiring done last

    at_kind : (k : Kind) →
        token_fault wiring (Within parts last) k token
        ≡ first_fault wiring (Within parts last) k token
    at_kind kind.Semicolon = end_or size fits last.open_ifs
    at_kind kind.Open = none_more size fits
    at_kind kind.If = if_or size fits (nat_lt (length last.open_ifs) max_open_ifs)
    at_kind kind.Else = else_or size fits last.open_ifs
    at_kind kind.Then = then_or size fits last.open_ifs
    at_kind kind.OpenBrace = sized size 1 fits
    at_kind (kind.Digits None) = refl
    at_kind (kind.Digits (Some value)) = sized size 1 fits
    at_kind (kind.Stack stack) = sized size 1 fits
    at_kind (kind.Output output) =
        known_or size fits size 1 refl (single.Output output.target) wrong_output
        (is_same_half output.half wiring.half)
    at_kind (kind.Name name) =
        known_or size fits size 1 refl (single.Name name) unknown_word
        (is_some (line_of wiring.hood wiring.minor name))
    at_kind kind.Other =
        defined_or size fits size (λ own. own) (λ own. refl) (definition_at token done)
    at_kind _ = refl

-- between braces
braced : (wiring : Wiring) (parts : List Part) (last : Opened) (words : List Token)
    (token : Token) (k : Kind) →
    nat_le (opened_size wiring (meant wiring [] parts) last
    + (1 + case_size wiring (meant wiring [] parts) words)) max_size ≡ true →
    token_fault wiring (Braced parts last words) k token
    ≡ first_fault wiring (Braced parts last words) k token
braced wiring parts last words token k fits = at_kind k
  where
    done : List Defined
    done = meant wiring [] parts

    size : ℕ
    size = opened_size wiring done last + (1 + case_size wiring done words)

    two : size + 1 + 1 ≡ size + 2
    two = omega arith

    at_kind : (k : Kind) →
        token_fault wiring (Braced parts last words) k token
        ≡ first_fault wiring (Braced parts last words) k token
    at_kind kind.Open = none_more size fits
    at_kind kind.CloseBrace = none_more size fits
    at_kind (kind.Digits None) = refl
    at_kind (kind.Digits (Some value)) = by_size size fits (size + 1) 1 2 two
    at_kind (kind.Stack stack) = by_size size fits (size + 1) 1 2 two
    at_kind (kind.Output output) =
        known_or size fits (size + 1) 2 two (single.Output output.target) wrong_output
        (is_same_half output.half wiring.half)
    at_kind (kind.Name name) =
        known_or size fits (size + 1) 2 two (single.Name name) unknown_word
        (is_some (line_of wiring.hood wiring.minor name))
    at_kind kind.Other =
        defined_or size fits (size + 1) (λ own. own + 1) (λ own. omega arith)
        (definition_at token done)
    at_kind _ = refl

pub faults_in_order : FaultsInOrder
faults_in_order wiring (Whole parts) k token sound = outside wiring parts token k
faults_in_order wiring (Unnamed parts) k token sound = naming wiring parts token k
faults_in_order wiring (Within parts last) k token sound =
    let size = opened_size wiring (meant wiring [] parts) last in
    inside wiring parts last token k (le-leb size max_size (omega (arith, sound.1.size)))
faults_in_order wiring (Braced parts last words) k token sound =
    let done = meant wiring [] parts in
    let size = opened_size wiring done last + (1 + case_size wiring done words) in
    braced wiring parts last words token k (le-leb size max_size sound.1.size)

at_most_one : (b : Bool) → cond b true true ≡ true
at_most_one true = refl
at_most_one false = refl

pub one_between : OneBetween
one_between wiring (Whole parts) kind.Colon token =
    at_most_one (not (nat_lt (length parts) max_definitions))
one_between wiring (Whole parts) k token = refl
one_between wiring (Unnamed parts) k token = refl
one_between wiring (Within parts last) kind.If token =
    at_most_one (not (nat_lt (length last.open_ifs) max_open_ifs))
one_between wiring (Within parts last) (kind.Output output) token =
    at_most_one (not (is_same_half output.half wiring.half))
one_between wiring (Within parts last) (kind.Name name) token =
    at_most_one (not (is_some (line_of wiring.hood wiring.minor name)))
one_between wiring (Within parts last) kind.Other token =
    at_most_one (not (is_some (definition_at token (meant wiring [] parts))))
one_between wiring (Within parts last) (kind.Digits None) token = refl
one_between wiring (Within parts last) (kind.Digits (Some value)) token = refl
one_between wiring (Within parts last) k token = refl
one_between wiring (Braced parts last words) (kind.Output output) token =
    at_most_one (not (is_same_half output.half wiring.half))
one_between wiring (Braced parts last words) (kind.Name name) token =
    at_most_one (not (is_some (line_of wiring.hood wiring.minor name)))
one_between wiring (Braced parts last words) kind.Other token =
    at_most_one (not (is_some (definition_at token (meant wiring [] parts))))
one_between wiring (Braced parts last words) (kind.Digits None) token = refl
one_between wiring (Braced parts last words) (kind.Digits (Some value)) token = refl
one_between wiring (Braced parts last words) k token = refl
