-- Each token that is spelled is read.
use Rattle.std.proofs.Common.{◌≡◌, ◌<◌, ◌≤◌, ◌+◌, ℕ, Bool, true, false, List, [], ◌∷◌, ◌++◌, length}
use Rattle.std.proofs.Common.{refl, ap, ◌∙◌, arith, None, Result, Ok, Err, cond, codes, is_some}
use Rattle.std.specs.Result.{IsOk}
use Rattle.std.proofs.lemmas.Bool.{le-leb, lt-ltb, false≢true}
use Rattle.cam6_wiring.specs.declared.wirings.Wiring.{Wiring}
use Rattle.cam6_forth.specs.declared.words.SingleWord.{SingleWord}
use Rattle.cam6_forth.specs.declared.words.Word.{Word}
use Rattle.cam6_forth.specs.declared.words.Word.TheVariants as word
use Rattle.cam6_forth.specs.declared.kinds.Kind.{Kind}
use Rattle.cam6_forth.specs.declared.kinds.Kind.TheVariants as kind
use Rattle.cam6_forth.specs.Tokens.{Token}
use Rattle.cam6_forth.specs.Kinds.{kind_of, mark}
use Rattle.cam6_forth.specs.Limits.{max_definitions, max_size, max_open_ifs}
use Rattle.cam6_forth.specs.Limits.{not_definable, too_large, too_many_ifs, too_long}
use Rattle.cam6_forth.specs.Defined.{Defined}
use Rattle.cam6_forth.specs.SingleWords.{word_of, definition_at}
use Rattle.cam6_forth.specs.Tree.{word_at, words_in, size_in}
use Rattle.cam6_forth.specs.Reading.{State, advance, grown, grown_by, outside}
use Rattle.cam6_forth.specs.Reading.{naming, inside, braces, some_definition}
use Rattle.cam6_forth.proofs.States.{after_all, after_colon, in_body, in_braces}
use Rattle.cam6_forth.proofs.Runs.{ok_state}

-- a word with its size
abbrev ok_word : SingleWord → ℕ → Result (SingleWord × ℕ) ℕ
ok_word said size = Ok (said, size)

-- in a body a single word is added
pub inside-word : (wiring : Wiring) (s : State) (k : Kind) (token : Token) (said : SingleWord)
    (size : ℕ) → word_of wiring s.done k token ≡ ok_word said size →
    inside wiring s k token ≡ grown (size + 0) (word.Single said) s
inside-word wiring s kind.Semicolon token said size is = cc
inside-word wiring s kind.Open token said size is = cc
inside-word wiring s kind.If token said size is = cc
inside-word wiring s kind.Else token said size is = cc
inside-word wiring s kind.Then token said size is = cc
inside-word wiring s kind.OpenBrace token said size is = cc
inside-word wiring s k token said size is = ap (λ result. grown_by 0 result s) is

-- between braces a single word is added
pub braces-word : (wiring : Wiring) (s : State) (k : Kind) (token : Token) (said : SingleWord)
    (size : ℕ) → word_of wiring s.done k token ≡ ok_word said size →
    braces wiring s k token ≡ grown (size + 1) (word.Single said) s
braces-word wiring s kind.Open token said size is = cc
braces-word wiring s kind.CloseBrace token said size is = cc
braces-word wiring s k token said size is = ap (λ result. grown_by 1 result s) is

-- a word that fits is added
pub grown-fits : (size : ℕ) (added : Word) (s : State) → s.size + size ≤ max_size →
    grown size added s ≡ Ok (record s { size = s.size + size; words = s.words ++ added ∷ [] })
grown-fits size added s fits =
    let next : State = record s { size = s.size + size; words = s.words ++ added ∷ [] } in
    ap (λ test. cond test (ok_state next) (Err too_large)) (le-leb (s.size + size) max_size fits)

pub kind-if : kind_of (codes "IF") ≡ kind.If
unfolding kind_of mark
kind-if = refl

pub kind-else : kind_of (codes "ELSE") ≡ kind.Else
unfolding kind_of mark
kind-else = refl

pub kind-then : kind_of (codes "THEN") ≡ kind.Then
unfolding kind_of mark
kind-then = refl

pub kind-open_brace : kind_of (codes "{") ≡ kind.OpenBrace
unfolding kind_of mark
kind-open_brace = refl

pub kind-close_brace : kind_of (codes "}") ≡ kind.CloseBrace
unfolding kind_of mark
kind-close_brace = refl

pub kind-colon : kind_of (codes ":") ≡ kind.Colon
unfolding kind_of mark
kind-colon = refl

pub kind-semicolon : kind_of (codes ";") ≡ kind.Semicolon
unfolding kind_of mark
kind-semicolon = refl

module _ (wiring : Wiring) (done : List Defined) (name : Token) where
  pub same_body : (ws vs : List Word) (m n : ℕ) (open_ifs : List Bool) → ws ≡ vs → m ≡ n →
      ok_state (in_body done name ws m open_ifs) ≡ ok_state (in_body done name vs n open_ifs)
  same_body ws vs m n open_ifs words sizes = cc

  pub same_braces : (ws vs : List Word) (m n : ℕ) (open_ifs : List Bool) → ws ≡ vs → m ≡ n →
      ok_state (in_braces done name ws m open_ifs) ≡ ok_state (in_braces done name vs n open_ifs)
  same_braces ws vs m n open_ifs words sizes = cc

  -- the word that a token says, or none, and its size
  abbrev pub said_by : Token → List Word
  said_by token = words_in (word_at wiring done token)

  abbrev pub size_by : Token → ℕ
  size_by token = size_in (word_at wiring done token)

  -- in a body the word is added
  advance-said : (token : Token) (ws : List Word) (n : ℕ) (open_ifs : List Bool)
      (result : Result (SingleWord × ℕ) ℕ) → word_at wiring done token ≡ result → IsOk result →
      n + size_in result ≤ max_size →
      advance wiring (in_body done name ws n open_ifs) token
      ≡ Ok (in_body done name (ws ++ words_in result) (n + size_in result) open_ifs)
  advance-said token ws n open_ifs (Ok (said, size)) is known fits =
      let s = in_body done name ws n open_ifs in
      let words = ws ++ word.Single said ∷ [] in
      inside-word wiring s (kind_of token) token said size is
      ∙ grown-fits (size + 0) (word.Single said) s (omega arith)
      ∙ same_body words words (n + (size + 0)) (n + size) open_ifs refl (omega arith)
  advance-said token ws n open_ifs (Err number) is known fits = absurd (false≢true known)

  pub advance-word : (token : Token) (ws : List Word) (n : ℕ) (open_ifs : List Bool) →
      IsOk (word_at wiring done token) → n + size_by token ≤ max_size →
      advance wiring (in_body done name ws n open_ifs) token
      ≡ Ok (in_body done name (ws ++ said_by token) (n + size_by token) open_ifs)
  advance-word token ws n open_ifs known fits =
      advance-said token ws n open_ifs (word_at wiring done token) refl known fits

  -- and so it is between braces
  advance-said_case : (token : Token) (ws : List Word) (n : ℕ) (open_ifs : List Bool)
      (result : Result (SingleWord × ℕ) ℕ) → word_at wiring done token ≡ result → IsOk result →
      n + (size_in result + 1) ≤ max_size →
      advance wiring (in_braces done name ws n open_ifs) token
      ≡ Ok (in_braces done name (ws ++ words_in result) (n + (size_in result + 1)) open_ifs)
  advance-said_case token ws n open_ifs (Ok (said, size)) is known fits =
      let s = in_braces done name ws n open_ifs in
      braces-word wiring s (kind_of token) token said size is
      ∙ grown-fits (size + 1) (word.Single said) s fits
  advance-said_case token ws n open_ifs (Err number) is known fits = absurd (false≢true known)

  pub advance-case : (token : Token) (ws : List Word) (n : ℕ) (open_ifs : List Bool) →
      IsOk (word_at wiring done token) → n + (size_by token + 1) ≤ max_size →
      advance wiring (in_braces done name ws n open_ifs) token
      ≡ Ok (in_braces done name (ws ++ said_by token) (n + (size_by token + 1)) open_ifs)
  advance-case token ws n open_ifs known fits =
      advance-said_case token ws n open_ifs (word_at wiring done token) refl known fits

  pub advance-if : (ws : List Word) (n : ℕ) (open_ifs : List Bool) → n + 1 ≤ max_size →
      length open_ifs < max_open_ifs →
      advance wiring (in_body done name ws n open_ifs) (codes "IF")
      ≡ Ok (in_body done name (ws ++ word.If ∷ []) (n + 1) (false ∷ open_ifs))
  advance-if ws n open_ifs fits few =
      let next = in_body done name ws n (false ∷ open_ifs) in
      ap (λ k. inside wiring (in_body done name ws n open_ifs) k (codes "IF")) kind-if
      ∙ ap (λ test. cond test (grown 1 word.If next) (Err too_many_ifs))
      (lt-ltb (length open_ifs) max_open_ifs few)
      ∙ grown-fits 1 word.If next fits

  pub advance-else : (ws : List Word) (n : ℕ) (outer : List Bool) → n + 1 ≤ max_size →
      advance wiring (in_body done name ws n (false ∷ outer)) (codes "ELSE")
      ≡ Ok (in_body done name (ws ++ word.Else ∷ []) (n + 1) (true ∷ outer))
  advance-else ws n outer fits =
      ap (λ k. inside wiring (in_body done name ws n (false ∷ outer)) k (codes "ELSE")) kind-else
      ∙ grown-fits 1 word.Else (in_body done name ws n (true ∷ outer)) fits

  pub advance-then : (ws : List Word) (n : ℕ) (has_else : Bool) (outer : List Bool) →
      advance wiring (in_body done name ws n (has_else ∷ outer)) (codes "THEN")
      ≡ Ok (in_body done name (ws ++ word.Then ∷ []) n outer)
  advance-then ws n has_else outer =
      ap (λ k. inside wiring (in_body done name ws n (has_else ∷ outer)) k (codes "THEN")) kind-then

  pub advance-open : (ws : List Word) (n : ℕ) (open_ifs : List Bool) → n + 1 ≤ max_size →
      advance wiring (in_body done name ws n open_ifs) (codes "{")
      ≡ Ok (in_braces done name (ws ++ word.Cases ∷ []) (n + 1) open_ifs)
  advance-open ws n open_ifs fits =
      ap (λ k. inside wiring (in_body done name ws n open_ifs) k (codes "{")) kind-open_brace
      ∙ grown-fits 1 word.Cases (in_braces done name ws n open_ifs) fits

  pub advance-close : (ws : List Word) (n : ℕ) (open_ifs : List Bool) →
      advance wiring (in_braces done name ws n open_ifs) (codes "}")
      ≡ Ok (in_body done name (ws ++ word.EndCases ∷ []) n open_ifs)
  advance-close ws n open_ifs =
      ap (λ k. braces wiring (in_braces done name ws n open_ifs) k (codes "}")) kind-close_brace

-- a name that may be defined
pub advance-name : (wiring : Wiring) (done : List Defined) (token : Token) →
    kind_of token ≡ kind.Other → definition_at token done ≡ None →
    advance wiring (after_colon done) token ≡ Ok (in_body done token [] 0 [])
advance-name wiring done token free fresh =
    ap (λ k. naming (after_colon done) k token) free
    ∙ ap (λ test. cond test (Err not_definable) (ok_state (in_body done token [] 0 [])))
    (ap is_some fresh)

pub advance-colon : (wiring : Wiring) (done : List Defined) → length done < max_definitions →
    advance wiring (after_all done) (codes ":") ≡ Ok (after_colon done)
advance-colon wiring done few =
    ap (λ k. outside (after_all done) k) kind-colon
    ∙ ap (λ test. cond test (ok_state (after_colon done)) (Err too_long))
    (lt-ltb (length done) max_definitions few)

-- outside definitions, after one more
abbrev pub after_end : List Defined → Token → List Word → ℕ → State
after_end done name ws n =
    after_all (done ++ record { name = name; words = ws; size = n } ∷ [])

pub advance-end : (wiring : Wiring) (done : List Defined) (name : Token) (ws : List Word) (n : ℕ) →
    advance wiring (in_body done name ws n []) (codes ";")
    ≡ Ok (after_end done name ws n)
advance-end wiring done name ws n =
    ap (λ k. inside wiring (in_body done name ws n []) k (codes ";")) kind-semicolon

-- definitions may end where there is one
pub some-is : (done : List Defined) → 0 < length done → some_definition done ≡ Ok done
some-is [] some = absurd (omega arith)
some-is (first ∷ later) some = refl
