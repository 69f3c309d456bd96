-- The tokens that are marks.
use Rattle.std.proofs.Common.{◌≡◌, ℕ, Bool, true, false, [], refl, sym}
use Rattle.std.proofs.Common.{ap, ◌∙◌, Option, Some, None, cond, codes}
use Rattle.std.specs.Option.{option_map, option_or, unwrap_or}
use Rattle.std.specs.Str.{bytes_eq}
use Rattle.std.proofs.lemmas.Slice.Eq.{bytes_eq-Decides}
use Rattle.cam6_wiring.specs.declared.names.Name.{Name}
use Rattle.cam6_forth.specs.declared.words.StackWord.{StackWord}
use Rattle.cam6_forth.specs.declared.words.Output.{Output}
use Rattle.cam6_forth.specs.declared.kinds.Kind.{Kind}
use Rattle.cam6_forth.specs.declared.kinds.Kind.TheVariants as kind
use Rattle.cam6_forth.specs.Tokens.{Token}
use Rattle.cam6_forth.specs.Spellings.{stack_word, output_word, neighbour_name}
use Rattle.cam6_forth.specs.Kinds.{kind_of, mark, is_digits, literal}

-- the token of a mark
abbrev pub spelled : Kind → Token
spelled kind.Colon = codes ":"
spelled kind.Semicolon = codes ";"
spelled kind.Open = codes "("
spelled kind.Close = codes ")"
spelled kind.OpenBrace = codes "{"
spelled kind.CloseBrace = codes "}"
spelled kind.If = codes "IF"
spelled kind.Else = codes "ELSE"
spelled kind.Then = codes "THEN"
spelled _ = []

-- whether a token of this kind is a mark
abbrev pub is_mark : Kind → Bool
is_mark (kind.Digits value) = false
is_mark (kind.Stack stack) = false
is_mark (kind.Output output) = false
is_mark (kind.Name name) = false
is_mark kind.Other = false
is_mark _ = true

by_test : (token code : Token) (row k : Kind) (rest : Option Kind) (test : Bool) →
    (test ≡ true → token ≡ code) → spelled row ≡ code → (rest ≡ Some k → token ≡ spelled k) →
    cond test (Some row) rest ≡ Some k → token ≡ spelled k
by_test token code row k rest true same code_is later is =
    let at_row : row ≡ k = cc is in same refl ∙ sym code_is ∙ ap spelled at_row
by_test token code row k rest false same code_is later is = later is

-- a row of a table has the spelling of its kind, and so have the later rows
by_row : (token code : Token) (row k : Kind) (rest : Option Kind) → spelled row ≡ code →
    (rest ≡ Some k → token ≡ spelled k) →
    cond (bytes_eq token code) (Some row) rest ≡ Some k → token ≡ spelled k
by_row token code row k rest code_is later is =
    by_test token code row k rest (bytes_eq token code) (bytes_eq-Decides token code).0 code_is
    later is

mark-is : (token : Token) (k : Kind) → mark token ≡ Some k → token ≡ spelled k
unfolding mark
mark-is token k =
    by_row token (codes ":") kind.Colon k _ refl
    (by_row token (codes ";") kind.Semicolon k _ refl
    (by_row token (codes "(") kind.Open k _ refl
    (by_row token (codes ")") kind.Close k _ refl
    (by_row token (codes "{") kind.OpenBrace k _ refl
    (by_row token (codes "}") kind.CloseBrace k _ refl
    (by_row token (codes "IF") kind.If k _ refl
    (by_row token (codes "ELSE") kind.Else k _ refl
    (by_row token (codes "THEN") kind.Then k _ refl
    (λ none. cc none)))))))))

none-empty : mark [] ≡ None
unfolding mark
none-empty = refl

not-empty : (token : Token) (k : Kind) → mark token ≡ Some k → token ≡ [] → ⊥
not-empty token k is empty = let none = ap mark empty ∙ none-empty in cc (none, is)

-- what the table of marks says is a mark
marks : (token : Token) (k : Kind) → mark token ≡ Some k → is_mark k ≡ true
marks token (kind.Digits value) is = absurd (not-empty token _ is (mark-is token _ is))
marks token (kind.Stack stack) is = absurd (not-empty token _ is (mark-is token _ is))
marks token (kind.Output output) is = absurd (not-empty token _ is (mark-is token _ is))
marks token (kind.Name name) is = absurd (not-empty token _ is (mark-is token _ is))
marks token kind.Other is = absurd (not-empty token _ is (mark-is token _ is))
marks token _ is = refl

-- what a token of a kind is by the tables
abbrev pub IsOfKind : Token → Kind → Type 0
IsOfKind token (kind.Digits value) = (is_digits token ≡ true) × (literal token ≡ value)
IsOfKind token (kind.Stack stack) = stack_word token ≡ Some stack
IsOfKind token (kind.Output output) = output_word token ≡ Some output
IsOfKind token (kind.Name name) = neighbour_name token ≡ Some name
IsOfKind token _ = Unit {0}

mark-of_kind : (token : Token) (k : Kind) → is_mark k ≡ true → IsOfKind token k
mark-of_kind token (kind.Digits value) is = cc is
mark-of_kind token (kind.Stack stack) is = cc is
mark-of_kind token (kind.Output output) is = cc is
mark-of_kind token (kind.Name name) is = cc is
mark-of_kind token _ is = tt

rest-of_kind : (token : Token) (digits : Bool) → is_digits token ≡ digits →
    IsOfKind token (cond digits (kind.Digits (literal token)) kind.Other)
rest-of_kind token true is = (is, refl)
rest-of_kind token false is = tt

by_tables : (token : Token) (marked : Option Kind) (stack : Option StackWord)
    (output : Option Output) (name : Option Name) → mark token ≡ marked →
    stack_word token ≡ stack → output_word token ≡ output → neighbour_name token ≡ name →
    IsOfKind token (unwrap_or (option_or marked
    (option_or (option_map kind.Stack stack)
    (option_or (option_map kind.Output output) (option_map kind.Name name))))
    (cond (is_digits token) (kind.Digits (literal token)) kind.Other))
by_tables token (Some marked) stack output name m s o n =
    mark-of_kind token marked (marks token marked m)
by_tables token None (Some stack) output name m s o n = s
by_tables token None None (Some output) name m s o n = o
by_tables token None None None (Some name) m s o n = n
by_tables token None None None None m s o n = rest-of_kind token (is_digits token) refl

-- each token is by the tables what its kind says
pub of_kind : (token : Token) → IsOfKind token (kind_of token)
unfolding kind_of
of_kind token =
    by_tables token (mark token) (stack_word token) (output_word token) (neighbour_name token)
    refl refl refl refl

other-unmarked : (words : Option Kind) (unmarked k : Kind) → is_mark unmarked ≡ false →
    ((found : Kind) → words ≡ Some found → is_mark found ≡ false) →
    unwrap_or words unmarked ≡ k → is_mark k ≡ false
other-unmarked None unmarked k plain each is = sym (ap is_mark is) ∙ plain
other-unmarked (Some word) unmarked k plain each is = sym (ap is_mark is) ∙ each word refl

word-unmarked : (stack : Option StackWord) (output : Option Output) (name : Option Name)
    (k : Kind) →
    option_or (option_map kind.Stack stack)
    (option_or (option_map kind.Output output) (option_map kind.Name name)) ≡ Some k →
    is_mark k ≡ false
word-unmarked (Some stack) output name k is =
    let same : kind.Stack stack ≡ k = cc is in sym (ap is_mark same)
word-unmarked None (Some output) name k is =
    let same : kind.Output output ≡ k = cc is in sym (ap is_mark same)
word-unmarked None None (Some name) k is =
    let same : kind.Name name ≡ k = cc is in sym (ap is_mark same)
word-unmarked None None None k is = cc

digits-unmarked : (test : Bool) (value : Option ℕ) →
    is_mark (cond test (kind.Digits value) kind.Other) ≡ false
digits-unmarked true value = refl
digits-unmarked false value = refl

from_mark : (marked words : Option Kind) (unmarked k : Kind) → is_mark k ≡ true →
    (unwrap_or words unmarked ≡ k → is_mark k ≡ false) →
    unwrap_or (option_or marked words) unmarked ≡ k → marked ≡ Some k
from_mark None words unmarked k marks plain is = let e = plain is in cc
from_mark (Some marked) words unmarked k marks plain is = ap Some is

-- a mark is spelled in one way
pub kind_is : (token : Token) (k : Kind) → is_mark k ≡ true → kind_of token ≡ k →
    token ≡ spelled k
unfolding kind_of
kind_is token k marks is =
    mark-is token k (from_mark (mark token) _ _ k marks
    (other-unmarked _ _ k (digits-unmarked (is_digits token) (literal token))
    (word-unmarked (stack_word token) (output_word token) (neighbour_name token)))
    is)
