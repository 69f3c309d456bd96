-- Code is no longer than its size allows.
use Rattle.std.proofs.Common.{◌≡◌, ℕ, zero, suc, ◌≤◌, List, [], ◌∷◌, ◌++◌, length, refl, sym, subst}
use Rattle.std.proofs.Common.{length-append, arith, Option, Some, None, Result, Ok, Err}
use Rattle.cam6_wiring.specs.declared.wirings.Wiring.{Wiring}
use Rattle.cam6_wiring.specs.Wiring.{line_of}
use Rattle.cam6_forth.specs.declared.words.SingleWord.{SingleWord}
use Rattle.cam6_forth.specs.declared.words.SingleWord.TheVariants as single
use Rattle.cam6_forth.specs.Tokens.{Token}
use Rattle.cam6_forth.specs.Limits.{max_size}
use Rattle.cam6_forth.specs.Defined.{Defined}
use Rattle.cam6_forth.specs.SingleWords.{IsSingle}
use Rattle.cam6_forth.proofs.Singles.{known_is_single}
use Rattle.cam6_forth.specs.Tree.{Body, End, Says, Choice, Either, Cases, Part, word_at, size_in}
use Rattle.cam6_forth.specs.Tree.{size_of, case_size, defined, meant, AreDefinitions, IsRule}
use Rattle.cam6_table.specs.declared.codes.Instruction.TheVariants.{Skip}
use Rattle.cam6_table.specs.Internal.Emitting.{Instructions, line_code, word_code, code_at}
use Rattle.cam6_table.proofs.BodyCodes.{said_code, token_code, case_code, body_code, tree_codes}

line-length : (line : Option ℕ) → length (line_code line) ≤ 1
line-length None = omega arith
line-length (Some line) = omega arith

-- each definition's code is at most as long as its size
abbrev AreFit : List Defined → List Instructions → Type 0
AreFit [] [] = Unit {0}
AreFit (definition ∷ known) (code ∷ codes) =
    (length code ≤ definition.size) × (definition.size ≤ max_size) × AreFit known codes
AreFit _ _ = ⊥

-- the code at the position of a definition
fit-at : (before : List Defined) (definition : Defined) (later : List Defined)
    (codes : List Instructions) → AreFit (before ++ definition ∷ later) codes →
    length (code_at codes (length before)) ≤ definition.size
fit-at [] definition later [] fit = absurd fit
fit-at [] definition later (code ∷ codes) fit = fit.0
fit-at (first ∷ before) definition later [] fit = absurd fit
fit-at (first ∷ before) definition later (code ∷ codes) fit =
    fit-at before definition later codes fit.2

-- one definition more
fit-more : (known : List Defined) (codes : List Instructions) (definition : Defined)
    (code : Instructions) → AreFit known codes → length code ≤ definition.size →
    definition.size ≤ max_size → AreFit (known ++ definition ∷ []) (codes ++ code ∷ [])
fit-more [] [] definition code fit short small = (short, small, tt)
fit-more [] (first ∷ codes) definition code fit short small = absurd fit
fit-more (first ∷ known) [] definition code fit short small = absurd fit
fit-more (first ∷ known) (head ∷ codes) definition code fit short small =
    (fit.0, fit.1, fit-more known codes definition code fit.2 short small)

-- no code is too long
fit-length : (known : List Defined) (codes : List Instructions) (position : ℕ) →
    AreFit known codes → length (code_at codes position) ≤ max_size
fit-length [] [] position fit = omega arith
fit-length [] (code ∷ codes) position fit = absurd fit
fit-length (definition ∷ known) [] position fit = absurd fit
fit-length (definition ∷ known) (code ∷ codes) zero fit = omega (arith, fit.0, fit.1)
fit-length (definition ∷ known) (code ∷ codes) (suc position) fit = fit-length known codes position fit.2

module _ (wiring : Wiring) (known : List Defined) (codes : List Instructions)
    (fit : AreFit known codes) where
  -- a single word
  word-length : (token : Token) (said : SingleWord) (size : ℕ) →
      IsSingle wiring known token said size → length (word_code wiring codes said) ≤ size
  word-length token (single.Literal value) size is = omega (arith, is.2)
  word-length token (single.Name name) size is =
      omega (arith, line-length (line_of wiring.hood wiring.minor name), is.2)
  word-length token (single.Stack stack) size is = omega (arith, is.1)
  word-length token (single.Output target) size is = omega (arith, is.1)
  word-length token (single.Defined position) size is =
      let (before, definition, later, split, at, named, none, sized) = is in
      let fits = fit-at before definition later codes (subst (λ l. AreFit l codes) split fit) in
      let short = subst (λ i. length (code_at codes i) ≤ definition.size) (sym at) fits in
      omega (arith, sized)

  said-length : (token : Token) (result : Result (SingleWord × ℕ) ℕ) →
      word_at wiring known token ≡ result →
      length (said_code wiring codes result) ≤ size_in result
  said-length token (Ok (said, size)) is =
      word-length token said size (known_is_single wiring known token said size is)
  said-length token (Err number) is = omega arith

  token-length : (token : Token) →
      length (token_code wiring known codes token) ≤ size_in (word_at wiring known token)
  token-length token = said-length token (word_at wiring known token) refl

  -- the words of a case
  case-length : (tokens : List Token) →
      length (case_code wiring known codes tokens) ≤ case_size wiring known tokens
  case-length [] = omega arith
  case-length (token ∷ tokens) =
      let a = token_code wiring known codes token in
      let z = case_code wiring known codes tokens in
      omega (arith, token-length token, case-length tokens, length-append a z)

  -- a body
  body-length : (body : Body) →
      length (body_code wiring known codes body) ≤ size_of wiring known body
  body-length End = omega arith
  body-length (Says token rest) =
      let a = token_code wiring known codes token in
      let z = body_code wiring known codes rest in
      omega (arith, token-length token, body-length rest, length-append a z)
  body-length (Choice on rest) =
      let a = body_code wiring known codes on in
      let z = body_code wiring known codes rest in
      omega (arith, body-length on, body-length rest, length-append a z)
  body-length (Either on off rest) =
      let a = body_code wiring known codes on in
      let b = body_code wiring known codes off in
      let z = body_code wiring known codes rest in
      omega (
        arith,
        body-length on,
        body-length off,
        body-length rest,
        length-append a (Skip (length b) ∷ (b ++ z)),
        length-append b z,
      )
  body-length (Cases tokens rest) =
      let a = case_code wiring known codes tokens in
      let z = body_code wiring known codes rest in
      omega (arith, case-length tokens, body-length rest, length-append a z)

-- the codes of a tree's definitions
tree-fit : (wiring : Wiring) (parts : List Part) (known : List Defined)
    (codes : List Instructions) → AreDefinitions wiring known parts → AreFit known codes →
    AreFit (meant wiring known parts) (tree_codes wiring known codes parts)
tree-fit wiring [] known codes each fit = fit
tree-fit wiring (part ∷ parts) known codes each fit =
    let definition = defined wiring known part in
    let code = body_code wiring known codes part.body in
    tree-fit wiring parts (known ++ definition ∷ []) (codes ++ code ∷ []) each.1
    (fit-more known codes definition code fit (body-length wiring known codes fit part.body)
    each.0.size)

-- the code of a rule's definition is at most 4,096 instructions
pub code_length : (wiring : Wiring) (parts : List Part) (position : ℕ) → IsRule wiring parts →
    length (code_at (tree_codes wiring [] [] parts) position) ≤ 4096
code_length wiring parts position rule =
    fit-length (meant wiring [] parts) (tree_codes wiring [] [] parts) position
    (tree-fit wiring parts [] [] rule.each tt)
