-- The code of a body's words in a row is the code of the body.
use Rattle.std.proofs.Common.{◌≡◌, ℕ, suc, ◌+◌, ◌-◌, List, []}
use Rattle.std.proofs.Common.{◌∷◌, ◌++◌, length, sym, ap, ◌∙◌, refl, append_assoc}
use Rattle.std.proofs.Common.{append-nil, length-append, arith, Some, None, Result, Ok, Err}
use Rattle.std.specs.Result.{IsOk}
use Rattle.cam6_wiring.specs.declared.wirings.Wiring.{Wiring}
use Rattle.cam6_forth.specs.declared.words.SingleWord.{SingleWord}
use Rattle.cam6_forth.specs.declared.words.Word.{Word}
use Rattle.cam6_forth.specs.declared.words.Word.TheVariants as word
use Rattle.cam6_forth.specs.Tokens.{Token}
use Rattle.cam6_forth.specs.Defined.{Defined}
use Rattle.cam6_forth.specs.Tree.{Body, End, Says, Choice, Either, Cases, Part}
use Rattle.cam6_forth.specs.Tree.{word_at, words_in, words_of, case_words, AreWords}
use Rattle.cam6_forth.specs.Tree.{IsKnown, defined, meant, AreDefinitions, IsRule}
use Rattle.cam6_table.specs.declared.codes.Instruction.TheVariants.{SkipIfZero, Skip}
use Rattle.cam6_table.specs.declared.codes.Instruction.TheVariants.{Case, CaseWord}
use Rattle.cam6_table.specs.Internal.Emitting.{Instructions, Emitted, emit}
use Rattle.cam6_table.specs.Internal.Emitting.{emit_word, emit_all, words_code, all_codes}
use Rattle.cam6_table.proofs.BodyCodes.{said_code, token_code, case_code, body_code, tree_codes}

-- code with open IFs, outside a case
abbrev pub at_code : Instructions → List ℕ → Emitted
at_code c landings = record { code = c; landings = landings; case = None }

-- the same in a case
abbrev pub in_case : Instructions → List ℕ → (end count : ℕ) → Emitted
in_case c landings end count =
    record { code = c; landings = landings; case = Some (record { end = end; count = count }) }

-- the last words come first
pub all-append : (wiring : Wiring) (codes : List Instructions) (xs ys : List Word) (e : Emitted) →
    emit_all wiring codes (xs ++ ys) e ≡ emit_all wiring codes xs (emit_all wiring codes ys e)
all-append wiring codes [] ys e = refl
all-append wiring codes (x ∷ xs) ys e = ap (emit wiring codes x) (all-append wiring codes xs ys e)

-- so much stands in front
length_before : (xs ys : Instructions) → length (xs ++ ys) - length ys ≡ length xs
length_before xs ys = omega (arith, length-append xs ys)

module _ (wiring : Wiring) (known : List Defined) (codes : List Instructions) where
  -- a token that says a word
  pub emit-said : (result : Result (SingleWord × ℕ) ℕ) (e : Emitted) → IsOk result →
      emit_all wiring codes (words_in result) e
      ≡ emit_word e.case (said_code wiring codes result) e
  emit-said (Ok (said, size)) e ok = refl
  emit-said (Err number) e ok = cc ok

  -- the words of a case
  pub emitted-case : (tokens : List Token) (c : Instructions) (landings : List ℕ) →
      AreWords wiring known tokens →
      emit_all wiring codes (case_words wiring known tokens) (in_case c landings (length c) 0)
      ≡ in_case (case_code wiring known codes tokens ++ c) landings (length c) (length tokens)
  emitted-case [] c landings are = refl
  emitted-case (token ∷ tokens) c landings are =
      let a = token_code wiring known codes token in
      let z = case_code wiring known codes tokens in
      let result = word_at wiring known token in
      let remaining = in_case (z ++ c) landings (length c) (length tokens) in
      let own = length_before a (z ++ c) in
      let after : length (a ++ (z ++ c)) - length c ≡ length a + length z =
      omega (arith, length-append a (z ++ c), length-append z c) in
      let counted : length tokens + 1 ≡ suc (length tokens) = omega arith in
      all-append wiring codes (words_in result) (case_words wiring known tokens)
      (in_case c landings (length c) 0)
      ∙ ap (emit_all wiring codes (words_in result)) (emitted-case tokens c landings are.1)
      ∙ emit-said result remaining are.0
      ∙ ap (λ n. in_case (CaseWord n (length (a ++ (z ++ c)) - length c) ∷ (a ++ (z ++ c)))
      landings (length c) (length tokens + 1)) own
      ∙ ap (λ n. in_case (CaseWord (length a) n ∷ (a ++ (z ++ c)))
      landings (length c) (length tokens + 1)) after
      ∙ ap (λ n. in_case (CaseWord (length a) (length a + length z) ∷ (a ++ (z ++ c)))
      landings (length c) n) counted
      ∙ ap (λ x. in_case (CaseWord (length a) (length a + length z) ∷ x)
      landings (length c) (suc (length tokens))) (sym (append_assoc a z c))

  -- a body
  pub emitted-body : (body : Body) (c : Instructions) (landings : List ℕ) →
      IsKnown wiring known body →
      emit_all wiring codes (words_of wiring known body) (at_code c landings)
      ≡ at_code (body_code wiring known codes body ++ c) landings
  emitted-body End c landings are = refl
  emitted-body (Says token rest) c landings are =
      let a = token_code wiring known codes token in
      let z = body_code wiring known codes rest in
      let result = word_at wiring known token in
      all-append wiring codes (words_in result) (words_of wiring known rest) (at_code c landings)
      ∙ ap (emit_all wiring codes (words_in result)) (emitted-body rest c landings are.1)
      ∙ emit-said result (at_code (z ++ c) landings) are.0
      ∙ ap (λ x. at_code x landings) (sym (append_assoc a z c))
  emitted-body (Choice on rest) c landings are =
      let a = body_code wiring known codes on in
      let z = body_code wiring known codes rest in
      let said = words_of wiring known on in
      let words = words_of wiring known rest in
      let opened = length (z ++ c) ∷ landings in
      ap (emit wiring codes word.If)
      (all-append wiring codes said (word.Then ∷ words) (at_code c landings)
      ∙ ap (λ e. emit_all wiring codes said (emit wiring codes word.Then e))
      (emitted-body rest c landings are.1)
      ∙ emitted-body on (z ++ c) opened are.0)
      ∙ ap (λ n. at_code (SkipIfZero n ∷ (a ++ (z ++ c))) landings) (length_before a (z ++ c))
      ∙ ap (λ x. at_code (SkipIfZero (length a) ∷ x) landings) (sym (append_assoc a z c))
  emitted-body (Either on off rest) c landings are =
      let a = body_code wiring known codes on in
      let b = body_code wiring known codes off in
      let z = body_code wiring known codes rest in
      let on_said = words_of wiring known on in
      let off_said = words_of wiring known off in
      let words = words_of wiring known rest in
      let opened = length (z ++ c) ∷ landings in
      let later = b ++ (z ++ c) in
      let halved = length later ∷ landings in
      let skip = Skip (length b) ∷ later in
      let far : length (a ++ skip) - length later ≡ length a + 1 =
      omega (arith, length-append a skip) in
      let from_else : emit_all wiring codes (word.Else ∷ (off_said ++ (word.Then ∷ words)))
      (at_code c landings) ≡ at_code skip halved =
      ap (emit wiring codes word.Else)
      (all-append wiring codes off_said (word.Then ∷ words) (at_code c landings)
      ∙ ap (λ e. emit_all wiring codes off_said (emit wiring codes word.Then e))
      (emitted-body rest c landings are.2)
      ∙ emitted-body off (z ++ c) opened are.1)
      ∙ ap (λ n. at_code (Skip n ∷ later) halved) (length_before b (z ++ c)) in
      ap (emit wiring codes word.If)
      (all-append wiring codes on_said (word.Else ∷ (off_said ++ (word.Then ∷ words)))
      (at_code c landings)
      ∙ ap (emit_all wiring codes on_said) from_else
      ∙ emitted-body on skip halved are.0)
      ∙ ap (λ n. at_code (SkipIfZero n ∷ (a ++ skip)) landings) far
      ∙ ap (λ x. at_code x landings) (simp append_assoc)
  emitted-body (Cases tokens rest) c landings are =
      let a = case_code wiring known codes tokens in
      let z = body_code wiring known codes rest in
      let said = case_words wiring known tokens in
      let words = words_of wiring known rest in
      ap (emit wiring codes word.Cases)
      (all-append wiring codes said (word.EndCases ∷ words) (at_code c landings)
      ∙ ap (λ e. emit_all wiring codes said (emit wiring codes word.EndCases e))
      (emitted-body rest c landings are.1)
      ∙ emitted-case tokens (z ++ c) landings are.0)
      ∙ ap (λ x. at_code (Case (length tokens) ∷ x) landings) (sym (append_assoc a z c))

-- the definitions of a tree
abbrev pub added : Wiring → List Defined → List Part → List Defined
added wiring known [] = []
added wiring known (part ∷ parts) =
    defined wiring known part ∷ added wiring (known ++ defined wiring known part ∷ []) parts

pub meant-added : (wiring : Wiring) (parts : List Part) (known : List Defined) →
    meant wiring known parts ≡ known ++ added wiring known parts
meant-added wiring [] known = sym (append-nil known)
meant-added wiring (part ∷ parts) known =
    let more = known ++ defined wiring known part ∷ [] in
    meant-added wiring parts more
    ∙ append_assoc known (defined wiring known part ∷ []) (added wiring more parts)

-- the code of a body's words alone
pub words-body : (wiring : Wiring) (known : List Defined) (codes : List Instructions) (body : Body) →
    IsKnown wiring known body →
    words_code wiring codes (words_of wiring known body) ≡ body_code wiring known codes body
words-body wiring known codes body are =
    ap (λ e. e.code) (emitted-body wiring known codes body [] [] are)
    ∙ append-nil (body_code wiring known codes body)

all-added : (wiring : Wiring) (parts : List Part) (known : List Defined)
    (codes : List Instructions) → AreDefinitions wiring known parts →
    all_codes wiring codes (added wiring known parts) ≡ tree_codes wiring known codes parts
all-added wiring [] known codes each = refl
all-added wiring (part ∷ parts) known codes each =
    let more = known ++ defined wiring known part ∷ [] in
    ap (λ c. all_codes wiring (codes ++ c ∷ []) (added wiring more parts))
    (words-body wiring known codes part.body each.0.known)
    ∙ all-added wiring parts more (codes ++ body_code wiring known codes part.body ∷ []) each.1

-- the codes of a rule's definitions are those of its tree
pub rule_codes : (wiring : Wiring) (parts : List Part) → IsRule wiring parts →
    all_codes wiring [] (meant wiring [] parts) ≡ tree_codes wiring [] [] parts
rule_codes wiring parts rule =
    ap (all_codes wiring []) (meant-added wiring parts []) ∙ all-added wiring parts [] [] rule.each
