-- Each word of a tree has what it needs of what stands after it.
use Rattle.std.proofs.Common.{◌≡◌, ◌∙◌, ◌<◌, ◌-◌, ℕ, zero, suc, List, [], ◌∷◌, ◌++◌, length, drop}
use Rattle.std.proofs.Common.{Result, Ok, Err, refl, sym, ap, subst, arith}
use Rattle.std.proofs.Common.{length-append, slice_index_or}
use Rattle.cam6_wiring.specs.declared.wirings.Wiring.{Wiring}
use Rattle.cam6_forth.specs.declared.words.SingleWord.{SingleWord}
use Rattle.cam6_forth.specs.declared.words.SingleWord.TheVariants as single
use Rattle.cam6_forth.specs.declared.words.Word.{Word}
use Rattle.cam6_forth.specs.declared.words.Word.TheVariants as word
use Rattle.cam6_forth.specs.Tokens.{Token}
use Rattle.cam6_forth.specs.Defined.{Defined, RuleWords}
use Rattle.cam6_forth.specs.SingleWords.{IsSingle}
use Rattle.cam6_forth.proofs.Singles.{known_is_single}
use Rattle.cam6_forth.specs.Tree.{Body, End, Says, Choice, Either, Cases, Part, IsOfTree}
use Rattle.cam6_forth.specs.Tree.{word_at, words_in, words_of, case_words}
use Rattle.cam6_forth.specs.Tree.{IsKnown, defined, meant, AreDefinitions}
use Rattle.cam6_table.specs.declared.codes.Instruction.TheVariants.{Skip}
use Rattle.cam6_table.specs.Internal.Emitting.{Instructions, Emitted, emit, emit_all, nothing}
use Rattle.cam6_table.specs.Internal.Emitting.{words_code}
use Rattle.cam6_table.specs.Internal.Emitting.{IsThere, HasCode, HasIts}
use Rattle.cam6_table.specs.Internal.Emitting.{HaveTheirs, AllHaveTheirs}
use Rattle.cam6_table.proofs.BodyCodes.{body_code, case_code}
use Rattle.cam6_table.proofs.Emission.{at_code, in_case, all-append, emitted-case, emitted-body}
use Rattle.cam6_table.proofs.Emission.{added, meant-added}

-- words in a row have theirs where those after have, and those in front before them
have_both : (wiring : Wiring) (codes : List Instructions) (xs ys : List Word) (e : Emitted) →
    HaveTheirs wiring codes xs (emit_all wiring codes ys e) → HaveTheirs wiring codes ys e →
    HaveTheirs wiring codes (xs ++ ys) e
have_both wiring codes [] ys e front remaining = remaining
have_both wiring codes (x ∷ xs) ys e front remaining = (
  subst (HasIts wiring codes x) (sym (all-append wiring codes xs ys e)) front.0,
  have_both wiring codes xs ys e front.1 remaining,
)

module _ (wiring : Wiring) (known : List Defined) (codes : List Instructions)
    (each : length codes ≡ length known) where
  single_has : (token : Token) (said : SingleWord) (size : ℕ) →
      IsSingle wiring known token said size → HasCode wiring codes said
  single_has token (single.Literal v) size is = tt
  single_has token (single.Name name) size is = subst IsThere (sym is.1.1) tt
  single_has token (single.Stack stack) size is = tt
  single_has token (single.Output target) size is = tt
  single_has token (single.Defined position) size is =
      let (before, definition, later, split, at, named, none, sized) = is in
      omega (arith, each, at, ap length split, length-append before (definition ∷ later))

  -- a token that is known
  token_has : (token : Token) (result : Result (SingleWord × ℕ) ℕ) (e : Emitted) →
      word_at wiring known token ≡ result → HaveTheirs wiring codes (words_in result) e
  token_has token (Ok (said, size)) e is =
      (single_has token said size (known_is_single wiring known token said size is), tt)
  token_has token (Err number) e is = tt

  case_has : (tokens : List Token) (e : Emitted) →
      HaveTheirs wiring codes (case_words wiring known tokens) e
  case_has [] e = tt
  case_has (token ∷ tokens) e =
      let later = case_words wiring known tokens in
      have_both wiring codes (words_in (word_at wiring known token)) later e
      (token_has token (word_at wiring known token) (emit_all wiring codes later e) refl)
      (case_has tokens e)

  body_has : (body : Body) (c : Instructions) (landings : List ℕ) →
      IsKnown wiring known body →
      HaveTheirs wiring codes (words_of wiring known body) (at_code c landings)
  body_has End c landings are = tt
  body_has (Says token rest) c landings are =
      let words = words_of wiring known rest in
      have_both wiring codes (words_in (word_at wiring known token)) words (at_code c landings)
      (token_has token (word_at wiring known token)
      (emit_all wiring codes words (at_code c landings)) refl)
      (body_has rest c landings are.1)
  body_has (Choice on rest) c landings are =
      let z = body_code wiring known codes rest in
      let said = words_of wiring known on in
      let words = words_of wiring known rest in
      let opened = length (z ++ c) ∷ landings in
      let ends : emit_all wiring codes (word.Then ∷ words) (at_code c landings)
      ≡ at_code (z ++ c) opened =
      ap (emit wiring codes word.Then) (emitted-body wiring known codes rest c landings are.1) in
      let all : emit_all wiring codes (said ++ (word.Then ∷ words)) (at_code c landings)
      ≡ at_code (body_code wiring known codes on ++ (z ++ c)) opened =
      all-append wiring codes said (word.Then ∷ words) (at_code c landings)
      ∙ ap (emit_all wiring codes said) ends
      ∙ emitted-body wiring known codes on (z ++ c) opened are.0 in (
        subst (HasIts wiring codes word.If) (sym all) tt,
        have_both wiring codes said (word.Then ∷ words) (at_code c landings)
            (subst (HaveTheirs wiring codes said) (sym ends)
            (body_has on (z ++ c) opened are.0))
            (tt, body_has rest c landings are.1),
      )
  body_has (Either on off rest) c landings are =
      let a = body_code wiring known codes on in
      let b = body_code wiring known codes off in
      let later = body_code wiring known codes rest ++ c in
      let on_said = words_of wiring known on in
      let off_said = words_of wiring known off in
      let words = words_of wiring known rest in
      let e = at_code c landings in
      let opened = length later ∷ landings in
      let halved = length (b ++ later) ∷ landings in
      let skip = Skip (length (b ++ later) - length later) ∷ (b ++ later) in
      let ends : emit_all wiring codes (word.Then ∷ words) e ≡ at_code later opened =
      ap (emit wiring codes word.Then) (emitted-body wiring known codes rest c landings are.2) in
      let off_all : emit_all wiring codes (off_said ++ (word.Then ∷ words)) e
      ≡ at_code (b ++ later) opened =
      all-append wiring codes off_said (word.Then ∷ words) e
      ∙ ap (emit_all wiring codes off_said) ends
      ∙ emitted-body wiring known codes off later opened are.1 in
      let from_else : emit_all wiring codes (word.Else ∷ (off_said ++ (word.Then ∷ words))) e
      ≡ at_code skip halved = ap (emit wiring codes word.Else) off_all in
      let all : emit_all wiring codes
      (on_said ++ (word.Else ∷ (off_said ++ (word.Then ∷ words)))) e ≡ at_code (a ++ skip) halved =
      all-append wiring codes on_said (word.Else ∷ (off_said ++ (word.Then ∷ words))) e
      ∙ ap (emit_all wiring codes on_said) from_else
      ∙ emitted-body wiring known codes on skip halved are.0 in (
        subst (HasIts wiring codes word.If) (sym all) tt,
        have_both wiring codes on_said (word.Else ∷ (off_said ++ (word.Then ∷ words))) e
            (subst (HaveTheirs wiring codes on_said) (sym from_else)
            (body_has on skip halved are.0)) (
              subst (HasIts wiring codes word.Else) (sym off_all) tt,
              have_both wiring codes off_said (word.Then ∷ words) e
                  (subst (HaveTheirs wiring codes off_said) (sym ends)
                  (body_has off later opened are.1))
                  (tt, body_has rest c landings are.2),
            ),
      )
  body_has (Cases tokens rest) c landings are =
      let z = body_code wiring known codes rest in
      let said = case_words wiring known tokens in
      let words = words_of wiring known rest in
      let ends : emit_all wiring codes (word.EndCases ∷ words) (at_code c landings)
      ≡ in_case (z ++ c) landings (length (z ++ c)) 0 =
      ap (emit wiring codes word.EndCases)
      (emitted-body wiring known codes rest c landings are.1) in
      let all : emit_all wiring codes (said ++ (word.EndCases ∷ words)) (at_code c landings)
      ≡ in_case (case_code wiring known codes tokens ++ (z ++ c)) landings (length (z ++ c))
      (length tokens) =
      all-append wiring codes said (word.EndCases ∷ words) (at_code c landings)
      ∙ ap (emit_all wiring codes said) ends
      ∙ emitted-case wiring known codes tokens (z ++ c) landings are.0 in (
        subst (HasIts wiring codes word.Cases) (sym all) tt,
        have_both wiring codes said (word.EndCases ∷ words) (at_code c landings)
            (case_has tokens (emit_all wiring codes (word.EndCases ∷ words) (at_code c landings)))
            (tt, body_has rest c landings are.1),
      )

-- a word has what it needs of those after it
pub needs_at : (wiring : Wiring) (codes : List Instructions) (words : List Word) (e : Emitted)
    (i : ℕ) (d : Word) → i < length words → HaveTheirs wiring codes words e →
    HasIts wiring codes (slice_index_or words i d) (emit_all wiring codes (drop (suc i) words) e)
needs_at wiring codes [] e i d within have = absurd (omega (arith, within))
needs_at wiring codes (word ∷ words) e zero d within have = have.0
needs_at wiring codes (word ∷ words) e (suc i) d within have =
    needs_at wiring codes words e i d (omega (arith, within)) have.1

-- a definition's words have theirs, and so have those after it
pub first_has : (wiring : Wiring) (codes : List Instructions) (definitions : List Defined)
    (i : ℕ) (d : Defined) → i < length definitions →
    AllHaveTheirs wiring codes (drop i definitions) →
    HaveTheirs wiring codes (slice_index_or definitions i d).words nothing
    × AllHaveTheirs wiring
    (codes ++ words_code wiring codes (slice_index_or definitions i d).words ∷ [])
    (drop (suc i) definitions)
first_has wiring codes [] i d within have = absurd (omega (arith, within))
first_has wiring codes (definition ∷ definitions) zero d within have = have
first_has wiring codes (definition ∷ definitions) (suc i) d within have =
    first_has wiring codes definitions i d (omega (arith, within)) have

added_have : (wiring : Wiring) (parts : List Part) (known : List Defined)
    (codes : List Instructions) → length codes ≡ length known →
    AreDefinitions wiring known parts → AllHaveTheirs wiring codes (added wiring known parts)
added_have wiring [] known codes each are = tt
added_have wiring (part ∷ parts) known codes each are =
    let own = defined wiring known part in
    let code = words_code wiring codes own.words in (
      body_has wiring known codes each part.body [] [] are.0.known,
      added_have wiring parts (known ++ own ∷ []) (codes ++ code ∷ [])
          (omega (arith, each, length-append codes (code ∷ []), length-append known (own ∷ [])))
          are.1,
    )

-- each word of a rule has what it needs
pub rule_has : (rule : RuleWords) (wiring : Wiring) (definitions : List Defined) →
    wiring ≡ rule.wiring → definitions ≡ rule.definitions → IsOfTree rule →
    AllHaveTheirs wiring [] definitions
rule_has rule wiring definitions same_wiring same tree =
    let parts = tree.0 in
    let meant_have : AllHaveTheirs rule.wiring [] (meant rule.wiring [] parts) =
    subst (AllHaveTheirs rule.wiring []) (sym (meant-added rule.wiring parts []))
    (added_have rule.wiring parts [] [] refl tree.1.each) in
    let its : AllHaveTheirs rule.wiring [] rule.definitions =
    subst (λ (r : RuleWords). AllHaveTheirs rule.wiring [] r.definitions) (sym tree.2)
    meant_have in
    subst (AllHaveTheirs wiring []) (sym same)
    (subst (λ w. AllHaveTheirs w [] rule.definitions) (sym same_wiring) its)
