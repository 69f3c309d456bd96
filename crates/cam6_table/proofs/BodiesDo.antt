-- The code of a body does what the body means.
use Rattle.std.proofs.Common.{◌≡◌, ◌≤◌, ◌<◌, ℕ, zero, suc, Bool, true, false, List}
use Rattle.std.proofs.Common.{[], ◌∷◌, ◌++◌, length, refl, sym, ap, ◌∙◌, append_assoc}
use Rattle.std.proofs.Common.{arith, Some, None, Result, Ok, Err, cond, nat_lt, length-append}
use Rattle.std.specs.Result.{IsOk}
use Rattle.std.proofs.lemmas.Bool.{ltb-true, ltb-false}
use Rattle.cam6_planes.specs.Row.{bit_number}
use Rattle.cam6_wiring.specs.Seen.{Sees}
use Rattle.cam6_wiring.specs.declared.wirings.Wiring.{Wiring}
use Rattle.cam6_forth.specs.Tokens.{Token}
use Rattle.cam6_forth.specs.SingleWords.{IsSingle}
use Rattle.cam6_forth.proofs.Singles.{known_is_single}
use Rattle.cam6_forth.specs.Defined.{Defined}
use Rattle.cam6_forth.specs.Tree.{Body, End, Says, Choice, Either, Cases, Part, word_at}
use Rattle.cam6_forth.specs.Tree.{defined, AreWords, IsKnown, AreDefinitions}
use Rattle.cam6_forth.specs.declared.words.SingleWord.{SingleWord}
use Rattle.cam6_forth.specs.declared.words.SingleWord.TheVariants as single
use Rattle.cam6_table.specs.declared.codes.Instruction.TheVariants.{Case}
use Rattle.cam6_table.specs.declared.faults.RuleFault.TheVariants.{CaseIndex}
use Rattle.cam6_table.specs.declared.outputs.State.{State}
use Rattle.cam6_table.specs.Words.{pushed, on_stack}
use Rattle.cam6_table.specs.Outputs.{written}
use Rattle.cam6_table.specs.Meaning.{Meaning, then_do, with_stack, with_top}
use Rattle.cam6_table.specs.Meaning.{word_means, token_means, case_means, means, meanings}
use Rattle.cam6_table.specs.Codes.{Lines, go, exec}
use Rattle.cam6_table.specs.Internal.Emitting.{Instructions, word_code, line_code}
use Rattle.cam6_table.proofs.BodyCodes.{said_code, token_code, case_code, body_code}
use Rattle.cam6_table.proofs.BodyCodes.{tree_codes, IsCode, AreCodes, Agree}
use Rattle.cam6_table.proofs.Segments.{then_do-assoc, then_do-same, on_next, leads, runs, below_of}
use Rattle.cam6_table.proofs.Segments.{exec-pass, exec-over, then_is, choice_is, either_is}

module _ (wiring : Wiring) (sees : Sees) (shows : Lines) (agree : Agree wiring sees shows) where
  module _ (known : List Defined) (codes : List Instructions) (done : List Meaning)
      (codes_are : AreCodes shows codes done) where
    word_is : (token : Token) (said : SingleWord) (size : ℕ) →
        IsSingle wiring known token said size →
        IsCode shows (word_code wiring codes said) (word_means sees done said)
    word_is token (single.Literal v) size is later s =
        on_next (with_stack s (pushed v s.stack)) (runs shows later)
    word_is token (single.Name name) size is later s =
        let (spelled, (line, found), one) = is in
        ap (λ o. exec shows (line_code o ++ later) 0 None s) found ∙
        on_next (with_stack s (pushed (bit_number (shows line)) s.stack)) (runs shows later) ∙
        ap (λ b. then_do (with_stack s (pushed (bit_number b) s.stack)) (exec shows later 0 None))
        (agree name line found)
    word_is token (single.Stack stack) size is later s =
        on_next (with_stack s (on_stack stack s.stack)) (runs shows later)
    word_is token (single.Output target) size is later s =
        on_next (written target s) (runs shows later)
    word_is token (single.Defined position) size is later s = codes_are position later s

    said_is : (token : Token) (result : Result (SingleWord × ℕ) ℕ) →
        word_at wiring known token ≡ result → IsOk result →
        IsCode shows (said_code wiring codes result) (token_means sees done result)
    said_is token (Ok (said, size)) is ok =
        word_is token said size (known_is_single wiring known token said size is)
    said_is token (Err number) is ok = cc ok

    token_is : (token : Token) → IsOk (word_at wiring known token) →
        IsCode shows (token_code wiring known codes token)
        (token_means sees done (word_at wiring known token))
    token_is token ok = said_is token (word_at wiring known token) refl ok

    -- after a word of a case the rest of the case is passed
    leaves : (tokens : List Token) (later : Instructions) (s : State) →
        exec shows (case_code wiring known codes tokens ++ later) 0 None s
        ≡ exec shows later 0 None s
    leaves [] later s = refl
    leaves (token ∷ tokens) later s =
        let a = token_code wiring known codes token in
        let b = case_code wiring known codes tokens in
        ap (λ k. exec shows ((a ++ b) ++ later) k None s) (sym (length-append a b)) ∙
        exec-pass shows (a ++ b) later None s

    -- the word that is looked for is done
    finds : (tokens : List Token) (i : ℕ) → i < length tokens → AreWords wiring known tokens →
        (later : Instructions) (s : State) →
        exec shows (case_code wiring known codes tokens ++ later) 0 (Some i) s
        ≡ then_do (case_means sees wiring known done tokens i s) (exec shows later 0 None)
    finds [] i within are later s = absurd (omega arith)
    finds (token ∷ tokens) zero within are later s =
        let a = token_code wiring known codes token in
        let b = case_code wiring known codes tokens in
        ap (λ c. exec shows c 0 None s) (append_assoc a b later) ∙
        token_is token are.0 (b ++ later) s ∙
        then_do-same (token_means sees done (word_at wiring known token) s)
        (exec shows (b ++ later) 0 None) (exec shows later 0 None) (leaves tokens later)
    finds (token ∷ tokens) (suc i) within are later s =
        exec-over shows (token_code wiring known codes token)
        (case_code wiring known codes tokens) later (Some i) s ∙
        finds tokens i (omega arith) are.1 later s

    -- an index past the last word
    past : (tokens : List Token) (i : ℕ) (s : State) → length tokens ≤ i →
        case_means sees wiring known done tokens i s ≡ Err CaseIndex
    past [] i s e = refl
    past (token ∷ tokens) zero s e = absurd (omega arith)
    past (token ∷ tokens) (suc i) s e = past tokens i s (omega arith)

    module _ (tokens : List Token) (rest : Instructions) (n : Meaning)
        (are : AreWords wiring known tokens) (rest_is : IsCode shows rest n) where
      abbrev case_rest : Instructions
      case_rest = case_code wiring known codes tokens ++ rest

      abbrev chosen : ℕ → Meaning
      chosen i below = then_do (case_means sees wiring known done tokens i below) n

      looked : (later : Instructions) (i : ℕ) (below : State) (b : Bool) →
          nat_lt i (length tokens) ≡ b →
          then_do (cond b (leads below (go 0 (Some i))) (Err CaseIndex))
          (runs shows (case_rest ++ later))
          ≡ then_do (chosen i below) (exec shows later 0 None)
      looked later i below true e =
          ap (λ c. exec shows c 0 (Some i) below)
          (append_assoc (case_code wiring known codes tokens) rest later) ∙
          finds tokens i (ltb-true i (length tokens) e) are (rest ++ later) below ∙
          then_do-same (case_means sees wiring known done tokens i below)
          (exec shows (rest ++ later) 0 None)
          (λ x. then_do (n x) (exec shows later 0 None)) (rest_is later) ∙
          sym (then_do-assoc (case_means sees wiring known done tokens i below) n
          (exec shows later 0 None))
      looked later i below false e =
          ap (λ r. then_do (then_do r n) (exec shows later 0 None))
          (sym (past tokens i below (ltb-false i (length tokens) e)))

      by_index : (later : Instructions) (s : State) (xs : List ℕ) →
          then_do (with_top xs s (λ i below.
          cond (nat_lt i (length tokens)) (leads below (go 0 (Some i))) (Err CaseIndex)))
          (runs shows (case_rest ++ later))
          ≡ then_do (with_top xs s chosen) (exec shows later 0 None)
      by_index later s [] = refl
      by_index later s (i ∷ below) =
          looked later i (below_of s below) (nat_lt i (length tokens)) refl

      cases_is : IsCode shows (Case (length tokens) ∷ case_rest)
          (λ s. with_top s.stack s chosen)
      cases_is later s = by_index later s s.stack

    pub body_is : (body : Body) → IsKnown wiring known body →
        IsCode shows (body_code wiring known codes body) (means sees wiring known done body)
    body_is End ok = λ later s. refl
    body_is (Says token rest) ok =
        then_is shows (token_code wiring known codes token) (body_code wiring known codes rest)
        (token_means sees done (word_at wiring known token))
        (means sees wiring known done rest)
        (token_is token ok.0) (body_is rest ok.1)
    body_is (Choice on rest) ok =
        choice_is shows (body_code wiring known codes on) (body_code wiring known codes rest)
        (means sees wiring known done on) (means sees wiring known done rest)
        (body_is on ok.0) (body_is rest ok.1)
    body_is (Either on off rest) ok =
        either_is shows (body_code wiring known codes on) (body_code wiring known codes off)
        (body_code wiring known codes rest) (means sees wiring known done on)
        (means sees wiring known done off) (means sees wiring known done rest)
        (body_is on ok.0) (body_is off ok.1) (body_is rest ok.2)
    body_is (Cases words rest) ok =
        cases_is words (body_code wiring known codes rest) (means sees wiring known done rest)
        ok.0 (body_is rest ok.1)

  -- one more definition
  more_codes : (codes : List Instructions) (done : List Meaning) (c : Instructions)
      (m : Meaning) →
      length codes ≡ length done → AreCodes shows codes done → IsCode shows c m →
      AreCodes shows (codes ++ c ∷ []) (done ++ m ∷ [])
  more_codes [] [] c m e all is zero = is
  more_codes [] [] c m e all is (suc position) = all position
  more_codes [] (n ∷ done) c m e all is position = absurd (omega arith)
  more_codes (d ∷ codes) [] c m e all is position = absurd (omega arith)
  more_codes (d ∷ codes) (n ∷ done) c m e all is zero = all zero
  more_codes (d ∷ codes) (n ∷ done) c m e all is (suc position) =
      more_codes codes done c m (omega arith) (λ j. all (suc j)) is position

  -- the codes of a tree's definitions do what they mean
  pub codes_do : (parts : List Part) (known : List Defined) (codes : List Instructions)
      (done : List Meaning) → AreDefinitions wiring known parts →
      length codes ≡ length done → AreCodes shows codes done →
      AreCodes shows (tree_codes wiring known codes parts) (meanings sees wiring known done parts)
      × (length (tree_codes wiring known codes parts)
      ≡ length (meanings sees wiring known done parts))
  codes_do [] known codes done each e all = (all, e)
  codes_do (part ∷ parts) known codes done each e all =
      let code = body_code wiring known codes part.body in
      let meant = means sees wiring known done part.body in
      codes_do parts (known ++ defined wiring known part ∷ [])
      (codes ++ code ∷ []) (done ++ meant ∷ []) each.1
      (omega (arith, length-append codes (code ∷ []), length-append done (meant ∷ []), e))
      (more_codes codes done code meant e all
      (body_is known codes done all part.body each.0.known))
