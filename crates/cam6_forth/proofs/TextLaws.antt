-- The laws that tie texts, trees and faults.
use Rattle.std.proofs.Common.{◌≡◌, ◌<◌, ◌≤◌, ◌-◌, ◌⊎◌, inl, inr, ℕ, Bool, true, false, List}
use Rattle.std.proofs.Common.{[], ◌∷◌, ◌++◌, length, take, refl, sym, ap, ◌∙◌, append_assoc}
use Rattle.std.proofs.Common.{length-append, arith, Result, Ok, Err, cond, nat_lt, subst}
use Rattle.std.proofs.Math.Seq.{take-append_seam}
use Rattle.std.proofs.lemmas.Bool.{ltb-false, ltb-true, le-ltb, lt-ltb}
use Rattle.cam6_wiring.specs.declared.wirings.Wiring.{Wiring}
use Rattle.cam6_forth.specs.declared.faults.ParseFault.{ParseFault}
use Rattle.cam6_forth.specs.declared.faults.ParseFault.TheVariants as parse_fault
use Rattle.cam6_forth.specs.Tokens.{Token, tokens}
use Rattle.cam6_forth.specs.Limits.{max_text, too_long}
use Rattle.cam6_forth.specs.Defined.{Defined, RuleWords}
use Rattle.cam6_forth.specs.Tree.{Part, meant, rule_of, IsOfTree}
use Rattle.cam6_forth.specs.Texts.{AreTokensOf, IsTextOf, Begins}
use Rattle.cam6_forth.specs.Faults.{HasTokenFault, HasFault}
use Rattle.cam6_forth.specs.Reading.{beginning, read, read_text}
use Rattle.cam6_forth.specs.Outcome.{IsReadAs, IsThisRule, IsThisFault, IsAccepted, IsRefused}
use Rattle.cam6_forth.specs.Laws as laws
use Rattle.cam6_forth.proofs.Readings.{sound_run, token_fault_read, end_fault_read}
use Rattle.cam6_forth.proofs.Readings.{rule_read, rule_back, fault_back}
use Rattle.cam6_forth.proofs.Completions.{run_begins}

-- what a text is read as
abbrev Out : Type 0
Out = Result (List Defined) (ℕ × ℕ)

abbrev ok_out : List Defined → Out
ok_out done = Ok done

abbrev fault_out : ℕ → ℕ → Out
fault_out number token_number = Err (number, token_number)

abbrev numbers : ℕ → ℕ → ℕ × ℕ
numbers number token_number = (number, token_number)

same_fault : (a b c d : ℕ) → fault_out a b ≡ fault_out c d → (a ≡ c) × (b ≡ d)
same_fault a b c d e =
    let same : numbers a b ≡ numbers c d = cc e in
    (ap (λ pair. pair.0) same, ap (λ pair. pair.1) same)

same_done : (a b : List Defined) → ok_out a ≡ ok_out b → a ≡ b
same_done a b e = cc

abbrev pub rule_with : Wiring → List Defined → RuleWords
rule_with wiring done = record { wiring = wiring; definitions = done }

same_rule : (rule : RuleWords) (wiring : Wiring) (done : List Defined) → rule.wiring ≡ wiring →
    rule.definitions ≡ done → rule ≡ rule_with wiring done
same_rule rule wiring done e f =
    ap (λ v. rule_with v rule.definitions) e ∙ ap (rule_with wiring) f

read_short : (w : Wiring) (text : List ℕ) → length text ≤ max_text →
    read_text w text ≡ read w beginning 1 (tokens text)
unfolding read_text
read_short w text short =
    ap (λ b. cond b (fault_out too_long 0) (read w beginning 1 (tokens text)))
    (le-ltb max_text (length text) short)

read_long : (w : Wiring) (text : List ℕ) → max_text < length text →
    read_text w text ≡ fault_out too_long 0
unfolding read_text
read_long w text long =
    ap (λ b. cond b (fault_out too_long 0) (read w beginning 1 (tokens text)))
    (lt-ltb max_text (length text) long)

-- a text is too long or not
by_length : (text : List ℕ) → (max_text < length text) ⊎ (length text ≤ max_text)
by_length text = by_test (nat_lt max_text (length text)) refl
  where
    by_test : (long : Bool) → nat_lt max_text (length text) ≡ long →
        (max_text < length text) ⊎ (length text ≤ max_text)
    by_test true e = inl (ltb-true max_text (length text) e)
    by_test false e = inr (ltb-false max_text (length text) e)

module _ (w : Wiring) (text : List ℕ) where
  -- a rule is read as itself
  pub text_read : (parts : List Part) → IsTextOf w parts text →
      read_text w text ≡ ok_out (meant w [] parts)
  text_read parts it = read_short w text it.short ∙ rule_read w parts (tokens text) it.all

  -- a fault is read
  pub fault_read : (number token_number : ℕ) → HasFault w text number token_number →
      read_text w text ≡ fault_out number token_number
  fault_read number token_number (inl long) =
      read_long w text long.0
      ∙ ap (λ n. fault_out n 0) (sym long.1) ∙ ap (fault_out number) (sym long.2)
  fault_read number token_number (inr (short, inl fault)) =
      read_short w text short ∙ token_fault_read w (tokens text) number token_number fault
  fault_read number token_number (inr (short, inr fault)) =
      read_short w text short ∙ end_fault_read w (tokens text) number token_number fault

  -- what is read without a fault is a rule
  pub read_rule : (out : List Defined) → read_text w text ≡ ok_out out →
      (parts : List Part) × IsTextOf w parts text × (out ≡ meant w [] parts)
  read_rule out e =
      elim (by_length text) [
        | inl long ↦
            (let g : fault_out too_long 0 ≡ ok_out out = sym (read_long w text long) ∙ e in cc g)
        | inr short ↦
            (let back = rule_back w (tokens text) out (sym (read_short w text short) ∙ e) in
            (back.0, record { short = short; all = back.1 }, back.2))
      ]

  -- what is read with a fault has it
  pub read_fault_of : (number token_number : ℕ) → read_text w text ≡ fault_out number token_number →
      HasFault w text number token_number
  read_fault_of number token_number e =
      elim (by_length text) [
        | inl long ↦
            (let same = same_fault number token_number too_long 0 (sym e ∙ read_long w text long) in
            inl (long, same.0, same.1))
        | inr short ↦
            inr (
              short,
              fault_back w (tokens text) number token_number (sym (read_short w text short) ∙ e),
            )
      ]

  -- what is read to the end is the rule of a tree
  pub read_is_tree : (done : List Defined) → read w beginning 1 (tokens text) ≡ Ok done →
      IsOfTree (rule_with w done)
  read_is_tree done e =
      let back = rule_back w (tokens text) done e in
      (back.0, back.1.rule, ap (rule_with w) back.2)

  pub has_answer :
      ((parts : List Part) × IsTextOf w parts text)
      ⊎ ((number : ℕ) × (token_number : ℕ) × HasFault w text number token_number)
  has_answer = by_read (read_text w text) refl
    where
      by_read : (out : Out) → read_text w text ≡ out →
          ((parts : List Part) × IsTextOf w parts text)
          ⊎ ((number : ℕ) × (token_number : ℕ) × HasFault w text number token_number)
      by_read (Ok done) e = (let r = read_rule done e in inl (r.0, r.1))
      by_read (Err (number, token_number)) e =
          inr (number, token_number, read_fault_of number token_number e)

  -- what `parse` answers
  pub accepted_from : (result : Result RuleWords ParseFault) →
      IsReadAs (read_text w text) w result →
      IsAccepted w text result
  accepted_from (Ok rule) e =
      let r = read_rule rule.definitions e.0 in
      (r.0, r.1, same_rule rule w (meant w [] r.0) e.1 r.2)
  accepted_from (Err fault) e = tt

  pub refused_from : (result : Result RuleWords ParseFault) → IsReadAs (read_text w text) w result →
      IsRefused w text result
  refused_from (Ok rule) e = tt
  refused_from (Err parse_fault.NoMemory) e = tt
  refused_from (Err (parse_fault.Text fault)) e = read_fault_of fault.number fault.token e

  pub rule_from : (result : Result RuleWords ParseFault) → IsReadAs (read_text w text) w result →
      (parts : List Part) → IsTextOf w parts text → IsThisRule (rule_of w parts) result
  rule_from (Ok rule) e parts it =
      same_rule rule w (meant w [] parts) e.1
      (same_done rule.definitions (meant w [] parts) (sym e.0 ∙ text_read parts it))
  rule_from (Err parse_fault.NoMemory) e parts it = tt
  rule_from (Err (parse_fault.Text fault)) e parts it =
      let g : ok_out (meant w [] parts) ≡ fault_out fault.number fault.token =
      sym (text_read parts it) ∙ e in cc g

  pub fault_from : (result : Result RuleWords ParseFault) → IsReadAs (read_text w text) w result →
      (number token_number : ℕ) → HasFault w text number token_number →
      IsThisFault number token_number result
  fault_from (Ok rule) e number token_number fault =
      let g : fault_out number token_number ≡ ok_out rule.definitions =
      sym (fault_read number token_number fault) ∙ e.0 in cc g
  fault_from (Err parse_fault.NoMemory) e number token_number fault = tt
  fault_from (Err (parse_fault.Text found)) e number token_number fault =
      same_fault found.number found.token number token_number
      (sym e ∙ fault_read number token_number fault)

pub rule_or_fault : laws.HasRuleOrFault
rule_or_fault w text = has_answer w text

pub one_fault : laws.HasOneFault
one_fault w text number token_number fault = (others, no_rule)
  where
    others : (other other_token : ℕ) → HasFault w text other other_token →
        (other ≡ number) × (other_token ≡ token_number)
    others other other_token second =
        same_fault other other_token number token_number
        (sym (fault_read w text other other_token second)
        ∙ fault_read w text number token_number fault)

    no_rule : (parts : List Part) → IsTextOf w parts text → ⊥
    no_rule parts it =
        let g : fault_out number token_number ≡ ok_out (meant w [] parts) =
        sym (fault_read w text number token_number fault) ∙ text_read w text parts it in
        cc g

-- what stands before a token at the front of two lists
front : (first before : List Token) (token : Token) (later tail : List Token) →
    length before < length first → first ++ later ≡ before ++ token ∷ tail →
    (rest : List Token) × (first ≡ before ++ token ∷ rest)
front [] before token later tail within e = absurd (omega arith)
front (head ∷ first) [] token later tail within e =
    (first, ap (λ x. x ∷ first) (head_same head token (first ++ later) tail e))
  where
    head_same : (a b : Token) (xs ys : List Token) → (a ∷ xs) ≡ b ∷ ys → a ≡ b
    head_same a b xs ys g = cc
front (head ∷ first) (other ∷ before) token later tail within e =
    let g = both head other (first ++ later) (before ++ token ∷ tail) e in
    let r = front first before token later tail (omega arith) g.1 in
    (r.0, ap (λ x. x ∷ first) g.0 ∙ ap (λ x. other ∷ x) r.1)
  where
    both : (a b : Token) (xs ys : List Token) → (a ∷ xs) ≡ b ∷ ys → (a ≡ b) × (xs ≡ ys)
    both a b xs ys g = (cc g, cc g)

pub can_be_completed : laws.CanBeCompleted
can_be_completed w before unfinished sound =
    run_begins w before _ (sound_run w unfinished before sound)

pub fault_stays : laws.FaultStays
fault_stays w first later other number token_number within fault =
    let r = front first fault.before fault.token later fault.later
    (omega (arith, fault.counted)) fault.tokens in
    record {
      before = fault.before;
      token = fault.token;
      later = r.0 ++ other;
      tokens = ap (λ x. x ++ other) r.1 ∙ append_assoc fault.before (fault.token ∷ r.0) other;
      counted = fault.counted;
      unfinished = fault.unfinished;
      sound = fault.sound;
      closed = fault.closed;
      fault = fault.fault;
    }

take_front : (before later : List Token) (n : ℕ) → n ≡ length before →
    take n (before ++ later) ≡ before
take_front before later n e = rw e (take-append_seam before later)

pub fault_is_first : laws.FaultIsFirst
fault_is_first w all number token_number fault =
    let counted = fault.counted in
    let before : take (token_number - 1) all ≡ fault.before =
    ap (take (token_number - 1)) fault.tokens
    ∙ take_front fault.before (fault.token ∷ fault.later) (token_number - 1) (omega arith) in
    let together = fault.before ++ fault.token ∷ [] in
    let with : take token_number all ≡ together =
    ap (take token_number)
    (fault.tokens ∙ sym (append_assoc fault.before (fault.token ∷ []) fault.later))
    ∙ take_front together fault.later token_number
    (omega (arith, length-append fault.before (fault.token ∷ []))) in (
      subst (Begins w) (sym before)
          (run_begins w fault.before _ (sound_run w fault.unfinished fault.before fault.sound)),
      λ begins. never (subst (Begins w) with begins),
    )
  where
    never : Begins w (fault.before ++ fault.token ∷ []) → ⊥
    never begins =
        let list = (fault.before ++ fault.token ∷ []) ++ begins.0 in
        let same : HasTokenFault w list number token_number = record {
          before = fault.before;
          token = fault.token;
          later = begins.0;
          tokens = append_assoc fault.before (fault.token ∷ []) begins.0;
          counted = fault.counted;
          unfinished = fault.unfinished;
          sound = fault.sound;
          closed = fault.closed;
          fault = fault.fault;
        } in
        let g : fault_out number token_number ≡ ok_out (meant w [] begins.1) =
        sym (token_fault_read w list number token_number same)
        ∙ rule_read w begins.1 list begins.2 in
        cc g

pub end_is_too_early : laws.EndIsTooEarly
end_is_too_early w all number token_number fault = (
  run_begins w all _ (sound_run w fault.unfinished all fault.sound),
  λ parts it. never parts it,
)
  where
    never : (parts : List Part) → AreTokensOf w parts all → ⊥
    never parts it =
        let g : fault_out number token_number ≡ ok_out (meant w [] parts) =
        sym (end_fault_read w all number token_number fault) ∙ rule_read w parts all it in
        cc g
