-- What is read is the rule of a tree, or a fault of what is being written; and the other way round.
use Rattle.std.proofs.Common.{◌≡◌, ◌<◌, ◌+◌, ◌⊎◌, inl, inr, ℕ, Bool, true, false, not, List, []}
use Rattle.std.proofs.Common.{◌∷◌, length, refl, sym, ap, ◌∙◌, arith, Some, Result, Ok, Err, cond}
use Rattle.cam6_wiring.specs.declared.wirings.Wiring.{Wiring}
use Rattle.cam6_forth.specs.Tokens.{Token}
use Rattle.cam6_forth.specs.Kinds.{kind_of, ends_comment}
use Rattle.cam6_forth.specs.Limits.{out_of_place}
use Rattle.cam6_forth.specs.Defined.{Defined}
use Rattle.cam6_forth.specs.Comments.{Plain, is_comment, uncommented, mode_after}
use Rattle.cam6_forth.specs.Tree.{Part, meant}
use Rattle.cam6_forth.specs.Texts.{AreTokensOf}
use Rattle.cam6_forth.specs.Unfinished.{Unfinished, Whole, Unnamed, Within}
use Rattle.cam6_forth.specs.Unfinished.{Braced, spell_unfinished, IsSound}
use Rattle.cam6_forth.specs.Faults.{token_fault, end_fault, AreSoundTokens}
use Rattle.cam6_forth.specs.Faults.{HasTokenFault, HasEndFault}
use Rattle.cam6_forth.specs.Reading.{State, beginning, advance, finish, some_definition, read, numbered}
use Rattle.cam6_forth.proofs.States.{after_all, state_of}
use Rattle.cam6_forth.proofs.Runs.{ok_state, run, length-all}
use Rattle.cam6_forth.proofs.FaultsOfSteps.{fault_in, advance-fault, finish-fault}
use Rattle.cam6_forth.proofs.Following.{with_comment, plain_state, step_plain}
use Rattle.cam6_forth.proofs.Following.{follows, with_comments, Follows}
use Rattle.cam6_forth.proofs.SpelledIsRead.{run-unfinished}
use Rattle.cam6_forth.proofs.Steps.{some-is}
use Rattle.cam6_forth.proofs.Counting.{read-run, read-stops, read-ok, read-fault}

-- a fault that a result has
fault_is : {T : Type 0} (r : Result T ℕ) (number : ℕ) → fault_in r ≡ Some number → r ≡ Err number
fault_is (Ok value) number e = cc e
fault_is (Err found) number e = let same : found ≡ number = cc e in ap Err same

module _ (w : Wiring) where
  -- tokens without a fault so far lead to the state of what is being written
  pub sound_run : (u : Unfinished) (before : List Token) → AreSoundTokens w u before →
      run w beginning before
      ≡ ok_state (with_comment (is_comment (mode_after Plain before)) (state_of w u))
  sound_run u before sound =
      with_comments w before (Whole []) false (state_of w u) (tt, omega arith) (λ x. cc)
      (ap (run w beginning) sound.spelled ∙ run-unfinished w u sound.sound)

  -- and the other way round
  pub run_sound : (before : List Token) (last : State) → run w beginning before ≡ ok_state last →
      Follows w (Whole []) Plain before last
  run_sound before last e =
      follows w before (Whole []) false last (tt, omega arith) (λ x. cc) e

  -- a token's fault
  stop_fault : (u : Unfinished) (t : Token) (number : ℕ) →
      fault_in (advance w (state_of w u) t) ≡ token_fault w u (kind_of t) t
  stop_fault u t number =
      ap (λ s. fault_in (advance w s t)) (sym (plain_state w u))
      ∙ ap fault_in (step_plain w u t) ∙ advance-fault w u (kind_of t) t

  -- the fault of the end, in a comment or not
  last_fault : (c : Bool) (u : Unfinished) →
      fault_in (finish (with_comment c (state_of w u)))
      ≡ cond c (Some out_of_place) (end_fault u)
  last_fault true u = refl
  last_fault false u =
      ap (λ s. fault_in (finish s)) (plain_state w u) ∙ finish-fault w u

  -- a token's fault is read
  pub token_fault_read : (all : List Token) (number token_number : ℕ) →
      HasTokenFault w all number token_number → read w beginning 1 all ≡ Err (number, token_number)
  token_fault_read all number token_number fault =
      let there = sound_run fault.unfinished fault.before fault.sound
      ∙ ap (λ c. ok_state (with_comment c (state_of w fault.unfinished))) fault.closed
      ∙ ap ok_state (plain_state w fault.unfinished) in
      let refused = fault_is (advance w (state_of w fault.unfinished) fault.token) number
      (stop_fault fault.unfinished fault.token number ∙ fault.fault) in
      ap (read w beginning 1) fault.tokens
      ∙ read-stops w fault.before beginning (state_of w fault.unfinished) 1 fault.token fault.later
      number there refused
      ∙ ap (λ n. Err (number, n)) (omega (arith, fault.counted))

  -- the fault of the end is read
  pub end_fault_read : (all : List Token) (number token_number : ℕ) →
      HasEndFault w all number token_number → read w beginning 1 all ≡ Err (number, token_number)
  end_fault_read all number token_number fault =
      let c = is_comment (mode_after Plain all) in
      let last = with_comment c (state_of w fault.unfinished) in
      read-run w all beginning last 1 (sound_run fault.unfinished all fault.sound)
      ∙ ap (λ r. numbered r (1 + length all))
      (fault_is (finish last) number (last_fault c fault.unfinished ∙ fault.fault))
      ∙ ap (λ n. Err (number, n)) (omega (arith, fault.counted))

  -- the tokens of a rule are read as the rule
  pub rule_read : (parts : List Part) (all : List Token) → AreTokensOf w parts all →
      read w beginning 1 all ≡ Ok (meant w [] parts)
  rule_read parts all it =
      let done = meant w [] parts in
      let sound : AreSoundTokens w (Whole parts) all =
      record { spelled = it.spelled; sound = (it.rule.each, it.rule.limit) } in
      let there = sound_run (Whole parts) all sound
      ∙ ap (λ c. ok_state (with_comment c (after_all done))) it.closed in
      read-run w all beginning (after_all done) 1 there
      ∙ ap (λ r. numbered r (1 + length all))
      (some-is done (omega (arith, it.rule.some, length-all w parts)))

  -- a fault in a comment
  no_stop : (c : Bool) (s : State) (t : Token) (number : ℕ) →
      advance w (with_comment c s) t ≡ Err number → c ≡ false
  no_stop true s t number e =
      let g : ok_state (with_comment (not (ends_comment t)) s) ≡ Err number = e in cc g
  no_stop false s t number e = refl

  -- what is read with a fault has it
  pub fault_back : (all : List Token) (number token_number : ℕ) →
      read w beginning 1 all ≡ Err (number, token_number) →
      HasTokenFault w all number token_number ⊎ HasEndFault w all number token_number
  fault_back all number token_number e =
      elim (read-fault w all beginning 1 number token_number e) [
        | inl stop ↦
            (let before = stop.0 in
            let t = stop.1 in
            let r = run_sound before stop.3 stop.6 in
            let c = is_comment (mode_after Plain before) in
            let here : advance w (with_comment c (state_of w r.unfinished)) t ≡ Err number =
            ap (λ s. advance w s t) (sym r.state) ∙ stop.7 in
            let closed = no_stop c (state_of w r.unfinished) t number here in
            let plain = ap (λ b. with_comment b (state_of w r.unfinished)) closed
            ∙ plain_state w r.unfinished in
            inl (record {
              before = before;
              token = t;
              later = stop.2;
              tokens = stop.4;
              counted = omega (arith, stop.5);
              unfinished = r.unfinished;
              sound = record { spelled = sym r.spelled; sound = r.sound };
              closed = closed;
              fault = sym (stop_fault r.unfinished t number)
                  ∙ ap fault_in (ap (λ s. advance w s t) (sym plain) ∙ here);
            }))
        | inr end ↦
            (let r = run_sound all end.0 end.2 in
            let c = is_comment (mode_after Plain all) in
            inr (record {
              counted = omega (arith, end.1);
              unfinished = r.unfinished;
              sound = record { spelled = sym r.spelled; sound = r.sound };
              fault = sym (last_fault c r.unfinished)
                  ∙ ap fault_in (ap finish (sym r.state) ∙ end.3);
            }))
      ]

  -- a text may end outside comments and after a definition
  rule_at_end : (c : Bool) (u : Unfinished) (all : List Token) (out : List Defined) →
      is_comment (mode_after Plain all) ≡ c → uncommented Plain all ≡ spell_unfinished u →
      IsSound w u → finish (with_comment c (state_of w u)) ≡ Ok out →
      (parts : List Part) × AreTokensOf w parts all × (out ≡ meant w [] parts)
  rule_at_end true u all out opened spelled sound e =
      let g : Err out_of_place ≡ Ok out = e in cc g
  rule_at_end false (Unnamed parts) all out closed spelled sound e =
      let g : Err out_of_place ≡ Ok out = e in cc g
  rule_at_end false (Within parts last) all out closed spelled sound e =
      let g : Err out_of_place ≡ Ok out = e in cc g
  rule_at_end false (Braced parts last words) all out closed spelled sound e =
      let g : Err out_of_place ≡ Ok out = e in cc g
  rule_at_end false (Whole parts) all out closed spelled sound e =
      let same = some_is (meant w [] parts) e in (
        parts,
        record {
          spelled = spelled;
          closed = closed;
          rule = record {
            some = omega (arith, same.1, length-all w parts);
            limit = sound.1;
            each = sound.0;
          };
        },
        same.0,
      )
    where
      some_is : (done : List Defined) → some_definition done ≡ Ok out →
          (out ≡ done) × (0 < length done)
      some_is [] f = cc f
      some_is (first ∷ done) f = (cc f, omega arith)

  -- what is read without a fault is a rule
  pub rule_back : (all : List Token) (out : List Defined) → read w beginning 1 all ≡ Ok out →
      (parts : List Part) × AreTokensOf w parts all × (out ≡ meant w [] parts)
  rule_back all out e =
      let there = read-ok w all beginning 1 out e in
      let r = run_sound all there.0 there.1 in
      rule_at_end (is_comment (mode_after Plain all)) r.unfinished all out refl (sym r.spelled)
      r.sound (ap finish (sym r.state) ∙ there.2)
