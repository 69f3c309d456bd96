-- Tokens that were read without a fault can be completed to a rule.
use Rattle.std.proofs.Common.{◌≡◌, ◌<◌, ◌+◌, ℕ, Bool, true, false, List, [], ◌∷◌, ◌++◌, length}
use Rattle.std.proofs.Common.{refl, sym, ap, ◌∙◌, length-append, arith, codes, subst, Ok}
use Rattle.cam6_wiring.specs.declared.wirings.Wiring.{Wiring}
use Rattle.cam6_forth.specs.declared.words.Word.{Word}
use Rattle.cam6_forth.specs.declared.words.Word.TheVariants as word
use Rattle.cam6_forth.specs.Tokens.{Token}
use Rattle.cam6_forth.specs.Defined.{Defined}
use Rattle.cam6_forth.specs.Comments as comments
use Rattle.cam6_forth.specs.Tree.{case_words, case_size, meant}
use Rattle.cam6_forth.specs.Texts.{Begins}
use Rattle.cam6_forth.specs.Unfinished.{opened_size, Unfinished, Whole, Unnamed, Within, Braced}
use Rattle.cam6_forth.specs.Reading.{State, beginning, advance, read, numbered}
use Rattle.cam6_forth.proofs.States.{after_all, after_colon, in_body, in_braces}
use Rattle.cam6_forth.proofs.States.{open_flags, opened_words, state_of}
use Rattle.cam6_forth.proofs.Runs.{ok_state, run, then_run, append_run, length-all}
use Rattle.cam6_forth.proofs.Counting.{read-run}
use Rattle.cam6_forth.proofs.Steps as steps
use Rattle.cam6_forth.proofs.Following.{with_comment, plain_state}
use Rattle.cam6_forth.proofs.Fresh.{fresh_name, fresh-other, fresh-free}
use Rattle.cam6_forth.proofs.Readings.{run_sound, rule_back}

-- tokens that lead from a state to the end of a rule
pub record Completes (w : Wiring) (s : State) : Type 0 where
  pub later : List Token
  pub done : List Defined
  pub run : run w s later ≡ ok_state (after_all done)
  pub some : 0 < length done

module _ (w : Wiring) where
  -- one token more
  token_completes : (s next : State) (t : Token) → advance w s t ≡ Ok next → Completes w next →
      Completes w s
  token_completes s next t e c = record {
    later = t ∷ c.later;
    done = c.done;
    run = then_run w s next t c.later (ok_state (after_all c.done)) e c.run;
    some = c.some;
  }

  -- a definition
  end_completes : (done : List Defined) (name : Token) (words : List Word) (size : ℕ) →
      Completes w (in_body done name words size [])
  end_completes done name words size =
      let one : Defined = record { name = name; words = words; size = size } in
      let new = done ++ one ∷ [] in
      token_completes (in_body done name words size []) (after_all new) (codes ";")
      (steps.advance-end w done name words size)
      (record {
        later = [];
        done = new;
        run = refl;
        some = omega (arith, length-append done (one ∷ []));
      })

  -- a body with its open IFs
  body_completes : (flags : List Bool) (done : List Defined) (name : Token) (words : List Word)
      (size : ℕ) → Completes w (in_body done name words size flags)
  body_completes [] done name words size = end_completes done name words size
  body_completes (has_else ∷ outer) done name words size =
      token_completes (in_body done name words size (has_else ∷ outer))
      (in_body done name (words ++ word.Then ∷ []) size outer) (codes "THEN")
      (steps.advance-then w done name words size has_else outer)
      (body_completes outer done name (words ++ word.Then ∷ []) size)

  -- a definition that has only its `:`
  colon_completes : (done : List Defined) → Completes w (after_colon done)
  colon_completes done =
      token_completes (after_colon done) (in_body done (fresh_name done) [] 0 []) (fresh_name done)
      (steps.advance-name w done (fresh_name done) (fresh-other _) (fresh-free done))
      (end_completes done (fresh_name done) [] 0)

  -- what is being written
  unfinished_completes : (u : Unfinished) → Completes w (state_of w u)
  unfinished_completes (Whole []) =
      token_completes (after_all []) (after_colon []) (codes ":")
      (steps.advance-colon w [] (omega arith))
      (colon_completes [])
  unfinished_completes (Whole (part ∷ parts)) = record {
    later = [];
    done = meant w [] (part ∷ parts);
    run = refl;
    some = omega (arith, length-all w (part ∷ parts));
  }
  unfinished_completes (Unnamed parts) = colon_completes (meant w [] parts)
  unfinished_completes (Within parts last) =
      body_completes (open_flags last.open_ifs) (meant w [] parts) last.name _ _
  unfinished_completes (Braced parts last words) =
      let done = meant w [] parts in
      let said = opened_words w done last ++ (word.Cases ∷ case_words w done words) in
      let size = opened_size w done last + (1 + case_size w done words) in
      let flags = open_flags last.open_ifs in
      token_completes (in_braces done last.name said size flags)
      (in_body done last.name (said ++ word.EndCases ∷ []) size flags) (codes "}")
      (steps.advance-close w done last.name said size flags)
      (body_completes flags done last.name (said ++ word.EndCases ∷ []) size)

  -- the same in a comment
  comment_completes : (c : Bool) (u : Unfinished) → Completes w (with_comment c (state_of w u))
  comment_completes true u =
      token_completes (with_comment true (state_of w u)) (state_of w u) (codes ")")
      (ap ok_state (plain_state w u)) (unfinished_completes u)
  comment_completes false u = subst (Completes w) (sym (plain_state w u)) (unfinished_completes u)

  -- tokens that were read without a fault begin a rule
  pub run_begins : (before : List Token) (last : State) → run w beginning before ≡ ok_state last →
      Begins w before
  run_begins before last e =
      let r = run_sound w before last e in
      let c = subst (Completes w) (sym r.state)
      (comment_completes (comments.is_comment (comments.mode_after comments.Plain before))
      r.unfinished) in
      let all = before ++ c.later in
      let there = append_run w beginning last before c.later (ok_state (after_all c.done)) e c.run in
      let read_all : read w beginning 1 all ≡ Ok c.done =
      read-run w all beginning (after_all c.done) 1 there
      ∙ ap (λ r. numbered r (1 + length all)) (steps.some-is c.done c.some) in
      let back = rule_back w all c.done read_all in
      (c.later, back.0, back.1)
