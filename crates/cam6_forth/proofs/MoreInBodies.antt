-- What is being written grows by each token that an advance reads in a body or between braces.
use Rattle.std.proofs.Common.{◌≡◌, ◌≤◌, ◌<◌, ◌+◌, true, false, List, [], ◌∷◌, ◌++◌}
use Rattle.std.proofs.Common.{length, refl, sym, ◌∙◌, append_assoc, append-nil}
use Rattle.std.proofs.Common.{arith, MatchOption, Option, Some, None, is_some, Err, nat_lt, codes}
use Rattle.std.proofs.lemmas.Bool.{ltb-true}
use Rattle.cam6_wiring.specs.declared.wirings.Wiring.{Wiring}
use Rattle.cam6_forth.specs.declared.words.Word.TheVariants as word
use Rattle.cam6_forth.specs.declared.kinds.Kind.TheVariants as kind
use Rattle.cam6_forth.specs.declared.reader.Context.TheVariants as context
use Rattle.cam6_forth.specs.Tokens.{Token}
use Rattle.cam6_forth.specs.Comments.{Plain}
use Rattle.cam6_forth.specs.Kinds.{kind_of}
use Rattle.cam6_forth.specs.Limits.{max_size, max_open_ifs, too_many_ifs, out_of_place}
use Rattle.cam6_forth.specs.Defined.{Defined}
use Rattle.cam6_forth.specs.SingleWords.{definition_at}
use Rattle.cam6_forth.specs.Tree.{Body, End, Says, Choice, Either, Cases, Part, word_at, meant}
use Rattle.cam6_forth.specs.Tree.{spell_body, spell, words_of, size_of}
use Rattle.cam6_forth.specs.Unfinished.{OpenIf, Opened, Unfinished, Within, Braced, FitsAt, IsSound}
use Rattle.cam6_forth.specs.Unfinished.{AreBefore, AreOpenIfs, open_size, first_size}
use Rattle.cam6_forth.specs.Unfinished.{spell_first, spell_open_ifs, spell_unfinished}
use Rattle.cam6_forth.specs.Reading.{State, grown, grown_by, with_if, with_else, with_then}
use Rattle.cam6_forth.proofs.States.{open_flags, first_words, open_words, in_body, state_of}
use Rattle.cam6_forth.proofs.Runs.{ok_state, ok-same}
use Rattle.cam6_forth.specs.Trees.{join}
use Rattle.cam6_forth.proofs.Joined.{spell_body-join, depth_of-join, words_of-join, size_of-join}
use Rattle.cam6_forth.proofs.Joined.{known-join, case_words-more, case_size-more, words-more}
use Rattle.cam6_forth.proofs.FaultsOfSteps.{length-flags}
use Rattle.cam6_forth.proofs.OneMore.{Grows, if_then_ok, grown_ok, grown_by_ok}
use Rattle.cam6_forth.proofs.OneMore.{opened, same_body, same_braces}

module _ (w : Wiring) (parts : List Part) where
  abbrev done : List Defined
  done = meant w [] parts

  -- a body that stands in an IF
  abbrev in_if : Token → Body → Option Body → List OpenIf → Body → Unfinished
  in_if name before first outer said =
      Within parts (opened name (record { before = before; first = first } ∷ outer) said)

  -- IF in a body
  pub if_grows : (last : Opened) (t : Token) (s1 : State) → IsSound w (Within parts last) →
      t ≡ codes "IF" → with_if (state_of w (Within parts last)) ≡ ok_state s1 →
      Grows w (Within parts last) t Plain s1
  if_grows last t s1 sound e f =
      let s = state_of w (Within parts last) in
      let s0 = record s { open_ifs = false ∷ s.open_ifs } in
      let both = if_then_ok (nat_lt (length s.open_ifs) max_open_ifs) (grown 1 word.If s0) s1
      too_many_ifs f in
      let g = grown_ok 1 word.If s0 s1 both.1 in
      let fits = g.0 in
      let few : length last.open_ifs < max_open_ifs =
      omega (arith, ltb-true (length s.open_ifs) max_open_ifs both.0, length-flags last.open_ifs) in
      let open_if : OpenIf = record { before = last.said; first = None } in
      let new = opened last.name (open_if ∷ last.open_ifs) End in
      record {
        unfinished = Within parts new;
        sound = (
          sound.0,
          record {
            name = sound.1.name;
            fresh = sound.1.fresh;
            open_ifs = (sound.1.said, tt, few, sound.1.open_ifs);
            said = record { known = tt; depth = omega arith };
            size = omega arith;
          },
        );
        spelled = rw e (simp (append_assoc, append-nil));
        state = sym g.1 ∙ same_body done last.name _ _ _ _ (false ∷ open_flags last.open_ifs)
            (simp (append_assoc, append-nil)) (omega arith);
        mode = refl;
      }

  -- ELSE in a body
  pub else_grows : (name : Token) (open_ifs : List OpenIf) (said : Body) (t : Token) (s1 : State) →
      IsSound w (Within parts (opened name open_ifs said)) → t ≡ codes "ELSE" →
      with_else (open_flags open_ifs) (state_of w (Within parts (opened name open_ifs said)))
      ≡ ok_state s1 → Grows w (Within parts (opened name open_ifs said)) t Plain s1
  else_grows name [] said t s1 sound e f = let g : Err out_of_place ≡ ok_state s1 = f in cc g
  else_grows name (open_if ∷ outer) said t s1 sound e f =
      by_first open_if.before open_if.first sound f
    where
      by_first : (before : Body) (first : Option Body) →
          IsSound w (in_if name before first outer said) →
          with_else (is_some first ∷ open_flags outer)
          (state_of w (in_if name before first outer said)) ≡ ok_state s1 →
          Grows w (in_if name before first outer said) t Plain s1
      by_first before (Some body) all g = let h : Err out_of_place ≡ ok_state s1 = g in cc h
      by_first before None all g =
          let s = state_of w (in_if name before None outer said) in
          let s0 = record s { open_ifs = true ∷ open_flags outer } in
          let h = grown_ok 1 word.Else s0 s1 g in
          let fits = h.0 in
          let few = all.1.open_ifs.2 in
          let depth = all.1.said.depth in
          record {
            unfinished = in_if name before (Some said) outer End;
            sound = (
              all.0,
              record {
                name = all.1.name;
                fresh = all.1.fresh;
                open_ifs = (
                  all.1.open_ifs.0,
                  record { known = all.1.said.known; depth = omega arith },
                  few,
                  all.1.open_ifs.3,
                );
                said = record { known = tt; depth = omega arith };
                size = omega arith;
              },
            );
            spelled = rw e (simp (append_assoc, append-nil));
            state = sym h.1 ∙ same_body done name _ _ _ _ (true ∷ open_flags outer)
                (simp (append_assoc, append-nil)) (omega arith);
            mode = refl;
          }

  -- one more item after those before it, in the innermost body that is open: its tokens follow, it
  -- may stand there, and the state has its words and its size
  one_item : (u : Unfinished) (name : Token) (open_ifs : List OpenIf) (before item : Body)
      (t : Token) (s1 : State) → AreBefore w parts → kind_of name ≡ kind.Other →
      definition_at name done ≡ None → AreOpenIfs w done open_ifs →
      FitsAt w done (length open_ifs) before → FitsAt w done (length open_ifs) item →
      open_size w done open_ifs + (size_of w done before + size_of w done item) ≤ max_size →
      spell parts
      ++ (codes ":" ∷ (name ∷ (spell_open_ifs open_ifs ++ (spell_body before ++ spell_body item))))
      ≡ spell_unfinished u ++ t ∷ [] →
      s1 ≡ in_body done name
      (open_words w done open_ifs ++ (words_of w done before ++ words_of w done item))
      (open_size w done open_ifs + (size_of w done before + size_of w done item))
      (open_flags open_ifs) →
      Grows w u t Plain s1
  one_item u name open_ifs before item t s1 parts_are other fresh are front fits small spelled is =
      let front_depth = front.depth in
      let depth = fits.depth in
      record {
        unfinished = Within parts (opened name open_ifs (join before item));
        sound = (
          parts_are,
          record {
            name = other;
            fresh = fresh;
            open_ifs = are;
            said = record {
              known = known-join w done before item front.known fits.known;
              depth = omega (arith, depth_of-join before item);
            };
            size = omega (arith, size_of-join w done before item);
          },
        );
        spelled = rw (spell_body-join before item) spelled;
        state = is
            ∙ same_body done name _ _ _ _ (open_flags open_ifs)
            (rw (words_of-join w done before item) refl)
            (omega (arith, size_of-join w done before item));
        mode = refl;
      }

  -- the item that an open IF becomes by its THEN: its tokens, its words, its size, and that it may
  -- stand where the IF stood
  abbrev closed : Option Body → Body → Body
  closed None said = Choice said End
  closed (Some on) said = Either on said End

  closed-spell : (first : Option Body) (said : Body) → spell_body (closed first said)
      ≡ codes "IF" ∷ (spell_first first ++ (spell_body said ++ codes "THEN" ∷ []))
  closed-spell None said = refl
  closed-spell (Some on) said = simp append_assoc

  closed-words : (first : Option Body) (said : Body) → words_of w done (closed first said)
      ≡ word.If ∷ (first_words w done first ++ (words_of w done said ++ word.Then ∷ []))
  closed-words None said = refl
  closed-words (Some on) said = simp append_assoc

  closed-size : (first : Option Body) (said : Body) → size_of w done (closed first said)
      ≡ 1 + first_size w done first + size_of w done said
  closed-size None said = omega arith
  closed-size (Some on) said = omega arith

  closed-fits : (open_if : OpenIf) (outer : List OpenIf) (first : Option Body) (said : Body) →
      MatchOption first (Unit {0}) (FitsAt w done (length outer + 1)) →
      FitsAt w done (length (open_if ∷ outer)) said →
      FitsAt w done (length outer) (closed first said)
  closed-fits open_if outer None said _ fits =
      let depth = fits.depth in record { known = (fits.known, tt); depth = omega arith }
  closed-fits open_if outer (Some on) said on_fits fits =
      let depth = fits.depth in
      let on_depth = on_fits.depth in
      record { known = (on_fits.known, fits.known, tt); depth = omega arith }

  -- THEN in a body
  pub then_grows : (name : Token) (open_ifs : List OpenIf) (said : Body) (t : Token) (s1 : State) →
      IsSound w (Within parts (opened name open_ifs said)) → t ≡ codes "THEN" →
      with_then (open_flags open_ifs) (state_of w (Within parts (opened name open_ifs said)))
      ≡ ok_state s1 → Grows w (Within parts (opened name open_ifs said)) t Plain s1
  then_grows name [] said t s1 sound e f = let g : Err out_of_place ≡ ok_state s1 = f in cc g
  then_grows name (open_if ∷ outer) said t s1 sound e f =
      let before = open_if.before in
      let first = open_if.first in
      let size = sound.1.size in
      let item = closed first said in
      let ifs = sound.1.open_ifs in
      one_item (Within parts (opened name (open_if ∷ outer) said)) name outer before item t s1
      sound.0 sound.1.name sound.1.fresh ifs.3 ifs.0
      (closed-fits open_if outer first said ifs.1 sound.1.said)
      (omega (arith, closed-size first said))
      (rw (e, closed-spell first said) (simp append_assoc))
      (sym (ok-same _ _ f) ∙ same_body done name _ _ _ _ (open_flags outer)
      (rw (closed-words first said) (simp append_assoc))
      (omega (arith, closed-size first said)))

  -- `{` in a body
  pub brace_grows : (last : Opened) (t : Token) (s1 : State) → IsSound w (Within parts last) →
      t ≡ codes "{" →
      grown 1 word.Cases (record (state_of w (Within parts last)) { context = context.Braces })
      ≡ ok_state s1 → Grows w (Within parts last) t Plain s1
  brace_grows last t s1 sound e f =
      let s0 = record (state_of w (Within parts last)) { context = context.Braces } in
      let g = grown_ok 1 word.Cases s0 s1 f in
      let fits = g.0 in
      record {
        unfinished = Braced parts last [];
        sound = (
          sound.0,
          record {
            name = sound.1.name;
            fresh = sound.1.fresh;
            open_ifs = sound.1.open_ifs;
            said = sound.1.said;
            size = omega arith;
          },
          tt,
        );
        spelled = rw e (simp append_assoc);
        state = sym g.1
            ∙ same_braces done last.name _ _ _ _ (open_flags last.open_ifs) refl (omega arith);
        mode = refl;
      }

  -- a single word in a body
  pub word_grows : (last : Opened) (t : Token) (s1 : State) → IsSound w (Within parts last) →
      grown_by 0 (word_at w done t) (state_of w (Within parts last)) ≡ ok_state s1 →
      Grows w (Within parts last) t Plain s1
  word_grows last t s1 sound f =
      let g = grown_by_ok 0 (word_at w done t) (state_of w (Within parts last)) s1 f in
      let fits = g.1 in
      let depth = sound.1.said.depth in
      one_item (Within parts last) last.name last.open_ifs last.said (Says t End) t s1
      sound.0 sound.1.name sound.1.fresh sound.1.open_ifs sound.1.said
      (record { known = (g.0, tt); depth = omega arith }) (omega arith) (simp append_assoc)
      (sym g.2 ∙ same_body done last.name _ _ _ _ (open_flags last.open_ifs)
      (simp (append_assoc, append-nil)) (omega arith))

  -- a word between braces
  pub case_grows : (last : Opened) (words : List Token) (t : Token) (s1 : State) →
      IsSound w (Braced parts last words) →
      grown_by 1 (word_at w done t) (state_of w (Braced parts last words)) ≡ ok_state s1 →
      Grows w (Braced parts last words) t Plain s1
  case_grows last words t s1 sound f =
      let g = grown_by_ok 1 (word_at w done t) (state_of w (Braced parts last words)) s1 f in
      let fits = g.1 in
      record {
        unfinished = Braced parts last (words ++ t ∷ []);
        sound = (
          sound.0,
          record {
            name = sound.1.name;
            fresh = sound.1.fresh;
            open_ifs = sound.1.open_ifs;
            said = sound.1.said;
            size = omega (arith, case_size-more w done words t);
          },
          words-more w done words t sound.2 (g.0, tt),
        );
        spelled = simp append_assoc;
        state = sym g.2 ∙ same_braces done last.name _ _ _ _ (open_flags last.open_ifs)
            (rw (case_words-more w done words t) (simp append_assoc))
            (omega (arith, case_size-more w done words t));
        mode = refl;
      }

  -- `}` after words
  pub cases_grow : (last : Opened) (words : List Token) (t : Token) (s1 : State) →
      IsSound w (Braced parts last words) → t ≡ codes "}" →
      ok_state (record (state_of w (Braced parts last words)) {
        context = context.Inside;
        words = (state_of w (Braced parts last words)).words ++ word.EndCases ∷ [];
      }) ≡ ok_state s1 →
      Grows w (Braced parts last words) t Plain s1
  cases_grow last words t s1 sound e f =
      let size = sound.1.size in
      let depth = sound.1.said.depth in
      one_item (Braced parts last words) last.name last.open_ifs last.said (Cases words End) t s1
      sound.0 sound.1.name sound.1.fresh sound.1.open_ifs sound.1.said
      (record { known = (sound.2, tt); depth = omega arith }) (omega arith)
      (rw e (simp append_assoc))
      (sym (ok-same _ _ f) ∙ same_body done last.name _ _ _ _ (open_flags last.open_ifs)
      (simp append_assoc) (omega arith))
