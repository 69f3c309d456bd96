-- What is being written grows by each token that an advance reads.
use Rattle.std.proofs.Common.{◌≡◌, ◌<◌, ℕ, List, [], ◌∷◌, ◌++◌, length, refl, sym}
use Rattle.std.proofs.Common.{ap, ◌∙◌, append_assoc, zero-add, length-append, arith}
use Rattle.std.proofs.Common.{Option, Some, None, is_some, Err, cond, nat_lt, codes}
use Rattle.std.proofs.lemmas.Bool.{ltb-true}
use Rattle.cam6_wiring.specs.declared.wirings.Wiring.{Wiring}
use Rattle.cam6_forth.specs.declared.kinds.Kind.{Kind}
use Rattle.cam6_forth.specs.declared.kinds.Kind.TheVariants as kind
use Rattle.cam6_forth.specs.Tokens.{Token}
use Rattle.cam6_forth.specs.Kinds.{kind_of}
use Rattle.cam6_forth.specs.Comments.{Plain, AfterColon, mode_after_kind, next_mode}
use Rattle.cam6_forth.specs.Limits.{max_definitions, not_definable, out_of_place, too_long}
use Rattle.cam6_forth.specs.Defined.{Defined}
use Rattle.cam6_forth.specs.SingleWords.{word_of, definition_at}
use Rattle.cam6_forth.specs.Tree.{Body, End, Part, spell, words_of, size_of, meant}
use Rattle.cam6_forth.specs.Unfinished.{OpenIf, Opened, Unfinished, Whole}
use Rattle.cam6_forth.specs.Unfinished.{Unnamed, Within, Braced, IsSound}
use Rattle.cam6_forth.specs.Reading.{State, grown_by, outside, naming}
use Rattle.cam6_forth.specs.Reading.{inside, braces, with_definition, step_at}
use Rattle.cam6_forth.proofs.States.{after_all, after_colon, in_body, open_flags, state_of}
use Rattle.cam6_forth.proofs.Runs.{ok_state, ok-same, length-all}
use Rattle.cam6_forth.proofs.Joined as joined
use Rattle.cam6_forth.proofs.Marks.{kind_is}
use Rattle.cam6_forth.proofs.OneMore.{mode_of, Grows, if_ok, opened}
use Rattle.cam6_forth.proofs.MoreInBodies as more

module _ (w : Wiring) (parts : List Part) where
  abbrev done : List Defined
  done = meant w [] parts

  -- `:` after definitions
  colon_grows : (t : Token) (s1 : State) → IsSound w (Whole parts) → t ≡ codes ":" →
      outside (state_of w (Whole parts)) kind.Colon ≡ ok_state s1 →
      Grows w (Whole parts) t AfterColon s1
  colon_grows t s1 sound e f =
      let both = if_ok (nat_lt (length done) max_definitions) (after_colon done) s1 too_long f in
      let few : length parts < max_definitions =
      omega (arith, ltb-true (length done) max_definitions both.0, length-all w parts) in
      record {
        unfinished = Unnamed parts;
        sound = record { each = sound.0; few = few };
        spelled = ap (λ x. spell parts ++ x ∷ []) (sym e);
        state = sym both.1;
        mode = refl;
      }

  -- a name after `:`
  name_grows : (t : Token) (s1 : State) → IsSound w (Unnamed parts) → kind_of t ≡ kind.Other →
      naming (state_of w (Unnamed parts)) kind.Other t ≡ ok_state s1 →
      Grows w (Unnamed parts) t Plain s1
  name_grows t s1 sound e f = by_fresh (definition_at t done) refl f
    where
      by_fresh : (o : Option (ℕ × ℕ)) → definition_at t done ≡ o →
          cond (is_some o) (Err not_definable) (ok_state (in_body done t [] 0 [])) ≡ ok_state s1 →
          Grows w (Unnamed parts) t Plain s1
      by_fresh None p g = record {
        unfinished = Within parts (record { name = t; open_ifs = []; said = End });
        sound = (
          sound,
          record {
            name = e;
            fresh = p;
            open_ifs = tt;
            said = record { known = tt; depth = omega arith };
            size = omega arith;
          },
        );
        spelled = simp append_assoc;
        state = sym (ok-same _ _ g);
        mode = refl;
      }
      by_fresh (Some found) p g = cc g

  -- `;` after a body
  end_grows : (name : Token) (open_ifs : List OpenIf) (said : Body) (t : Token) (s1 : State) →
      IsSound w (Within parts (opened name open_ifs said)) → t ≡ codes ";" →
      with_definition (open_flags open_ifs) (state_of w (Within parts (opened name open_ifs said)))
      ≡ ok_state s1 →
      Grows w (Within parts (opened name open_ifs said)) t Plain s1
  end_grows name [] said t s1 sound e f =
      let last : Part = record { name = name; body = said } in
      let size = sound.1.size in
      let depth = sound.1.said.depth in
      let few = sound.0.few in
      record {
        unfinished = Whole (parts ++ last ∷ []);
        sound = (
          joined.definitions-more w parts last [] sound.0.each (record {
            name = sound.1.name;
            fresh = sound.1.fresh;
            known = sound.1.said.known;
            size = omega arith;
            depth = omega arith;
          }),
          omega (arith, length-append parts (last ∷ [])),
        );
        spelled = rw (e, joined.spell-more parts last) (simp append_assoc);
        state = sym (ok-same _ _ f) ∙ ap after_all
            (ap (λ n. done ++ record { name = name; words = words_of w done said; size = n } ∷ [])
            (zero-add (size_of w done said))
            ∙ sym (joined.meant-more w parts last []));
        mode = refl;
      }
  end_grows name (open_if ∷ outer) said t s1 sound e f =
      let g : Err out_of_place ≡ ok_state s1 = f in cc g

  -- a token outside definitions
  outside_grows : (k : Kind) (t : Token) (s1 : State) → IsSound w (Whole parts) → kind_of t ≡ k →
      (k ≡ kind.Open → ⊥) → outside (state_of w (Whole parts)) k ≡ ok_state s1 →
      Grows w (Whole parts) t (mode_after_kind k) s1
  outside_grows kind.Colon t s1 sound e closed f =
      colon_grows t s1 sound (kind_is t kind.Colon refl e) f
  outside_grows kind.Open t s1 sound e closed f = absurd (closed refl)
  outside_grows k t s1 sound e closed f = let g : Err out_of_place ≡ ok_state s1 = f in cc g

  -- right after `:`
  naming_grows : (k : Kind) (t : Token) (s1 : State) → IsSound w (Unnamed parts) → kind_of t ≡ k →
      naming (state_of w (Unnamed parts)) k t ≡ ok_state s1 → Grows w (Unnamed parts) t Plain s1
  naming_grows kind.Other t s1 sound e f = name_grows t s1 sound e f
  naming_grows k t s1 sound e f = let g : Err not_definable ≡ ok_state s1 = f in cc g

  -- in a body
  inside_grows : (last : Opened) (k : Kind) (t : Token) (s1 : State) →
      IsSound w (Within parts last) → kind_of t ≡ k → (k ≡ kind.Open → ⊥) →
      inside w (state_of w (Within parts last)) k t ≡ ok_state s1 →
      Grows w (Within parts last) t (mode_after_kind k) s1
  inside_grows last kind.Open t s1 sound e closed f = absurd (closed refl)
  inside_grows last kind.Colon t s1 sound e closed f =
      let g : Err out_of_place ≡ ok_state s1 = f in cc g
  inside_grows last kind.Semicolon t s1 sound e closed f =
      end_grows last.name last.open_ifs last.said t s1 sound (kind_is t kind.Semicolon refl e) f
  inside_grows last kind.If t s1 sound e closed f =
      more.if_grows w parts last t s1 sound (kind_is t kind.If refl e) f
  inside_grows last kind.Else t s1 sound e closed f =
      more.else_grows w parts last.name last.open_ifs last.said t s1 sound
      (kind_is t kind.Else refl e) f
  inside_grows last kind.Then t s1 sound e closed f =
      more.then_grows w parts last.name last.open_ifs last.said t s1 sound
      (kind_is t kind.Then refl e) f
  inside_grows last kind.OpenBrace t s1 sound e closed f =
      more.brace_grows w parts last t s1 sound (kind_is t kind.OpenBrace refl e) f
  inside_grows last k t s1 sound e closed f =
      more.word_grows w parts last t s1 sound
      (ap (λ j. grown_by 0 (word_of w done j t) (state_of w (Within parts last))) e ∙ f)

  -- between braces
  braces_grow : (last : Opened) (words : List Token) (k : Kind) (t : Token) (s1 : State) →
      IsSound w (Braced parts last words) → kind_of t ≡ k → (k ≡ kind.Open → ⊥) →
      braces w (state_of w (Braced parts last words)) k t ≡ ok_state s1 →
      Grows w (Braced parts last words) t (mode_after_kind k) s1
  braces_grow last words kind.Open t s1 sound e closed f = absurd (closed refl)
  braces_grow last words kind.Colon t s1 sound e closed f =
      let g : Err out_of_place ≡ ok_state s1 = f in cc g
  braces_grow last words kind.CloseBrace t s1 sound e closed f =
      more.cases_grow w parts last words t s1 sound (kind_is t kind.CloseBrace refl e) f
  braces_grow last words k t s1 sound e closed f =
      more.case_grows w parts last words t s1 sound
      (ap (λ j. grown_by 1 (word_of w done j t) (state_of w (Braced parts last words))) e ∙ f)

-- a token that an advance reads outside comments, and that opens none
pub grows : (w : Wiring) (u : Unfinished) (t : Token) (s1 : State) → IsSound w u →
    (kind_of t ≡ kind.Open → mode_of u ≡ AfterColon) →
    step_at w (state_of w u).context (state_of w u) (kind_of t) t ≡ ok_state s1 →
    Grows w u t (next_mode (mode_of u) t) s1
grows w (Whole parts) t s1 sound opens f =
    outside_grows w parts (kind_of t) t s1 sound refl (λ e. cc (opens e)) f
grows w (Unnamed parts) t s1 sound opens f = naming_grows w parts (kind_of t) t s1 sound refl f
grows w (Within parts last) t s1 sound opens f =
    inside_grows w parts last (kind_of t) t s1 sound refl (λ e. cc (opens e)) f
grows w (Braced parts last words) t s1 sound opens f =
    braces_grow w parts last words (kind_of t) t s1 sound refl (λ e. cc (opens e)) f
