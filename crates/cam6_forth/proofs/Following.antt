-- Tokens with comments, and what is being written by them.
use Rattle.std.proofs.Common.{◌≡◌, ◌⊎◌, inl, inr, ℕ, Bool, true, false, not, List, [], ◌∷◌, ◌++◌}
use Rattle.std.proofs.Common.{refl, sym, ap, ◌∙◌, append_assoc, append-nil, Result, Ok, Err, cond}
use Rattle.cam6_wiring.specs.declared.wirings.Wiring.{Wiring}
use Rattle.cam6_forth.specs.declared.kinds.Kind.{Kind}
use Rattle.cam6_forth.specs.declared.kinds.Kind.TheVariants as kind
use Rattle.cam6_forth.specs.Tokens.{Token}
use Rattle.cam6_forth.specs.Kinds.{kind_of, ends_comment}
use Rattle.cam6_forth.specs.Comments.{Mode, Plain, AfterColon, InComment, mode_after_kind}
use Rattle.cam6_forth.specs.Comments.{next_mode, is_comment, with_token, uncommented, mode_after}
use Rattle.cam6_forth.specs.Unfinished.{Unfinished, Whole, Unnamed, Within}
use Rattle.cam6_forth.specs.Unfinished.{Braced, spell_unfinished, IsSound}
use Rattle.cam6_forth.specs.Reading.{State, advance, step_at}
use Rattle.cam6_forth.proofs.States.{state_of}
use Rattle.cam6_forth.proofs.Runs.{ok_state, ok-same, and_then, run, then_run}
use Rattle.cam6_forth.proofs.OneMore.{mode_of, Grows}
use Rattle.cam6_forth.proofs.MoreByTokens.{grows}

-- the same state in a comment or not
abbrev pub with_comment : Bool → State → State
with_comment c s = record s { comment = c }

-- where a token after it stands, if a comment is open or not
abbrev pub mode_at : Bool → Unfinished → Mode
mode_at true u = InComment
mode_at false u = mode_of u

-- nothing that is being written is a comment
pub plain_state : (w : Wiring) (u : Unfinished) → with_comment false (state_of w u) ≡ state_of w u
plain_state w (Whole parts) = refl
plain_state w (Unnamed parts) = refl
plain_state w (Within parts last) = refl
plain_state w (Braced parts last words) = refl

mode-plain : (u : Unfinished) → is_comment (mode_of u) ≡ false
mode-plain (Whole parts) = refl
mode-plain (Unnamed parts) = refl
mode-plain (Within parts last) = refl
mode-plain (Braced parts last words) = refl

-- a state after tokens that follow what is being written
pub record Follows (w : Wiring) (u : Unfinished) (mode : Mode) (ts : List Token) (last : State) :
    Type 0 where
  pub unfinished : Unfinished
  pub sound : IsSound w unfinished
  pub spelled : spell_unfinished unfinished ≡ spell_unfinished u ++ uncommented mode ts
  pub state : last ≡ with_comment (is_comment (mode_after mode ts)) (state_of w unfinished)

-- a token opens a comment, or `(` stands where a name is due
opens : (u : Unfinished) (k : Kind) →
    ((k ≡ kind.Open) × (mode_of u ≡ Plain)) ⊎ (k ≡ kind.Open → mode_of u ≡ AfterColon)
opens (Unnamed parts) k = inr (λ e. refl)
opens (Whole parts) kind.Open = inl (refl, refl)
opens (Within parts last) kind.Open = inl (refl, refl)
opens (Braced parts last words) kind.Open = inl (refl, refl)
opens u k = inr (λ e. cc e)

next_at : (ends : Bool) (u : Unfinished) → mode_of u ≡ Plain →
    mode_at (not ends) u ≡ cond ends Plain InComment
next_at true u e = e
next_at false u e = refl

said_token : (mode next : Mode) (t : Token) (later : List Token) → is_comment mode ≡ false →
    is_comment next ≡ false → with_token mode next t later ≡ t ∷ later
said_token InComment next t later e f = cc e
said_token Plain InComment t later e f = cc f
said_token AfterColon InComment t later e f = cc f
said_token Plain Plain t later e f = refl
said_token Plain AfterColon t later e f = refl
said_token AfterColon Plain t later e f = refl
said_token AfterColon AfterColon t later e f = refl

not_opened : (k : Kind) → (k ≡ kind.Open → Plain ≡ AfterColon) →
    is_comment (mode_after_kind k) ≡ false
not_opened kind.Open closed = cc (closed refl)
not_opened k closed = refl

-- a token that opens no comment is followed by none
next-plain : (u : Unfinished) (t : Token) → (kind_of t ≡ kind.Open → mode_of u ≡ AfterColon) →
    is_comment (next_mode (mode_of u) t) ≡ false
next-plain (Unnamed parts) t closed = refl
next-plain (Whole parts) t closed = not_opened (kind_of t) closed
next-plain (Within parts last) t closed = not_opened (kind_of t) closed
next-plain (Braced parts last words) t closed = not_opened (kind_of t) closed

-- the tokens outside comments, after one that opens none
said_next : (u : Unfinished) (t : Token) (ts : List Token) →
    (kind_of t ≡ kind.Open → mode_of u ≡ AfterColon) →
    uncommented (mode_of u) (t ∷ ts) ≡ t ∷ uncommented (next_mode (mode_of u) t) ts
said_next u t ts closed =
    said_token (mode_of u) (next_mode (mode_of u) t) t
    (uncommented (next_mode (mode_of u) t) ts) (mode-plain u) (next-plain u t closed)

and_then_ok : (r : Result State ℕ) (f : State → Result State ℕ) (last : State) →
    and_then r f ≡ ok_state last → (s1 : State) × (r ≡ ok_state s1) × (f s1 ≡ ok_state last)
and_then_ok (Ok s1) f last e = (s1, refl, e)
and_then_ok (Err x) f last e = cc

module _ (w : Wiring) where
  -- an advance outside comments
  pub step_plain : (u : Unfinished) (t : Token) →
      advance w (with_comment false (state_of w u)) t
      ≡ step_at w (state_of w u).context (state_of w u) (kind_of t) t
  step_plain u t = ap (λ s. step_at w s.context s (kind_of t) t) (plain_state w u)

  -- `(` where it opens a comment
  pub step_open : (u : Unfinished) (t : Token) → kind_of t ≡ kind.Open → mode_of u ≡ Plain →
      advance w (with_comment false (state_of w u)) t ≡ ok_state (with_comment true (state_of w u))
  step_open u t e f =
      step_plain u t ∙ ap (λ k. step_at w (state_of w u).context (state_of w u) k t) e ∙ opened u f
    where
      opened : (u : Unfinished) → mode_of u ≡ Plain →
          step_at w (state_of w u).context (state_of w u) kind.Open t
          ≡ ok_state (with_comment true (state_of w u))
      opened (Whole parts) e = refl
      opened (Unnamed parts) e = cc e
      opened (Within parts last) e = refl
      opened (Braced parts last words) e = refl

  -- the tokens outside comments, after one that opens a comment
  after_open : (u : Unfinished) (t : Token) (ts : List Token) → kind_of t ≡ kind.Open →
      mode_of u ≡ Plain →
      (uncommented (mode_of u) (t ∷ ts) ≡ uncommented InComment ts)
      × (mode_after (mode_of u) (t ∷ ts) ≡ mode_after InComment ts)
  after_open u t ts e f = (
    ap (λ m. uncommented m (t ∷ ts)) f
        ∙ ap (λ k. with_token Plain (mode_after_kind k) t (uncommented (mode_after_kind k) ts)) e,
    ap (λ m. mode_after m (t ∷ ts)) f ∙ ap (λ k. mode_after (mode_after_kind k) ts) e,
  )

  -- the same after a token that is said
  after_said : (u next : Unfinished) (t : Token) (ts : List Token) →
      mode_of next ≡ next_mode (mode_of u) t →
      uncommented (mode_of u) (t ∷ ts) ≡ t ∷ uncommented (mode_of next) ts
  after_said u next t ts e =
      ap (λ m. with_token (mode_of u) m t (uncommented m ts)) (sym e)
      ∙ said_token (mode_of u) (mode_of next) t (uncommented (mode_of next) ts)
      (mode-plain u) (mode-plain next)

  -- what follows a token in a comment
  in_comment : (u : Unfinished) (t : Token) (ts : List Token) (last : State) → mode_of u ≡ Plain →
      Follows w u (mode_at (not (ends_comment t)) u) ts last → Follows w u InComment (t ∷ ts) last
  in_comment u t ts last e r =
      let same = next_at (ends_comment t) u e in
      record {
        unfinished = r.unfinished;
        sound = r.sound;
        spelled = r.spelled ∙ ap (λ m. spell_unfinished u ++ uncommented m ts) same;
        state = r.state
            ∙ ap (λ m. with_comment (is_comment (mode_after m ts)) (state_of w r.unfinished)) same;
      }

  opening : (u : Unfinished) (t : Token) (ts : List Token) (last : State) → kind_of t ≡ kind.Open →
      mode_of u ≡ Plain → Follows w u InComment ts last → Follows w u (mode_of u) (t ∷ ts) last
  opening u t ts last e f r =
      let same = after_open u t ts e f in
      record {
        unfinished = r.unfinished;
        sound = r.sound;
        spelled = r.spelled ∙ ap (λ x. spell_unfinished u ++ x) (sym same.0);
        state = r.state
            ∙ ap (λ m. with_comment (is_comment m) (state_of w r.unfinished)) (sym same.1);
      }

  said : (u : Unfinished) (t : Token) (ts : List Token) (s1 last : State)
      (g : Grows w u t (next_mode (mode_of u) t) s1) →
      Follows w g.unfinished (mode_of g.unfinished) ts last →
      Follows w u (mode_of u) (t ∷ ts) last
  said u t ts s1 last g r = record {
    unfinished = r.unfinished;
    sound = r.sound;
    spelled = r.spelled ∙ ap (λ x. x ++ uncommented (mode_of g.unfinished) ts) g.spelled
        ∙ append_assoc (spell_unfinished u) (t ∷ []) (uncommented (mode_of g.unfinished) ts)
        ∙ ap (λ x. spell_unfinished u ++ x) (sym (after_said u g.unfinished t ts g.mode));
    state = r.state
        ∙ ap (λ m. with_comment (is_comment (mode_after m ts)) (state_of w r.unfinished)) g.mode;
  }

  -- what is read without a fault follows what is being written
  pub follows : (ts : List Token) (u : Unfinished) (c : Bool) (last : State) → IsSound w u →
      (c ≡ true → mode_of u ≡ Plain) → run w (with_comment c (state_of w u)) ts ≡ ok_state last →
      Follows w u (mode_at c u) ts last
  follows [] u true last sound p e = record {
    unfinished = u;
    sound = sound;
    spelled = sym (append-nil (spell_unfinished u));
    state = sym (ok-same _ _ e);
  }
  follows [] u false last sound p e = record {
    unfinished = u;
    sound = sound;
    spelled = sym (append-nil (spell_unfinished u));
    state = sym (ok-same _ _ e)
        ∙ ap (λ c. with_comment c (state_of w u)) (sym (mode-plain u));
  }
  follows (t ∷ ts) u true last sound p e =
      in_comment u t ts last (p refl)
      (follows ts u (not (ends_comment t)) last sound (λ x. p refl) e)
  follows (t ∷ ts) u false last sound p e =
      elim (opens u (kind_of t)) [
        | inl first ↦ opening u t ts last first.0 first.1
            (follows ts u true last sound (λ x. first.1)
            (sym (ap (λ r. and_then r (λ next. run w next ts)) (step_open u t first.0 first.1))
            ∙ e))
        | inr closed ↦
            (let f = and_then_ok (advance w (with_comment false (state_of w u)) t)
            (λ next. run w next ts) last e in
            let g = grows w u t f.0 sound closed (sym (step_plain u t) ∙ f.1) in
            let there : f.0 ≡ with_comment false (state_of w g.unfinished) =
            g.state ∙ sym (plain_state w g.unfinished) in
            said u t ts f.0 last g
            (follows ts g.unfinished false last g.sound (λ x. cc x)
            (ap (λ s. run w s ts) (sym there) ∙ f.2)))
      ]

  -- what is read without its comments is read with them
  pub with_comments : (ts : List Token) (u : Unfinished) (c : Bool) (last : State) → IsSound w u →
      (c ≡ true → mode_of u ≡ Plain) →
      run w (state_of w u) (uncommented (mode_at c u) ts) ≡ ok_state last →
      run w (with_comment c (state_of w u)) ts
      ≡ ok_state (with_comment (is_comment (mode_after (mode_at c u) ts)) last)
  with_comments [] u true last sound p e =
      ap (λ s. ok_state (with_comment true s)) (ok-same _ _ e)
  with_comments [] u false last sound p e =
      ap (λ c. ok_state (with_comment c (state_of w u))) (sym (mode-plain u))
      ∙ ap (λ s. ok_state (with_comment (is_comment (mode_of u)) s)) (ok-same _ _ e)
  with_comments (t ∷ ts) u true last sound p e =
      let same = next_at (ends_comment t) u (p refl) in
      with_comments ts u (not (ends_comment t)) last sound (λ x. p refl)
      (ap (λ m. run w (state_of w u) (uncommented m ts)) same ∙ e)
      ∙ ap (λ m. ok_state (with_comment (is_comment (mode_after m ts)) last)) same
  with_comments (t ∷ ts) u false last sound p e =
      elim (opens u (kind_of t)) [
        | inl first ↦
            (let same = after_open u t ts first.0 first.1 in
            then_run w (with_comment false (state_of w u)) (with_comment true (state_of w u)) t ts _
            (step_open u t first.0 first.1)
            (with_comments ts u true last sound (λ x. first.1)
            (ap (λ x. run w (state_of w u) x) (sym same.0) ∙ e)
            ∙ ap (λ m. ok_state (with_comment (is_comment m) last)) (sym same.1)))
        | inr closed ↦
            (let there = said_next u t ts closed in
            let f = and_then_ok (advance w (state_of w u) t)
            (λ next. run w next (uncommented (next_mode (mode_of u) t) ts)) last
            (ap (run w (state_of w u)) (sym there) ∙ e) in
            let plain = ap (λ s. advance w s t) (plain_state w u) in
            let g = grows w u t f.0 sound closed (sym (step_plain u t) ∙ plain ∙ f.1) in
            then_run w (with_comment false (state_of w u)) f.0 t ts _ (plain ∙ f.1)
            (ap (λ s. run w s ts) (g.state ∙ sym (plain_state w g.unfinished))
            ∙ with_comments ts g.unfinished false last g.sound (λ x. cc x)
            (ap (λ m. run w (state_of w g.unfinished) (uncommented m ts)) g.mode
            ∙ ap (λ s. run w s (uncommented (next_mode (mode_of u) t) ts)) (sym g.state) ∙ f.2)
            ∙ ap (λ m. ok_state (with_comment (is_comment (mode_after m ts)) last)) g.mode))
      ]
