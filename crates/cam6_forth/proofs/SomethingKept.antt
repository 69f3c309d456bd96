-- Of a text that is a rule something is kept.
use Rattle.std.proofs.Common.{◌≡◌, ◌∙◌, ◌+◌, ℕ, Bool, true, false, not, ◌||◌, ◌&&◌, List, [], ◌∷◌}
use Rattle.std.proofs.Common.{length, refl, sym, ap, Result, Ok, Err, cond, is_some, nat_lt}
use Rattle.std.proofs.lemmas.Bool.{le-leb}
use Rattle.cam6_wiring.specs.declared.wirings.Wiring.{Wiring}
use Rattle.cam6_forth.specs.declared.kinds.Kind.{Kind}
use Rattle.cam6_forth.specs.declared.kinds.Kind.TheVariants as kind
use Rattle.cam6_forth.specs.declared.reader.Context.{Context}
use Rattle.cam6_forth.specs.declared.reader.Context.TheVariants as context
use Rattle.cam6_forth.specs.Tokens.{Token, tokens}
use Rattle.cam6_forth.specs.Kinds.{kind_of, ends_comment}
use Rattle.cam6_forth.specs.Limits.{max_text, max_definitions, not_definable}
use Rattle.cam6_forth.specs.Limits.{out_of_place, too_long}
use Rattle.cam6_forth.specs.Defined.{Defined}
use Rattle.cam6_forth.specs.SingleWords.{definition_at}
use Rattle.cam6_forth.specs.Reading.{State, beginning, advance, step_at, outside, naming, finish}
use Rattle.cam6_forth.specs.Reading.{finish_at, some_definition, numbered, go_on, read}
use Rattle.cam6_forth.specs.Reading.{is_in_body, then_so, begins}
use Rattle.cam6_forth.specs.Laws.{AcceptedIsKept}
use Rattle.cam6_forth.proofs.Runs.{ok_state, ok-same}
use Rattle.cam6_forth.proofs.OneMore.{if_ok}
use Rattle.cam6_forth.proofs.Readings.{rule_read}
use Rattle.cam6_forth.proofs.TextLaws.{read_rule}

-- what tokens are read as
abbrev Out : Type 0
Out = Result (List Defined) (ℕ × ℕ)

abbrev ok_out : List Defined → Out
ok_out done = Ok done

-- states that are one have the same definitions
same_done : (s next : State) → s ≡ next → next.done ≡ s.done
same_done s next e = ap (λ (x : State). x.done) (sym e)

-- after a definition's name
abbrev after_name : State → Token → State
after_name s t =
    record s { context = context.Inside; name = t; words = []; size = 0; open_ifs = [] }

-- after a token of a comment
abbrev after_comment : State → Token → State
after_comment s t = record s { comment = not (ends_comment t) }

-- a token outside definitions ends none
outside_ends_none : (s next : State) (k : Kind) → outside s k ≡ ok_state next →
    next.done ≡ s.done
outside_ends_none s next kind.Colon e =
    let s1 = record s { context = context.Naming } in
    same_done s1 next (if_ok (nat_lt (length s.done) max_definitions) s1 next too_long e).1
outside_ends_none s next kind.Open e =
    let s1 = record s { comment = true } in same_done s1 next (ok-same s1 next e)
outside_ends_none s next _ e = cc e

-- nor does a name
naming_ends_none : (s next : State) (k : Kind) (t : Token) → naming s k t ≡ ok_state next →
    next.done ≡ s.done
naming_ends_none s next kind.Other t e = by_name (is_some (definition_at t s.done)) e
  where
    by_name : (known : Bool) →
        cond known (Err not_definable) (ok_state (after_name s t)) ≡ ok_state next →
        next.done ≡ s.done
    by_name true f = cc f
    by_name false f = same_done (after_name s t) next (ok-same (after_name s t) next f)
naming_ends_none s next _ t e = cc e

-- a text doesn't end without a definition, nor where one has no name yet
no_end : (s : State) (n : ℕ) (out : List Defined) → s.done ≡ [] →
    is_in_body s.context ≡ false → numbered (finish s) n ≡ ok_out out → ⊥
no_end s n out none before e = by_comment s.comment e
  where
    by_done : (done : List Defined) → done ≡ [] →
        numbered (some_definition done) n ≡ ok_out out → ⊥
    by_done [] is f = cc f
    by_done (first ∷ later) is f = cc is

    by_context : (x : Context) → is_in_body x ≡ false →
        numbered (finish_at x s) n ≡ ok_out out → ⊥
    by_context context.Outside is f = by_done s.done none f
    by_context context.Naming is f = cc f
    by_context context.Inside is f = cc is
    by_context context.Braces is f = cc is

    by_comment : (comment : Bool) →
        numbered (cond comment (Err out_of_place) (finish_at s.context s)) n ≡ ok_out out → ⊥
    by_comment true f = cc f
    by_comment false f = by_context s.context before f

module _ (w : Wiring) where
  -- a token that stands in no body ends no definition
  step_ends_none : (x : Context) (s next : State) (k : Kind) (t : Token) →
      is_in_body x ≡ false → step_at w x s k t ≡ ok_state next → next.done ≡ s.done
  step_ends_none context.Outside s next k t before e = outside_ends_none s next k e
  step_ends_none context.Naming s next k t before e = naming_ends_none s next k t e
  step_ends_none context.Inside s next k t before e = cc before
  step_ends_none context.Braces s next k t before e = cc before

  -- in a comment or not
  ends_none : (s next : State) (t : Token) → is_in_body s.context ≡ false →
      advance w s t ≡ ok_state next → next.done ≡ s.done
  ends_none s next t before e = by_comment s.comment e
    where
      by_comment : (comment : Bool) →
          cond comment (ok_state (after_comment s t)) (step_at w s.context s (kind_of t) t)
          ≡ ok_state next → next.done ≡ s.done
      by_comment true f = same_done (after_comment s t) next (ok-same (after_comment s t) next f)
      by_comment false f = step_ends_none s.context s next (kind_of t) t before f

  -- it begins a body, or what follows it does
  then_begun : (s : State) (t : Token) (result : Result State ℕ) (n : ℕ) (out : List Defined)
      (more : State → Out) (rest : State → Bool) → s.done ≡ [] → is_in_body s.context ≡ false →
      advance w s t ≡ result →
      ((next : State) → next.done ≡ [] → is_in_body next.context ≡ false →
      more next ≡ ok_out out → rest next ≡ true) →
      go_on result n more ≡ ok_out out →
      then_so result (λ next. is_in_body next.context || rest next) ≡ true
  then_begun s t (Err number) n out more rest none before is later e = cc e
  then_begun s t (Ok next) n out more rest none before is later e =
      by_context (is_in_body next.context) refl
    where
      by_context : (b : Bool) → is_in_body next.context ≡ b → (b || rest next) ≡ true
      by_context true at = refl
      by_context false at = later next (ends_none s next t before is ∙ none) at e

  -- tokens that are read without a fault begin a body, where none was begun before
  begun : (ts : List Token) (s : State) (n : ℕ) (out : List Defined) → s.done ≡ [] →
      is_in_body s.context ≡ false → read w s n ts ≡ ok_out out → begins w s ts ≡ true
  begun [] s n out none before e = absurd (no_end s n out none before e)
  begun (t ∷ ts) s n out none before e =
      then_begun s t (advance w s t) n out _ _ none before refl
      (λ next still within others. begun ts next (n + 1) out still within others) e

-- of a text that is a rule something is kept
pub accepted_is_kept : AcceptedIsKept
accepted_is_kept w text out e =
    let rule = read_rule w text out e in
    ap (λ b. b && begins w beginning (tokens text)) (le-leb (length text) max_text rule.1.short)
    ∙ begun w (tokens text) beginning 1 _ refl refl
    (rule_read w rule.0 (tokens text) rule.1.all)
