-- Lists of events, put together.
use Rattle.std.proofs.Common.{◌≡◌, ◌∙◌, ℕ, List, [], ◌∷◌, ◌++◌, sym, refl, ap, subst, append_assoc}
use Rattle.std.proofs.lemmas.List.{append-nil}
use Rattle.cam6_commands.specs.declared.commands.Command.{Command}
use Rattle.cam6_commands.specs.declared.events.Event.{Event}
use Rattle.cam6_commands.specs.declared.outcomes.Outcome.{Outcome}
use Rattle.cam6_commands.specs.declared.replies.Reply.{Reply}
use Rattle.cam6_core.specs.Headline.{asked_by, given_to, commands, given}
use Rattle.cam6_core.specs.Model.{Model}
use Rattle.cam6_core.specs.Runs.{IsTheModels, AreTheModels, after_one, after_all}
use Rattle.cam6_handoff_laws.specs.Configurations.{Configuration, IsAtModel}
use Rattle.cam6_handoff_laws.specs.Executions.{AreEvents}

-- no event
pub no_events : (users : ℕ) (a : Model) (end : Configuration) → IsAtModel users end a →
    AreEvents users a [] [] (λ u. []) (λ u. []) end
unfolding AreTheModels after_all commands given
no_events users a end at = record {
  outcomes = tt;
  at = at;
  asked = λ u. refl;
  given = λ u. refl;
}

-- one event
pub one_event : (users : ℕ) (a : Model) (e : Event) (r : Outcome) (end : Configuration) →
    IsTheModels a e r → IsAtModel users end (after_one a e r) →
    AreEvents users a (e ∷ []) (r ∷ []) (λ u. asked_by u e r) (λ u. given_to u e r) end
unfolding AreTheModels after_all commands given
one_event users a e r end is at = record {
  outcomes = (is, tt);
  at = at;
  asked = λ u. append-nil (asked_by u e r);
  given = λ u. append-nil (given_to u e r);
}

-- two events
pub two_events : (users : ℕ) (a : Model) (e f : Event) (r q : Outcome) (end : Configuration)
    (put : ℕ → List Command) (told : ℕ → List Reply) → IsTheModels a e r →
    IsTheModels (after_one a e r) f q →
    IsAtModel users end (after_one (after_one a e r) f q) →
    ((u : ℕ) → asked_by u e r ++ asked_by u f q ≡ put u) →
    ((u : ℕ) → given_to u e r ++ given_to u f q ≡ told u) →
    AreEvents users a (e ∷ f ∷ []) (r ∷ q ∷ []) put told end
unfolding AreTheModels after_all commands given
two_events users a e f r q end put told first then at asked gave = record {
  outcomes = (first, (then, tt));
  at = at;
  asked = λ u. ap (λ (cs : List Command). asked_by u e r ++ cs) (append-nil (asked_by u f q)) ∙
      asked u;
  given = λ u. ap (λ (xs : List Reply). given_to u e r ++ xs) (append-nil (given_to u f q)) ∙
      gave u;
}

-- some events, and then others
module _ (fs : List Event) (ss : List Outcome) where
  outcomes_then : (es : List Event) (rs : List Outcome) (a : Model) → AreTheModels a es rs →
      AreTheModels (after_all a es rs) fs ss → AreTheModels a (es ++ fs) (rs ++ ss)
  unfolding AreTheModels after_all
  outcomes_then [] [] a are also = also
  outcomes_then [] (r ∷ rs) a are also = absurd are
  outcomes_then (e ∷ es) [] a are also = absurd are
  outcomes_then (e ∷ es) (r ∷ rs) a are also =
      (are.0, outcomes_then es rs (after_one a e r) are.1 also)

  after_then : (es : List Event) (rs : List Outcome) (a : Model) → AreTheModels a es rs →
      after_all a (es ++ fs) (rs ++ ss) ≡ after_all (after_all a es rs) fs ss
  unfolding AreTheModels after_all
  after_then [] [] a are = refl
  after_then [] (r ∷ rs) a are = absurd are
  after_then (e ∷ es) [] a are = absurd are
  after_then (e ∷ es) (r ∷ rs) a are = after_then es rs (after_one a e r) are.1

  commands_then : (es : List Event) (rs : List Outcome) (a : Model) (u : ℕ) →
      AreTheModels a es rs →
      commands u (es ++ fs) (rs ++ ss) ≡ commands u es rs ++ commands u fs ss
  unfolding AreTheModels commands
  commands_then [] [] a u are = refl
  commands_then [] (r ∷ rs) a u are = absurd are
  commands_then (e ∷ es) [] a u are = absurd are
  commands_then (e ∷ es) (r ∷ rs) a u are =
      ap (λ (cs : List Command). asked_by u e r ++ cs)
      (commands_then es rs (after_one a e r) u are.1) ∙
      sym (append_assoc (asked_by u e r) (commands u es rs) (commands u fs ss))

  given_then : (es : List Event) (rs : List Outcome) (a : Model) (u : ℕ) →
      AreTheModels a es rs → given u (es ++ fs) (rs ++ ss) ≡ given u es rs ++ given u fs ss
  unfolding AreTheModels given
  given_then [] [] a u are = refl
  given_then [] (r ∷ rs) a u are = absurd are
  given_then (e ∷ es) [] a u are = absurd are
  given_then (e ∷ es) (r ∷ rs) a u are =
      ap (λ (xs : List Reply). given_to u e r ++ xs)
      (given_then es rs (after_one a e r) u are.1) ∙
      sym (append_assoc (given_to u e r) (given u es rs) (given u fs ss))

pub both_events : (users : ℕ) (a : Model) (es fs : List Event) (rs ss : List Outcome)
    (put also_put : ℕ → List Command) (told also_told : ℕ → List Reply)
    (mid end : Configuration) → AreEvents users a es rs put told mid →
    AreEvents users (after_all a es rs) fs ss also_put also_told end →
    AreEvents users a (es ++ fs) (rs ++ ss) (λ u. put u ++ also_put u)
    (λ u. told u ++ also_told u) end
both_events users a es fs rs ss put also_put told also_told mid end first then = record {
  outcomes = outcomes_then fs ss es rs a first.outcomes then.outcomes;
  at = subst (IsAtModel users end) (sym (after_then fs ss es rs a first.outcomes)) then.at;
  asked = λ u. commands_then fs ss es rs a u first.outcomes ∙
      ap (λ (cs : List Command). cs ++ commands u fs ss) (first.asked u) ∙
      ap (λ (cs : List Command). put u ++ cs) (then.asked u);
  given = λ u. given_then fs ss es rs a u first.outcomes ∙
      ap (λ (xs : List Reply). xs ++ given u fs ss) (first.given u) ∙
      ap (λ (xs : List Reply). told u ++ xs) (then.given u);
}
