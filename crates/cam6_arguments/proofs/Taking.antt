-- What clap makes of arguments is what the contracts of a program say, for any command that is simple.
use Rattle.std.proofs.Common.{◌≡◌, ◌⊎◌, [], List, Result, Ok, Err, IfOk, IfErr, ◌∙◌, ap, subst, sym}
use Rattle.std.proofs.Common.{true}
use Rattle.clap.specs.Words.{App, HasKind, HasMatchesOf, Row, Text, fault_of, found_of, is_simple}
use Rattle.clap.specs.Words.{is_simple_and_free, kind_of, matches_of, rows_of}
use Rattle.clap.specs.declared.error.Error.{Error}
use Rattle.clap.specs.declared.parser.matches.ArgMatches.{ArgMatches}
use Rattle.cam6_arguments.specs.Refusals.{IsOfKind, IsRefusal, Refuses}
use Rattle.cam6_arguments.specs.declared.refusals.Refused.{Refused}
use Rattle.cam6_arguments.specs.declared.refusals.Refused.TheVariants.{NoMemory}
use Rattle.cam6_arguments.proofs.Refusing.{refused_by_kind, refused_unsaid}

-- a program's command, and that which the code makes
module _ (program app : App) (words : List Text) (is : app ≡ program)
    (is_free : is_simple_and_free program ≡ true) where
  -- an error of clap's for the program
  pub refused_as_clap_does : (nothing : Type 0) (refused : Refused) (e : Error)
      → (is_simple_and_free app ≡ true → HasKind (fault_of app words) e)
      → IsOfKind refused (kind_of e) → Refuses (fault_of program words) nothing refused
  refused_as_clap_does nothing refused e has of_kind =
      refused_by_kind nothing (fault_of program words) refused e
      (subst (λ a. HasKind (fault_of a words) e) is (has (ap is_simple_and_free is ∙ is_free)))
      of_kind

  module _ (is_plain : is_simple program ≡ true) (m : ArgMatches) (has : HasMatchesOf app words m)
      (passes : is_simple_and_free app ≡ true → fault_of app words ≡ []) where
    rows_are : rows_of (found_of m) ≡ matches_of program words
    rows_are = (has (ap is_simple is ∙ is_plain)).0 ∙ ap (λ a. matches_of a words) is

    no_fault : fault_of program words ≡ []
    no_fault = sym (ap (λ a. fault_of a words) is) ∙ passes (ap is_simple_and_free is ∙ is_free)

    -- arguments that clap takes, and that ask for something by clap's rows
    pub asked_as_clap_takes : {T : Type 0} (HasTask : T → List Row → Type 0)
        (result : Result T Refused) → IfOk result (λ task. HasTask task (rows_of (found_of m)))
        → IfOk result (λ task. (fault_of program words ≡ [])
        × HasTask task (matches_of program words))
    asked_as_clap_takes HasTask (Ok task) has_task =
        (no_fault, subst (HasTask task) rows_are has_task)
    asked_as_clap_takes HasTask (Err refused) has_task = tt

    -- arguments that clap takes, and that ask for nothing
    pub refused_as_unsaid : {T : Type 0} (AskNothing : List Row → Type 0)
        (result : Result T Refused) → IfErr result (λ refused. IsRefusal refused
        × (AskNothing (rows_of (found_of m)) ⊎ (refused ≡ NoMemory)))
        → IfErr result (Refuses (fault_of program words) (AskNothing (matches_of program words)))
    refused_as_unsaid AskNothing (Ok task) none = tt
    refused_as_unsaid AskNothing (Err refused) none =
        refused_unsaid _ _ refused no_fault none.0
        (subst (λ rows. AskNothing rows ⊎ (refused ≡ NoMemory)) rows_are none.1)
