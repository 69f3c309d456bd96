-- What the words at `--host` and `--name` ask for, by clap's rows.
use Rattle.std.proofs.Common.{◌≡◌, ◌⊎◌, ◌∙◌, List, Option, Some, ap, ap₂, subst}
use Rattle.std.specs.Prelude.{Result, Ok, Err, IfOk, IfErr, option_map}
use Rattle.clap.specs.Words.{Text}
use Rattle.cam6_arguments.specs.Refusals.{IsRefusal}
use Rattle.cam6_arguments.specs.declared.refusals.Refused.{Refused}
use Rattle.cam6_arguments.specs.declared.refusals.Refused.TheVariants.{NoMemory}
use Rattle.cam6_web_cli.specs.Words.{AreOptions, HasOptions, SayNothing, asked_with}
use Rattle.cam6_web_cli.specs.declared.options.Options.{Options}
use Rattle.cam6_web_cli.specs.declared.words.Numbers.{Numbers}

module _ (hosts names said_hosts said_names : Option (List Text)) (numbers : Numbers)
    (said : Option Numbers) (is_hosts : hosts ≡ said_hosts) (is_names : names ≡ said_names)
    (is_numbers : Some numbers ≡ said) where
  same : Some (asked_with hosts names numbers) ≡ option_map (asked_with said_hosts said_names) said
  same =
      ap₂ (λ h n. Some (asked_with h n numbers)) is_hosts is_names
      ∙ ap (option_map (asked_with said_hosts said_names)) is_numbers

  pub asked_so : (result : Result Options Refused)
      → IfOk result (λ options. AreOptions options (asked_with hosts names numbers))
      → IfOk result (λ options. HasOptions options (option_map (asked_with said_hosts said_names) said))
  asked_so (Ok options) are = subst (λ a. HasOptions options a) same are
  asked_so (Err refused) are = tt

  pub refused_so : (result : Result Options Refused)
      → IfErr result (λ refused. IsRefusal refused
      × (SayNothing (Some (asked_with hosts names numbers)) ⊎ (refused ≡ NoMemory)))
      → IfErr result (λ refused. IsRefusal refused
      × (SayNothing (option_map (asked_with said_hosts said_names) said) ⊎ (refused ≡ NoMemory)))
  refused_so (Ok options) is = tt
  refused_so (Err refused) is =
      (is.0, subst (λ a. SayNothing a ⊎ (refused ≡ NoMemory)) same is.1)
