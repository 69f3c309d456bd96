use Rattle.std.proofs.Common.{◌∙◌, ap, ap₂, refl}
use Rattle.std.proofs.lemmas.Result.{IfOk-weaker}
use Rattle.clap.specs.Simple.{app_of_fields}
use Rattle.clap.specs.Words.{with_rule, with_subcommand}
use Rattle.cam6_cli.proofs.PlainCommands.{has_no_globals}
use Rattle.cam6_cli.proofs.words.program.Goals as goal

pub returns : goal.returns
returns c =
    let of_alone = c.side_option.ensures.rule in
    let of_replay = c.in_ok-replay.ensures in
    let of_serve = c.in_ok-serve.ensures in
    let alone = c.in_ok-alone.ensures.shape c.side_option.ensures.global
    ∙ ap₂ with_rule
    (ap app_of_fields c.after_help.ensures ∙ ap app_of_fields c.about.ensures ∙ c.new.ensures.app)
    of_alone.2 in
    let one = c.in_ok-subcommand.ensures.shape (has_no_globals _ _ alone refl)
    ∙ ap₂ with_subcommand
    c.new_command.ensures (ap (λ a. a.top) alone) in
    let two = c.in_ok-subcommand-2.ensures.shape (has_no_globals _ _ of_replay.2 refl)
    ∙ ap₂ with_subcommand one (ap (λ a. a.top) of_replay.2) in
    IfOk-weaker c.subcommand-3.result _ _ (λ command adds. (
      of_alone.0,
      of_replay.0,
      of_serve.0,
      of_alone.1,
      of_replay.1,
      of_serve.1,
      adds.shape (has_no_globals _ _ of_serve.2 refl)
          ∙ ap₂ with_subcommand two (ap (λ a. a.top) of_serve.2),
    )) c.subcommand-3.ensures
