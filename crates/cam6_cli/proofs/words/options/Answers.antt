use Rattle.std.proofs.Common.{◌∙◌, ap, subst}
use Rattle.clap.specs.Words.{app_of}
use Rattle.cam6_arguments.specs.Refusals.{EndsWith}
use Rattle.cam6_cli.specs.CommandLine.{HasMode}
use Rattle.cam6_cli.specs.Slips.{told_of}
use Rattle.cam6_cli.proofs.Refusals.{is_simple_program, refused_as_clap_does, some_program}
use Rattle.cam6_cli.proofs.ModesGiven.{mode_of_matches}
use Rattle.cam6_cli.proofs.words.options.Goals as goal

pub returns-in_default-clause-refused : goal.returns-in_default-clause-refused
returns-in_default-clause-refused c = (some_program.0, some_program.1, tt)

pub mode_options-requires : goal.mode_options-requires
mode_options-requires c =
    (mode_of_matches (app_of c.in-Ok.command) _ c.in-Ok-try_get_matches_from.matches c.in-Ok.ensures
    c.in-Ok-try_get_matches_from.ensures.matches c.in-Ok-try_get_matches_from.ensures.kinds).0

pub returns-in-Ok-try_get_matches_from-clause-mode :
    goal.returns-in-Ok-try_get_matches_from-clause-mode
returns-in-Ok-try_get_matches_from-clause-mode c =
    let mode = mode_of_matches (app_of c.in-Ok.command) _ c.in-Ok-try_get_matches_from.matches
    c.in-Ok.ensures c.in-Ok-try_get_matches_from.ensures.matches
    c.in-Ok-try_get_matches_from.ensures.kinds in
    let has = subst (HasMode c.mode_options.result) mode.1 c.mode_options.ensures in
    (app_of c.in-Ok.command, c.in-Ok.ensures, has)

pub returns-in-Ok-try_get_matches_from-clause-refused :
    goal.returns-in-Ok-try_get_matches_from-clause-refused
returns-in-Ok-try_get_matches_from-clause-refused c = (
  app_of c.in-Ok.command,
  c.in-Ok.ensures,
  c.in-Ok-try_get_matches_from.ensures.kinds
      (is_simple_program (app_of c.in-Ok.command) c.in-Ok.ensures),
)

pub returns-in-Err-clause-refused : goal.returns-in-Err-clause-refused
returns-in-Err-clause-refused c = (
  app_of c.in-Ok.command,
  c.in-Ok.ensures,
  refused_as_clap_does (app_of c.in-Ok.command) _ c.refusal.result c.in-Err.error
      c.in-Ok.ensures c.in-Err.ensures.kinds c.refusal.ensures.kind,
)

pub returns-in-Err-clause-slip : goal.returns-in-Err-clause-slip
returns-in-Err-clause-slip c =
    subst (EndsWith c.refusal.result) (c.hint_of.ensures ∙ ap told_of c.slip_of.ensures)
    c.refusal.ensures.hint
