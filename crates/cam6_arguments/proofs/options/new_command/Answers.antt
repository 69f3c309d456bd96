use Rattle.std.proofs.Common.{◌∙◌, ap}
use Rattle.clap.specs.Simple.{app_of_fields}
use Rattle.clap.specs.Words.{new_app}
use Rattle.cam6_arguments.specs.Options.{with_version}
use Rattle.cam6_arguments.proofs.options.new_command.Goals as goal

pub returns : goal.returns
returns c =
    ap app_of_fields c.version.ensures
    ∙ ap with_version
    (ap app_of_fields c.after_help.ensures ∙ ap app_of_fields c.about.ensures ∙ c.new.ensures.app
    ∙ ap new_app c.name-name.ensures)
