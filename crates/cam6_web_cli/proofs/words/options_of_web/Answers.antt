use Rattle.clap.specs.Words.{app_of}
use Rattle.cam6_arguments.proofs.Taking.{asked_as_clap_takes, refused_as_clap_does, refused_as_unsaid}
use Rattle.cam6_web_cli.specs.Words.{HasOptions, SayNothing, asked, program}
use Rattle.cam6_web_cli.proofs.Refusing.{program_is_free, program_is_simple}
use Rattle.cam6_web_cli.proofs.words.options_of_web.Goals as goal

pub returns-in-Ok-try_get_matches_from-clause-asked :
    goal.returns-in-Ok-try_get_matches_from-clause-asked
returns-in-Ok-try_get_matches_from-clause-asked c =
    let taken = c.in-Ok-try_get_matches_from in
    asked_as_clap_takes program (app_of c.in-Ok.command) _ c.in-Ok.ensures program_is_free
    program_is_simple taken.matches taken.ensures.matches taken.ensures.kinds
    (λ options rows. HasOptions options (asked rows)) c.read_matches.result c.read_matches.ensures.asked

pub returns-in-Ok-try_get_matches_from-clause-refused :
    goal.returns-in-Ok-try_get_matches_from-clause-refused
returns-in-Ok-try_get_matches_from-clause-refused c =
    let taken = c.in-Ok-try_get_matches_from in
    refused_as_unsaid program (app_of c.in-Ok.command) _ c.in-Ok.ensures program_is_free
    program_is_simple taken.matches taken.ensures.matches taken.ensures.kinds
    (λ rows. SayNothing (asked rows)) c.read_matches.result c.read_matches.ensures.refused

pub returns-in-Err-clause-refused : goal.returns-in-Err-clause-refused
returns-in-Err-clause-refused c =
    refused_as_clap_does program (app_of c.in-Ok.command) _ c.in-Ok.ensures program_is_free _
    c.refusal.result c.in-Err.error c.in-Err.ensures.kinds c.refusal.ensures.kind
