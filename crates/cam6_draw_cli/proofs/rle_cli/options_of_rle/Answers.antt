use Rattle.std.proofs.Common.{◌≡◌, None, refl}
use Rattle.std.proofs.lemmas.Result.{IfOk-weaker, IfErr-weaker}
use Rattle.clap.specs.Words.{app_of}
use Rattle.cam6_arguments.proofs.Taking.{asked_as_clap_takes, refused_as_clap_does, refused_as_unsaid}
use Rattle.cam6_draw_cli.specs.RleWords.{HasTask, task_of}
use Rattle.cam6_draw_cli.proofs.RleRefusing.{is_free_program, is_simple_program, some_program}
use Rattle.cam6_draw_cli.proofs.rle_cli.options_of_rle.Goals as goal

pub returns-in_default-clause-refused : goal.returns-in_default-clause-refused
returns-in_default-clause-refused c = (some_program.0, some_program.1, tt)

pub returns-in-Ok-try_get_matches_from-clause-task :
    goal.returns-in-Ok-try_get_matches_from-clause-task
returns-in-Ok-try_get_matches_from-clause-task c =
    let app = app_of c.in-Ok.command in
    let taken = c.in-Ok-try_get_matches_from in
    IfOk-weaker c.task_given.result _ _ (λ options has. (app, c.in-Ok.ensures, has.0, has.1))
    (asked_as_clap_takes app app _ refl (is_free_program app c.in-Ok.ensures)
    (is_simple_program app c.in-Ok.ensures) taken.matches taken.ensures.matches
    taken.ensures.kinds (λ options rows. HasTask options (task_of rows)) c.task_given.result
    c.task_given.ensures.task)

pub returns-in-Ok-try_get_matches_from-clause-refused :
    goal.returns-in-Ok-try_get_matches_from-clause-refused
returns-in-Ok-try_get_matches_from-clause-refused c =
    let app = app_of c.in-Ok.command in
    let taken = c.in-Ok-try_get_matches_from in
    IfErr-weaker c.task_given.result _ _ (λ refused why. (app, c.in-Ok.ensures, why))
    (refused_as_unsaid app app _ refl (is_free_program app c.in-Ok.ensures)
    (is_simple_program app c.in-Ok.ensures) taken.matches taken.ensures.matches
    taken.ensures.kinds (λ rows. task_of rows ≡ None) c.task_given.result
    c.task_given.ensures.refused)

pub returns-in-Err-clause-refused : goal.returns-in-Err-clause-refused
returns-in-Err-clause-refused c =
    let app = app_of c.in-Ok.command in (
      app,
      c.in-Ok.ensures,
      refused_as_clap_does app app _ refl (is_free_program app c.in-Ok.ensures) _
          c.refusal.result c.in-Err.error c.in-Err.ensures.kinds c.refusal.ensures.kind,
    )
