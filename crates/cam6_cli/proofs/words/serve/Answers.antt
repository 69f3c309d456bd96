use Rattle.std.proofs.Common.{◌∙◌, ap, ap₂}
use Rattle.std.proofs.lemmas.Result.{IfOk-weaker}
use Rattle.clap.specs.Simple.{app_of_fields}
use Rattle.clap.specs.Words.{with_rule}
use Rattle.cam6_cli.proofs.words.serve.Goals as goal

pub returns : goal.returns
returns c =
    let sides = c.side_option.ensures.rule in
    let none = ap app_of_fields c.after_help.ensures ∙ ap app_of_fields c.about.ensures
    ∙ c.new.ensures.app in
    let port = c.in_ok-arg.ensures.shape c.port_option.ensures.global
    ∙ ap₂ with_rule none c.port_option.ensures.rule in
    let users = c.in_ok-arg-2.ensures.shape c.users_option.ensures.global
    ∙ ap₂ with_rule port c.users_option.ensures.rule in
    let boards = c.in_ok-arg-3.ensures.shape c.boards_option.ensures.global
    ∙ ap₂ with_rule users c.boards_option.ensures.rule in
    let cache = c.in_ok-arg-4.ensures.shape c.cache_option.ensures.global
    ∙ ap₂ with_rule boards c.cache_option.ensures.rule in
    let connections = c.in_ok-arg-5.ensures.shape c.connections_option.ensures.global
    ∙ ap₂ with_rule cache c.connections_option.ensures.rule in
    let idle = c.in_ok-arg-6.ensures.shape c.idle_option.ensures.global
    ∙ ap₂ with_rule connections c.idle_option.ensures.rule in
    IfOk-weaker c.arg-7.result _ _ (λ command adds. (
      sides.0,
      sides.1,
      adds.shape c.side_option.ensures.global ∙ ap₂ with_rule idle sides.2,
    )) c.arg-7.ensures
