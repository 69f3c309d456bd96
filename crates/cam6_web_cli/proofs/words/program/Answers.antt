use Rattle.std.proofs.Common.{◌∙◌, ap₂}
use Rattle.std.proofs.lemmas.Result.{IfOk-weaker}
use Rattle.clap.specs.Words.{with_rule}
use Rattle.cam6_web_cli.specs.Words.{program}
use Rattle.cam6_web_cli.proofs.words.program.Goals as goal

pub returns : goal.returns
unfolding program
returns c =
    let port = c.in_ok-arg.ensures.shape c.port_option.ensures.global
    ∙ ap₂ with_rule c.new_command.ensures c.port_option.ensures.rule in
    let host = c.in_ok-arg-2.ensures.shape c.host_option.ensures.global
    ∙ ap₂ with_rule port c.host_option.ensures.rule in
    let name = c.in_ok-arg-3.ensures.shape c.name_option.ensures.global
    ∙ ap₂ with_rule host c.name_option.ensures.rule in
    let connections = c.in_ok-arg-4.ensures.shape c.connections_option.ensures.global
    ∙ ap₂ with_rule name c.connections_option.ensures.rule in
    let side = c.in_ok-arg-5.ensures.shape c.side_option.ensures.global
    ∙ ap₂ with_rule connections c.side_option.ensures.rule in
    IfOk-weaker c.arg-6.result _ _ (λ command adds.
    adds.shape c.requests_option.ensures.global ∙ ap₂ with_rule side c.requests_option.ensures.rule)
    c.arg-6.ensures
