use Rattle.std.proofs.Common.{rules, ◌∙◌}
use Rattle.http_server.specs.Connection.{history}
use Rattle.http_server.proofs.Theorems.{always_served}
use Rattle.cam6_web_router.proofs.Openings.{greets, leads_on_if_served, reads, writes}
use Rattle.cam6_web_router.proofs.greetings.greet.Goals as goal

pub returns-in_default : goal.returns-in_default
returns-in_default g c =
    let began = history c.new-connection.result in
    let h = history c.serve.new.connection in
    let is = c.new-connection.ensures.history in
    let greeted = greets _ began h _ _ is (c.serve.ensures.config ∙ c.new-connection.ensures.config)
    (always_served c.serve.new.connection) c.serve.ensures.calls c.in_ok-serve.ensures.done in (
      h,
      greeted,
      reads began h _ _ is c.serve.ensures.read,
      writes began h _ _ is c.serve.ensures.written,
      leads_on_if_served h _ _ greeted (search rules),
    )

pub returns-then-ne : goal.returns-then-ne
returns-then-ne g c =
    let began = history c.new-connection.result in
    let h = history c.serve.new.connection in
    let is = c.new-connection.ensures.history in
    let greeted = greets _ began h _ _ is (c.serve.ensures.config ∙ c.new-connection.ensures.config)
    (always_served c.serve.new.connection) c.serve.ensures.calls c.in_ok-serve.ensures.done in (
      h,
      greeted,
      reads began h _ _ is c.serve.ensures.read,
      writes began h _ _ is c.serve.ensures.written,
      search rules,
    )

pub returns : goal.returns
returns g c =
    let began = history c.new-connection.result in
    let h = history c.serve.new.connection in
    let is = c.new-connection.ensures.history in
    let greeted = greets _ began h _ _ is (c.serve.ensures.config ∙ c.new-connection.ensures.config)
    (always_served c.serve.new.connection) c.serve.ensures.calls c.in_ok-serve.ensures.done in (
      h,
      greeted,
      reads began h _ _ is c.serve.ensures.read,
      writes began h _ _ is c.serve.ensures.written,
      (search rules, search rules, search rules),
    )
