use Rattle.std.proofs.Common.{◌∙◌}
use Rattle.cam6_web_bridge.proofs.Steps.{carried, not_carried}
use Rattle.cam6_web_bridge.proofs.carrying.exchange.Goals as goal

pub returns-in-Ok : goal.returns-in-Ok
returns-in-Ok g c =
    carried _ _ _ _ _ _ _ _ _ (rw c.in-Ok-Text.field-0-is at c.in-Ok-Text.ensures.heard)
    (rw (c.as_bytes.ensures.value ∙ c.as_str.ensures) at c.in-Ok.ensures)

pub returns-in-Ok-Text : goal.returns-in-Ok-Text
returns-in-Ok-Text g c =
    not_carried g.P.Page.speaking g.H.Host.answering (g.P.Page.stands c.args.page.now)
    (g.P.Page.stands c.hear.new.self) _ _ _ c.args.silences _ _
    (rw c.in-Ok-Text.field-0-is at c.in-Ok-Text.ensures.heard)
    (rw (c.as_bytes.ensures.value ∙ c.as_str.ensures) at c.in-Err-carry_line.ensures)
