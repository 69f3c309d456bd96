use Rattle.cam6_server.proofs.connections.serve_at_desk.Goals as goal

pub returns : goal.returns
returns g c = λ user own. (
  c.sit_down-visit.new.desk,
  c.sit_down-visit.ensures.user user own,
  c.sit_down-visit.ensures.sits,
)
