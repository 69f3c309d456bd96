use Rattle.cam6_table.proofs.meeting.go_on.Goals as goal

pub returns-then-is_err : goal.returns-then-is_err
returns-then-is_err c = record {
  left = λ addresses left.
      c.settle.ensures.left addresses c.args.code.now c.args.places.now left;
}

pub returns-then-from-flow : goal.returns-then-from-flow
returns-then-from-flow c = record {
  left = λ addresses left. c.meet.ensures.left addresses c.args.code.now left;
}
