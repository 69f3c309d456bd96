use Rattle.std.proofs.Common.{◌≡◌, ◌<◌, ◌+◌, length, get_or, arith, add-zero, get_or-drop, false}
use Rattle.cam6_forth.specs.Tokens.{is_space}
use Rattle.cam6_forth.proofs.Cutting.{first_is, run_some}
use Rattle.cam6_forth.proofs.tokens.first_token.Goals as goal

pub returns-clause-token : goal.returns-clause-token
returns-clause-token c =
    let text = c.args.text.now in
    let rest = c.split_at.result.1.now in
    let start = c.space_len-start.result in
    let spaces = c.space_len-start.ensures in
    let run = c.run_len.ensures in
    let len : length rest + start ≡ length text = omega arith in
    let filled : is_space (get_or rest 0 0) ≡ false =
    rw c.split_at.ensures.back
    (rw (get_or-drop start text 0 0, add-zero start) (spaces.stops (omega arith))) in
    let some : 0 < c.run_len.result =
    run_some rest c.run_len.result (omega arith) filled run.stops in
    let same = spaces.same in
    let first = first_is rest c.run_len.result some run.within run.parts run.stops in
    cc (same, first)
