use Rattle.std.proofs.Common.{◌≡◌, ◌<◌, ◌∙◌, true, sym, ap, arith, take, length, get_or, []}
use Rattle.cam6_patterns.proofs.Rows.{has_two_states, row_looked_at}
use Rattle.cam6_patterns.proofs.writing.states_of.Goals as goal

pub loop-y-preserved : goal.loop-y-preserved
loop-y-preserved c =
    let rows = c.args.frame.now in
    let long : c.number-side.result ≡ length rows =
    c.number-side.ensures.value ∙ c.side.ensures.side in
    let within : c.loop-y.y < length rows = omega (arith, c.loop-y-test.true, long) in
    let two : has_two_states (get_or rows c.loop-y.y []) ≡ true =
    ap has_two_states (sym c.row_cells-row.ensures)
    ∙ ap (λ n. has_two_states (take n c.row_cells-row.result)) (sym long)
    ∙ sym c.are_two_states.ensures ∙ c.if-not-are_two_states.false in
    row_looked_at rows c.loop-y.y within two ∙ c.loop-y.invariant
