use Rattle.std.proofs.Common.{◌∙◌, refl, arith}
use Rattle.cam6_block.specs.BlockMaps.{by_table, block_map}
use Rattle.cam6_block.proofs.Search.{none_kept, is_meeting, one_more}
use Rattle.cam6_block.proofs.refusals.find_meeting.Goals as goal

pub loop-state-init : goal.loop-state-init
loop-state-init c = none_kept _ _ refl refl

pub returns-in-Some-clause-some : goal.returns-in-Some-clause-some
returns-in-Some-clause-some c =
    let a = c.args in
    let now = c.loop-state in
    is_meeting (block_map (by_table a.hood a.minor a.table.now) a.phase) now.state
    c.from-successor.result now.state_of_successor now.invariant (c.from-successor.ensures ∙ c.successor.ensures)
    c.in-Some.a c.loop-state-test.true c.in-Some.is

pub loop-state-preserved : goal.loop-state-preserved
loop-state-preserved c =
    let a = c.args in
    let now = c.loop-state in
    one_more (block_map (by_table a.hood a.minor a.table.now) a.phase) now.state
    c.from-successor.result now.state_of_successor now.invariant (c.from-successor.ensures ∙ c.successor.ensures)
    (omega (arith, c.from-successor.ensures, c.successor.type_inv)) c.in-None.is
