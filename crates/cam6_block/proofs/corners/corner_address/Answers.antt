use Rattle.std.proofs.Common.{◌∙◌, arith}
use Rattle.cam6_block.proofs.Lines.{address_by_parts}
use Rattle.cam6_block.proofs.corners.corner_address.Goals as goal

pub returns-clause-address : goal.returns-clause-address
returns-clause-address c =
    let a = c.args in
    omega (
      arith,
      c.from-first_eight.ensures ∙ c.block_lines.ensures,
      c.from-next_two.ensures ∙ c.hood_lines.ensures.lines,
      c.from-last_two.ensures ∙ c.minor_lines.ensures.lines,
    ) ∙ address_by_parts a.hood a.minor a.phase a.state a.corner c.requires.margolus
