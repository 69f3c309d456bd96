use Rattle.std.proofs.Common.{◌≡◌, ◌∙◌}
use Rattle.cam6_planes.proofs.SideNumbers.{side_most}
use Rattle.cam6_planes.specs.Side.{side_number}
use Rattle.cam6_patterns.specs.declared.reading.Unread.TheVariants.{Fault}
use Rattle.cam6_patterns.proofs.TextsAre.{text_is_pattern}
use Rattle.cam6_patterns.proofs.reading.read_pattern.Goals as goal

pub new-requires : goal.new-requires
new-requires c =
    let side = side_number c.args.side in
    text_is_pattern side c.args.states (side_most c.args.side) c.args.text.now _ c.requires
    (c.in-Ok.ensures.start c.args.states ∙ c.in-Ok-read_rows.ensures side)

pub returns-in-Err-read_rows-clause-fault : goal.returns-in-Err-read_rows-clause-fault
returns-in-Err-read_rows-clause-fault c =
    λ f is. let same : c.in-Err-read_rows.unread ≡ Fault f = cc in
    c.in-Ok.ensures.start c.args.states
    ∙ (rw same at (c.in-Err-read_rows.ensures (side_number c.args.side)))
