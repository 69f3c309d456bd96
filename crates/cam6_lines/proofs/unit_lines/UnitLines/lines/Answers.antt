use Rattle.std.proofs.Common.{None, map, ◌∙◌, ap}
use Rattle.cam6_lines.specs.Internal.Views.{unit_of}
use Rattle.cam6_lines.proofs.UnitsSeen.{items_all}
use Rattle.cam6_lines.proofs.unit_lines.UnitLines.lines.Goals as goal

pub returns : goal.returns
returns c =
    let inside = c.self.inside in
    rw (
      c.unit_of.ensures,
      c.unit_of-2.ensures,
      c.unit_of-3.ensures,
      c.unit_of-4.ensures,
      c.unit_of-5.ensures,
      c.unit_of-6.ensures,
      c.unit_of-7.ensures,
      c.unit_of-8.ensures,
      c.unit_of-9.ensures,
      c.unit_of-10.ensures,
      c.unit_of-11.ensures,
      c.unit_of-12.ensures,
    )
    (ap (map (unit_of inside.parts inside.words)) (items_all 12 inside.views None c.self.invariant.0) ∙
    c.self.view_is)
