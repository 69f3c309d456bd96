use Rattle.std.proofs.Common.{◌∙◌}
use Rattle.cam6_planes.specs.Side.{side_number}
use Rattle.cam6_show_frames.proofs.Kept.{colour_kept, colour_kept_is_few}
use Rattle.cam6_show_frames.proofs.frames.Frame.colour.Goals as goal

pub returns-clause-value : goal.returns-clause-value
returns-clause-value c =
    colour_kept c.self.inside.rows.items c.args.self.now c.self.invariant c.self.view_is
    c.len-side.result (c.len-side.ensures ∙ c.self.inside.rows.ok.0) c.result.inside.colours c.index.result.now
    (side_number c.result.inside.side) c.args.column c.args.row c.index.ensures c.result.view_is

pub returns-clause-few : goal.returns-clause-few
returns-clause-few c =
    colour_kept_is_few c.self.inside.rows.items c.args.self.now c.self.invariant c.self.view_is
    c.len-side.result (c.len-side.ensures ∙ c.self.inside.rows.ok.0) c.result.inside.colours c.index.result.now
    (side_number c.result.inside.side) c.args.column c.args.row c.index.ensures c.result.view_is
