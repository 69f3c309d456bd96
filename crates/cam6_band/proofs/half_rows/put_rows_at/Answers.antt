use Rattle.std.proofs.Common.{◌≡◌, ◌+◌, ◌<◌, ◌∙◌, ap, subst, arith}
use Rattle.cam6_planes.specs.Cells.{cells, with_row}
use Rattle.cam6_planes.specs.Row.{column_bit}
use Rattle.cam6_planes.specs.Side.{side_number}
use Rattle.cam6_planes.specs.Stored.{width}
use Rattle.cam6_lines.specs.Units.{bit_in}
use Rattle.cam6_band.proofs.RowsPut.{one_more_put, others_stay, others_more}
use Rattle.cam6_band.proofs.half_rows.put_rows_at.Goals as goal

pub loop-r-preserved : goal.loop-r-preserved
loop-r-preserved c =
    let a = c.args in
    let now = c.loop-r in
    let s = width a.image.now in
    let new = cells c.set_row_words.new.self in
    let row = c.row_of.result in
    let same : width now.image ≡ s = ap side_number now.invariant.alike.side in
    let own : side_number a.side ≡ s = ap side_number c.requires.side in
    let within : a.y + now.r < s = omega (arith, c.requires.rows, c.loop-r-test.true) in
    let made = subst (λ n. new ≡ with_row n (cells now.image) a.p (a.y + now.r)
    (column_bit row)) same c.set_row_words.ensures.cells in
    record {
      alike = record {
        side = c.set_row_words.ensures.side ∙ now.invariant.alike.side;
        limit = c.set_row_words.ensures.limit ∙ now.invariant.alike.limit;
      };
      rows = one_more_put s (cells now.image) new a.p a.y now.r row c.requires.plane within made
          (bit_in a.side a.rows.now)
          (λ x l. c.row_of.ensures x (omega (arith, l, own))) now.invariant.rows;
      others = λ q x v h l m other.
          others_stay s (cells now.image) new a.p a.y now.r row c.requires.plane within made q x v
          h l m other ∙
          now.invariant.others q x v h l m (others_more a.p a.y now.r q v other);
    }
