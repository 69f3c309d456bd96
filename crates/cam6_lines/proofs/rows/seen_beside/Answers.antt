use Rattle.std.proofs.Common.{◌≡◌, ℕ, ◌+◌, ◌-◌, ◌*◌, ◌<◌, sym, ◌∙◌, ap, arith}
use Rattle.std.proofs.Common.{subst, get_or, []}
use Rattle.std.proofs.Math.Nat.{mod-lt}
use Rattle.cam6_planes.specs.Row.{column_bit}
use Rattle.cam6_planes.specs.Side.{side_number}
use Rattle.cam6_planes.proofs.CellsAt.{torus_at}
use Rattle.cam6_planes.proofs.SideNumbers.{side_least}
use Rattle.cam6_wiring.specs.Seen.{column_beside, row_beside}
use Rattle.cam6_wiring.proofs.RowsBeside.{column_beside-lt, row_beside-lt}
use Rattle.cam6_lines.specs.Bands.{side_of}
use Rattle.cam6_lines.specs.Units.{columns}
use Rattle.cam6_lines.specs.Internal.Parts.{row_above}
use Rattle.cam6_lines.proofs.RowsOfUnits.{unit_within}
use Rattle.cam6_lines.proofs.rows.seen_beside.Goals as goal

pub returns : goal.returns
returns c = λ f of i h.
    let a = c.args in
    let band = a.band.now in
    let s = side_of band in
    let side = band.planes.now.side in
    let x : ℕ = columns side * a.unit + i in
    let y = row_above band a.j in
    let there = column_beside s a.compass x in
    let within = column_beside-lt s a.compass x (unit_within side a.unit i c.requires.unit h) in
    let row = row_beside-lt s a.compass y (mod-lt (band.first + a.j + (s - 1))
    (omega (arith, side_least side))) in
    subst (λ k. (i : ℕ) → i < columns k → column_bit c.columns_beside.result i
    ≡ column_bit (get_or c.above.result.now a.p [])
    (column_beside (side_number k) a.compass (columns k * a.unit + i))) c.requires.side
    c.columns_beside.ensures i h ∙
    c.above.ensures f of a.p there c.requires.plane within ∙
    ap (f a.p there) (sym (c.row_beside.ensures.row s band.first c.requires.within)) ∙
    sym (torus_at s f a.p there (row_beside s a.compass y) c.requires.plane within row)
