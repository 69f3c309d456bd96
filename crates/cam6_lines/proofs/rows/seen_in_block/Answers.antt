use Rattle.std.proofs.Common.{◌+◌, ◌-◌, ◌*◌, ◌==◌, if◌then◌else◌, ◌≡◌, ◌∙◌, ap, sym, arith}
use Rattle.std.proofs.Common.{get_or, []}
use Rattle.std.proofs.Math.Nat.{mod-lt}
use Rattle.cam6_planes.specs.Row.{column_bit, west_of}
use Rattle.cam6_planes.specs.Side.{side_number}
use Rattle.cam6_planes.proofs.SideNumbers.{side_least}
use Rattle.cam6_wiring.specs.Block.{side_in_block}
use Rattle.cam6_wiring.specs.declared.names.Rotation.TheVariants.{Clockwise, Opposite}
use Rattle.cam6_wiring.specs.declared.names.Rotation.TheVariants.{CounterClockwise}
use Rattle.cam6_lines.specs.Bands.{side_of}
use Rattle.cam6_lines.specs.Units.{columns}
use Rattle.cam6_lines.specs.Internal.Parts.{row_above}
use Rattle.cam6_lines.proofs.InBlocks.{block_shown}
use Rattle.cam6_lines.proofs.RowsOfUnits.{columns_most, row_of_band}
use Rattle.cam6_lines.proofs.rows.seen_in_block.Goals as goal

pub returns-in-Clockwise : goal.returns-in-Clockwise
returns-in-Clockwise c = λ f of.
    let a = c.args in
    let band = a.band.now in
    let s = side_of band in
    let side = band.planes.now.side in
    let y = row_above band a.j in
    let here : y ≡ band.first + a.j - 1 =
    row_of_band s band.first a.j c.requires.first c.requires.within
    (omega (arith, c.requires.last)) in
    block_shown side a.side f a.grid a.rotation Clockwise a.p a.unit y a.lower
    (get_or c.above.result.now a.p []) (get_or c.above-2.result.now a.p []) c.along_or_across.result
    c.requires.side c.in-Clockwise.is c.requires.plane c.requires.unit
    (mod-lt (band.first + a.j + (s - 1)) (omega (arith, side_least side)))
    (c.requires.lower ∙ ap (λ n. side_in_block a.grid n == 1) (sym here))
    (λ x l. c.above.ensures f of a.p x c.requires.plane l)
    (λ x l. c.above-2.ensures f of a.p x c.requires.plane l ∙
    ap (f a.p x) (c.other_row.ensures.row s band.first c.requires.within))
    c.along_or_across.ensures

pub returns-in-Opposite : goal.returns-in-Opposite
returns-in-Opposite c = λ f of.
    let a = c.args in
    let band = a.band.now in
    let s = side_of band in
    let side = band.planes.now.side in
    let y = row_above band a.j in
    let here : y ≡ band.first + a.j - 1 =
    row_of_band s band.first a.j c.requires.first c.requires.within
    (omega (arith, c.requires.last)) in
    block_shown side a.side f a.grid a.rotation Opposite a.p a.unit y a.lower
    (get_or c.above.result.now a.p []) (get_or c.above-2.result.now a.p []) c.by_sides.result
    c.requires.side c.in-Opposite.is c.requires.plane c.requires.unit
    (mod-lt (band.first + a.j + (s - 1)) (omega (arith, side_least side)))
    (c.requires.lower ∙ ap (λ n. side_in_block a.grid n == 1) (sym here))
    (λ x l. c.above.ensures f of a.p x c.requires.plane l)
    (λ x l. c.above-2.ensures f of a.p x c.requires.plane l ∙
    ap (f a.p x) (c.other_row.ensures.row s band.first c.requires.within))
    (λ i h. c.by_sides.ensures i (omega (arith, h, columns_most a.side)) ∙
    ap (λ b. if side_in_block a.grid i == 1 then b else column_bit c.columns_east.result i)
    (c.columns_west.ensures i h) ∙
    ap (λ b. if side_in_block a.grid i == 1 then column_bit (get_or c.above-2.result.now a.p [])
    (west_of (side_number a.side) (columns a.side * a.unit + i)) else b)
    (c.columns_east.ensures i h))

pub returns-in-CounterClockwise : goal.returns-in-CounterClockwise
returns-in-CounterClockwise c = λ f of.
    let a = c.args in
    let band = a.band.now in
    let s = side_of band in
    let side = band.planes.now.side in
    let y = row_above band a.j in
    let here : y ≡ band.first + a.j - 1 =
    row_of_band s band.first a.j c.requires.first c.requires.within
    (omega (arith, c.requires.last)) in
    block_shown side a.side f a.grid a.rotation CounterClockwise a.p a.unit y
    a.lower (get_or c.above.result.now a.p [])
    (get_or c.above-2.result.now a.p []) c.along_or_across-in-CounterClockwise.result
    c.requires.side c.in-CounterClockwise.is c.requires.plane c.requires.unit
    (mod-lt (band.first + a.j + (s - 1)) (omega (arith, side_least side)))
    (c.requires.lower ∙ ap (λ n. side_in_block a.grid n == 1) (sym here))
    (λ x l. c.above.ensures f of a.p x c.requires.plane l)
    (λ x l. c.above-2.ensures f of a.p x c.requires.plane l ∙
    ap (f a.p x) (c.other_row.ensures.row s band.first c.requires.within))
    c.along_or_across-in-CounterClockwise.ensures
