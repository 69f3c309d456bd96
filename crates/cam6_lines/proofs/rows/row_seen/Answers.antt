use Rattle.std.proofs.Common.{ℕ, ◌+◌, ◌*◌, ◌<◌, ◌==◌, ◌∙◌, ap, sym, arith}
use Rattle.cam6_wiring.specs.Block.{side_in_block, origin_of}
use Rattle.cam6_lines.specs.Bands.{side_of}
use Rattle.cam6_lines.specs.Units.{columns}
use Rattle.cam6_lines.specs.Internal.Parts.{row_above}
use Rattle.cam6_lines.proofs.Looking.{seen_phase, seen_horz, seen_vert, first_vert}
use Rattle.cam6_lines.proofs.RowsOfUnits.{columns_most, row_of_band, same_parity, same_words}
use Rattle.cam6_lines.proofs.RowsOfUnits.{right_words}
use Rattle.cam6_lines.proofs.rows.row_seen.Goals as goal

pub returns-in-Horz : goal.returns-in-Horz
returns-in-Horz c = λ f of i h.
    let a = c.args in
    let band = a.band.now in
    let side = band.planes.now.side in
    let x : ℕ = columns side * a.unit + i in
    right_words a.setting.grid c.right_columns.result c.right_columns.ensures i
    (omega (arith, h, columns_most side)) ∙
    ap (λ n. n == 1) (sym (same_parity side a.unit i (origin_of a.setting.grid))) ∙
    sym (seen_horz (side_of band) f a.setting x (row_above band a.j) a.name c.in-Horz.is)

pub returns-in-Vert : goal.returns-in-Vert
returns-in-Vert c = λ f of i h.
    let a = c.args in
    let band = a.band.now in
    let side = band.planes.now.side in
    let x : ℕ = columns side * a.unit + i in
    let first = first_vert a.name c.in-Vert.is in
    let some : 0 < a.j = omega (arith, first, c.requires.first) in
    let last : a.j < 17 = omega (arith, first, c.requires.last) in
    same_words c.word_of.result _ c.word_of.ensures i (omega (arith, h, columns_most side)) ∙
    c.is_lower.ensures ∙ ap (λ n. side_in_block a.setting.grid n == 1)
    (sym (row_of_band (side_of band) band.first a.j some c.requires.within last)) ∙
    sym (seen_vert (side_of band) f a.setting x (row_above band a.j) a.name c.in-Vert.is)

pub returns-in-Phase : goal.returns-in-Phase
returns-in-Phase c = λ f of i h.
    let a = c.args in
    let band = a.band.now in
    let side = band.planes.now.side in
    let x : ℕ = columns side * a.unit + i in
    same_words c.word_of-in-Phase.result _ c.word_of-in-Phase.ensures i
    (omega (arith, h, columns_most side)) ∙ c.bit.ensures ∙
    sym (seen_phase (side_of band) f a.setting x (row_above band a.j) a.name c.in-Phase.level
    c.in-Phase.is)
