use Rattle.std.proofs.Common.{◌≡◌, ◌∙◌, ◌/◌, ℕ, sym, subst, ap, length, take, arith}
use Rattle.std.proofs.lemmas.List.{length-take-le}
use Rattle.std.specs.Str.{IsAscii}
use Rattle.cam6_planes.specs.Row.{column_bit}
use Rattle.cam6_planes.specs.Digits.{row_text}
use Rattle.cam6_planes.specs.Side.{side_number}
use Rattle.cam6_planes.specs.Stored.{Stored}
use Rattle.cam6_planes.specs.Cells.{cells}
use Rattle.cam6_planes.proofs.AsciiTexts.{row_text-ascii}
use Rattle.cam6_planes.proofs.HexText.{row_text-same, take_front}
use Rattle.cam6_planes.proofs.planes.Planes.row_hex.Goals as goal

pub returns-clause-value : goal.returns-clause-value
returns-clause-value c =
    let n : ℕ = c.number-digits.result / 4 in
    let side = ap (λ (v : Stored). side_number v.side) c.self.view_is in
    let long : length (take n c.args.text.now) ≡ n =
    length-take-le n c.args.text.now (omega arith) in
    take_front n c.write_hex.new.text _ (omega arith) ∙ c.write_hex.ensures ∙
    ap (λ k. row_text k (column_bit c.row_words-row.result)) long ∙
    row_text-same n (column_bit c.row_words-row.result)
    (λ x. cells c.args.self.now c.args.p x c.args.y)
    (λ x h. c.row_words-row.ensures.value x (omega (arith, side)))

pub returns-clause-ascii : goal.returns-clause-ascii
returns-clause-ascii c =
    let n : ℕ = c.number-digits.result / 4 in
    let long : length (take n c.args.text.now) ≡ n =
    length-take-le n c.args.text.now (omega arith) in
    subst IsAscii (sym (take_front n c.write_hex.new.text _ (omega arith) ∙ c.write_hex.ensures))
    (row_text-ascii (length (take n c.args.text.now)) (column_bit c.row_words-row.result))
