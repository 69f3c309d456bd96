use Rattle.std.proofs.Common.{◌≡◌, ◌<◌, ℕ, ◌+◌, ◌%◌, ◌∙◌, ◌++◌, length, get_or, drop, arith, ap, sym}
use Rattle.cam6_planes.specs.Side.{side_number}
use Rattle.cam6_patterns.specs.Placing.{set_line, bit_placed}
use Rattle.cam6_patterns.specs.Outcome.{lines_of_row}
use Rattle.cam6_patterns.proofs.Fronts.{nothing_written, more_written, some_written}
use Rattle.cam6_patterns.proofs.Fronts.{front_at_fault, all_written}
use Rattle.cam6_patterns.proofs.LinesOfRows.{next_line, no_line}
use Rattle.cam6_patterns.proofs.placing.Placement.write_row.Goals as goal

pub loop-k-init : goal.loop-k-init
loop-k-init g c = nothing_written _ _

pub returns-in_err-write_bytes : goal.returns-in_err-write_bytes
returns-in_err-write_bytes g c =
    let self = c.args.self.now in
    let side : ℕ = side_number self.side in
    let planes = c.args.planes.now in
    let k = c.loop-k.k in
    let rest = lines_of_row side self.first self.top self.pattern.now c.args.y (k + 1)
    (drop (k + 1) planes) in
    let line = c.as_slice.result.now in
    let within : k < length planes =
    omega (arith, c.loop-k-test.true, ap length c.as_slice-plane-items.ensures) in
    let is : line ≡ set_line side (get_or planes k 0) ((self.top + c.args.y) % side)
    (bit_placed side self.first self.pattern.now k c.args.y) =
    c.as_slice.ensures.value ∙ rw c.as_slice-plane-items.ensures at c.set_line-line.ensures in
    front_at_fault _ _ _ c.from_residual.result c.from_residual.ensures.0
    (some_written _ _ _ line rest _ c.loop-k.invariant
    (next_line side self.first self.top self.pattern.now c.args.y k planes within
    ∙ ap (λ l. l ++ rest) (sym is))
    _ c.in_err-write_bytes.ensures)

pub loop-k-preserved : goal.loop-k-preserved
loop-k-preserved g c =
    let self = c.args.self.now in
    let side : ℕ = side_number self.side in
    let planes = c.args.planes.now in
    let k = c.loop-k.k in
    let rest = lines_of_row side self.first self.top self.pattern.now c.args.y (k + 1)
    (drop (k + 1) planes) in
    let line = c.as_slice.result.now in
    let within : k < length planes =
    omega (arith, c.loop-k-test.true, ap length c.as_slice-plane-items.ensures) in
    let is : line ≡ set_line side (get_or planes k 0) ((self.top + c.args.y) % side)
    (bit_placed side self.first self.pattern.now k c.args.y) =
    c.as_slice.ensures.value ∙ rw c.as_slice-plane-items.ensures at c.set_line-line.ensures in
    more_written _ _ _ line rest _ c.loop-k.invariant
    (next_line side self.first self.top self.pattern.now c.args.y k planes within
    ∙ ap (λ l. l ++ rest) (sym is))
    _ c.in_ok-write_bytes.ensures

pub returns : goal.returns
returns g c =
    let self = c.args.self.now in
    all_written _ _ _ _ c.loop-k.invariant
    (no_line (side_number self.side) self.first self.top self.pattern.now c.args.y c.loop-k.k
    c.args.planes.now
    (omega (arith, c.loop-k-test.false, ap length c.as_slice-plane-items.ensures)))
