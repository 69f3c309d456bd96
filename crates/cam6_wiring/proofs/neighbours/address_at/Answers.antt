use Rattle.std.proofs.Common.{◌≡◌, ◌-◌, ◌+◌, ◌*◌, ◌∙◌, ℕ, Bool, List, Option, ap, length, drop}
use Rattle.std.proofs.Common.{map, arith, refl}
use Rattle.cam6_planes.specs.Side.{side_number}
use Rattle.cam6_planes.specs.Stored.{Stored}
use Rattle.cam6_planes.specs.Cells.{cells}
use Rattle.cam6_wiring.specs.Seen.{seen, line_shows, address_of, number_of}
use Rattle.cam6_wiring.specs.Wiring.{names_of}
use Rattle.cam6_wiring.specs.declared.blocks.Grid.{Grid}
use Rattle.cam6_wiring.specs.declared.names.Half.{Half}
use Rattle.cam6_wiring.specs.declared.names.Name.{Name}
use Rattle.cam6_wiring.specs.declared.names.Phase.{Phase}
use Rattle.cam6_wiring.specs.declared.wirings.Hood.{Hood}
use Rattle.cam6_wiring.specs.declared.wirings.Minor.{Minor}
use Rattle.cam6_wiring.proofs.Numbers.{number_of-one_lower, number_of-lines, length-names_of}
use Rattle.cam6_wiring.proofs.neighbours.address_at.Goals as goal

-- what a line shows to the cell
abbrev shows : Stored → Half → Grid → Phase → ℕ → ℕ → Option Name → Bool
shows v half grid phase x y =
    line_shows (λ name.
    seen (side_number v.side) (cells v) (record { half = half; grid = grid; phase = phase })
    name x y)

twelve : (hood : Hood) (minor : Minor) (names : List (Option Name)) →
    names ≡ names_of hood minor → length names ≡ 12
twelve hood minor names are = ap length are ∙ length-names_of hood minor

pub overflow_mul-address : goal.overflow_mul-address
overflow_mul-address c =
    let a = c.args in
    let names = c.names_of-names.result in
    omega (
      arith,
      number_of-lines (shows a.planes.now a.half a.grid a.phase a.x a.y) names
          (12 - c.loop-line.line) (twelve a.hood a.minor names c.names_of-names.ensures),
      c.loop-line.invariant,
    )

pub overflow_add-address : goal.overflow_add-address
overflow_add-address c =
    let a = c.args in
    let names = c.names_of-names.result in
    omega (
      arith,
      number_of-lines (shows a.planes.now a.half a.grid a.phase a.x a.y) names
          (12 - c.loop-line.line) (twelve a.hood a.minor names c.names_of-names.ensures),
      c.loop-line.invariant,
      c.line_bit-bit.ensures.within,
    )

pub loop-line-preserved : goal.loop-line-preserved
loop-line-preserved c =
    let a = c.args in
    let names = c.names_of-names.result in
    ap (λ b. 2 * c.loop-line.address + b) c.line_bit-bit.ensures.bit ∙
    number_of-one_lower (shows a.planes.now a.half a.grid a.phase a.x a.y) names
    c.loop-line.line 12 c.loop-line.address _ _
    (twelve a.hood a.minor names c.names_of-names.ensures) (omega arith) c.loop-line.invariant refl

pub returns-clause-address : goal.returns-clause-address
unfolding address_of
returns-clause-address c =
    let a = c.args in
    let shown = shows a.planes.now a.half a.grid a.phase a.x a.y in
    let last : 12 - c.loop-line.line ≡ 0 = omega arith in
    c.loop-line.invariant ∙
    ap (λ k. number_of (map shown (drop k c.names_of-names.result))) last ∙
    ap (λ l. number_of (map shown l)) c.names_of-names.ensures

pub returns-clause-within : goal.returns-clause-within
returns-clause-within c =
    let a = c.args in
    let names = c.names_of-names.result in
    omega (
      arith,
      number_of-lines (shows a.planes.now a.half a.grid a.phase a.x a.y) names
          (12 - c.loop-line.line) (twelve a.hood a.minor names c.names_of-names.ensures),
      c.loop-line.invariant,
    )
