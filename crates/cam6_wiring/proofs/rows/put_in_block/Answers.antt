use Rattle.std.proofs.Common.{◌≡◌, ◌%◌, ◌<◌, ◌==◌, if◌then◌else◌, ◌∙◌, ap, arith}
use native.Mathlib.Decide.{dec_lt}
use Rattle.cam6_planes.specs.Cells.{torus}
use Rattle.cam6_planes.specs.Row.{column_bit}
use Rattle.cam6_planes.specs.Limits.{max_columns}
use Rattle.cam6_planes.specs.Side.{side_number}
use Rattle.cam6_planes.proofs.SideNumbers.{side_most}
use Rattle.cam6_wiring.specs.Block.{in_block}
use Rattle.cam6_wiring.specs.Seen.{seen_beside}
use Rattle.cam6_wiring.proofs.RowsBeside.{same_corner}
use Rattle.cam6_wiring.proofs.rows.put_in_block.Goals as goal

pub returns : goal.returns
returns c = λ f around x l.
    let a = c.args in
    let s = side_number a.rows.now.side in
    let room : x < max_columns = omega (arith, l, side_most a.rows.now.side) in
    let odd = c.put_beside.new.line in
    let even = c.put_beside-2.new.line in
    c.put_odd_columns.ensures x room ∙
    elim (dec_lt (x % 2) 1) [
      | Prim.yes lt ↦
          let e : x % 2 ≡ 0 = omega arith in
          ap (λ n. if n == 1 then column_bit odd x else column_bit even x) e ∙
          c.put_beside-2.ensures f a.y around c.requires.row x l ∙
          ap (λ k. seen_beside s (torus s f) k a.p x a.y) (c.in_block-2.ensures ∙
          ap (λ k. in_block k a.rotation) (c.corner_of-2.ensures ∙ same_corner a.grid x 0 a.y e))
      | Prim.no ge ↦
          let e : x % 2 ≡ 1 = omega arith in
          ap (λ n. if n == 1 then column_bit odd x else column_bit even x) e ∙
          c.put_beside.ensures f a.y around c.requires.row x l ∙
          ap (λ k. seen_beside s (torus s f) k a.p x a.y) (c.in_block.ensures ∙
          ap (λ k. in_block k a.rotation) (c.corner_of.ensures ∙ same_corner a.grid x 1 a.y e))
    ]
