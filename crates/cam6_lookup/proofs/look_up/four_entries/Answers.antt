use Rattle.std.proofs.Common.{◌≡◌, ℕ, ◌+◌, ◌*◌, ◌<◌, ◌∙◌, sym, ap, arith, get_or, [], bit_and}
use Rattle.std.proofs.Math.Nat.{div-one}
use Rattle.std.specs.Int.{bit_at}
use Rattle.cam6_lookup.specs.Transposed.{lane_address}
use Rattle.cam6_lookup.proofs.Transposing.{below_four}
use Rattle.cam6_lookup.proofs.look_up.four_entries.Goals as goal

pub returns : goal.returns
returns c = λ l r h k.
    let word : ℕ = get_or (get_or c.args.rows.now c.args.k []) c.args.i 0 in
    below_four (λ l. (r : ℕ) → r < 16 → bit_at c.in_lanes.result (16 * l + r)
    ≡ bit_at (get_or c.args.entries.now (lane_address c.args.rows.now c.args.k c.args.i l) 0) r)
    (λ r h. let e : 16 * 0 + r ≡ r = omega arith in
    ap (bit_at c.in_lanes.result) e ∙ c.in_lanes.ensures.first r h ∙
    ap (λ w. bit_at (get_or c.args.entries.now (bit_and w 4095) 0) r) (sym (div-one word)))
    c.in_lanes.ensures.second c.in_lanes.ensures.third c.in_lanes.ensures.fourth l h r k
