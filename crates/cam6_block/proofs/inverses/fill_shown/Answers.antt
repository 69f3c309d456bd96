use Rattle.std.proofs.Common.{◌≡◌, ◌∙◌, ◌+◌, ◌*◌, ℕ, List, ap, sym, subst, arith, slice_set}
use Rattle.std.proofs.Common.{slice_index_or, [], ◌∷◌}
use Rattle.cam6_wiring.specs.declared.names.Phase.{Phase}
use Rattle.cam6_wiring.specs.declared.names.Phase.TheVariants.{P0, P1, P2, P3}
use Rattle.cam6_block.specs.Blocks.{corner_address}
use Rattle.cam6_block.specs.BlockMaps.{by_table, block_map}
use Rattle.cam6_block.proofs.Filled.{IsFilledTo, next_filled, all_filled}
use Rattle.cam6_block.proofs.Rotated.{table_reads}
use Rattle.cam6_block.proofs.inverses.fill_shown.Goals as goal

-- the phase that the loop has reached
abbrev phase_at : ℕ → Phase
phase_at k = slice_index_or (P0 ∷ P1 ∷ P2 ∷ P3 ∷ []) k P0

pub loop-corner-preserved : goal.loop-corner-preserved
loop-corner-preserved c =
    let a = c.args in
    let read = by_table a.hood a.minor a.table.now in
    let k = c.loop-phase.phase-index in
    let s = c.loop-state.state in
    let now = c.loop-corner in
    let p = now.corner in
    let is = now.invariant.phase_is in
    let filled : IsFilledTo read a.hood a.minor (1024 * k + 4 * s + (p + 1))
    (slice_set now.out c.corner_address-address.result c.corner_bits.result) =
    next_filled read a.hood a.minor (table_reads a.hood a.minor a.table.now) c.requires.margolus
    c.requires.one_to_one k s p now.out c.corner_address-address.result c.corner_bits.result
    c.loop-phase-test.true c.loop-state-test.true c.loop-corner-test.true now.invariant.filled
    c.corner_address-address.ensures.within
    (c.corner_address-address.ensures.address ∙
    ap (λ i. corner_address a.hood a.minor (phase_at k) i p) c.successor-successor.ensures ∙
    ap (λ q. corner_address a.hood a.minor q (block_map read q s) p) is)
    c.corner_bits.ensures.bits in
    record {
      phase_is = is;
      filled =
          subst (λ (l : List ℕ). IsFilledTo read a.hood a.minor (1024 * k + 4 * s + (p + 1)) l)
          (sym c.put.ensures) filled;
    }

pub returns : goal.returns
returns c =
    let a = c.args in
    let read = by_table a.hood a.minor a.table.now in
    let n = c.loop-phase.phase-index in
    let all : 1024 * n ≡ 4096 = omega arith in
    all_filled read a.hood a.minor (table_reads a.hood a.minor a.table.now) c.requires.margolus
    c.requires.one_to_one c.loop-phase.out
    (subst (λ (m : ℕ). IsFilledTo read a.hood a.minor m c.loop-phase.out) all
    c.loop-phase.invariant)
