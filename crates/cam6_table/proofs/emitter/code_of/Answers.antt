use Rattle.std.proofs.Common.{◌≡◌, ◌∙◌, ◌-◌, suc, sym, ap, subst, arith, drop}
use Rattle.cam6_table.specs.Internal.Emitting.{HasIts, emit_all, nothing}
use Rattle.cam6_table.proofs.Needs.{needs_at}
use Rattle.cam6_table.proofs.emitter.code_of.Goals as goal

pub emit-requires : goal.emit-requires
emit-requires c =
    let l = c.loop-i in
    let words = c.args.words.now in
    let next : suc (l.i - 1) ≡ l.i = omega arith in
    subst (HasIts c.args.wiring c.args.codes.now _)
    (ap (λ i. emit_all c.args.wiring c.args.codes.now (drop i words) nothing) next
    ∙ sym l.invariant)
    (needs_at c.args.wiring c.args.codes.now words nothing (l.i - 1) _ (omega arith)
    c.requires)
