use Rattle.std.proofs.Common.{◌≡◌, ◌∙◌, ℕ, Result, Ok, length, sym, subst, ap, arith}
use Rattle.std.proofs.lemmas.List.{length-set}
use Rattle.cam6_table.specs.declared.faults.RuleFault.{RuleFault}
use Rattle.cam6_table.specs.Codes.{result_at}
use Rattle.cam6_table.specs.Internal.Filling.{IsRight}
use Rattle.cam6_table.proofs.RightEntries.{copied, right_still, right_more}
use Rattle.cam6_table.proofs.filling.fill.Goals as goal

abbrev ok_entry : ℕ → Result ℕ RuleFault
ok_entry v = Ok v

pub loop-address-preserved : goal.loop-address-preserved
loop-address-preserved c =
    let l = c.loop-address in
    let code = c.args.code.now in
    let results = result_at code in
    let here = l.address in
    let entry = c.at-entry.result in
    let said : Ok entry ≡ results here =
    ap ok_entry c.at-entry.ensures ∙
    copied code c.lines_read-mask.result l.table c.lines_read-mask.ensures l.invariant.kept here
    (omega arith) in
    let put = sym c.put.ensures in
    record {
      all = sym (ap length put) ∙ length-set l.table here entry ∙ l.invariant.all;
      kept = λ a within shows.
          subst (λ t. IsRight results t a) put
          (right_still results l.table here entry (omega arith) said a
          (l.invariant.kept a within shows));
      filled = λ a below.
          subst (λ t. IsRight results t a) put
          (right_more results l.table here entry (omega arith) said l.invariant.filled a below);
    }
