use Rattle.std.proofs.Common.{◌≡◌, ◌∙◌, get_or, Some, None, [], arith, length-set}
use Rattle.cam6_wiring.specs.declared.names.Name.{Name}
use Rattle.cam6_lines.specs.Internal.Parts.{ShowsPart}
use Rattle.cam6_lines.proofs.LineByLine.{one_more}
use Rattle.cam6_lines.proofs.unit_lines.put_parts_at.Goals as goal

pub loop-k-preserved : goal.loop-k-preserved
loop-k-preserved g c =
    let a = c.args in
    let now = c.loop-k in
    record {
      long = length-set _ _ _ ∙ now.invariant.long;
      made = λ f of.
          one_more (λ place part. (name : Name) →
          get_or a.needed.now.names place None ≡ Some name →
          ShowsPart f a.setting.now name a.band.now a.unit part)
          now.parts [] c.put_named.new.part now.k
          (omega (arith, now.invariant.long, c.requires.room, c.loop-k-test.true))
          (now.invariant.made f of) (c.put_named.ensures f of);
    }
