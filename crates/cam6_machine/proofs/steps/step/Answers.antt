use Rattle.std.proofs.Common.{ℕ, ◌≡◌, ◌∙◌, ap, sym, subst}
use Rattle.cam6_planes.specs.Cells.{Cells, cells}
use Rattle.cam6_planes.specs.Side.{side_number}
use Rattle.cam6_planes.specs.Stored.{width}
use Rattle.cam6_band.specs.ByTables.{step_by, values_of}
use Rattle.cam6_band.specs.Partway.{Partway}
use Rattle.cam6_machine.proofs.steps.step.Goals as goal

pub loop-mid-init : goal.loop-mid-init
loop-mid-init c =
    let old = c.args.image.planes in
    let begun = c.begin-mid.ensures in
    record {
      alike = record { side = begun.side; limit = begun.limit };
      partway = begun.partway (step_by (width old) (values_of c.args.tables.now) (cells old));
    }

pub loop-mid-preserved : goal.loop-mid-preserved
loop-mid-preserved c =
    let now = c.loop-mid in
    let old = c.args.image.planes in
    let made : ℕ → Cells = λ n. step_by n (values_of c.args.tables.now) (cells old) in
    let side : width now.mid.planes ≡ width old = ap side_number now.invariant.alike.side in
    let gone = c.go_on.ensures in
    record {
      alike = record {
        side = gone.alike.side ∙ now.invariant.alike.side;
        limit = gone.alike.limit ∙ now.invariant.alike.limit;
      };
      partway = subst (λ n. Partway (cells old) (made n) c.go_on.new.self) side
          (gone.partway (cells old)
          (subst (λ n. Partway (cells old) (made n) now.mid) (sym side) now.invariant.partway));
    }

pub returns-clause-planes : goal.returns-clause-planes
returns-clause-planes c =
    let now = c.loop-mid in
    let old = c.args.image.planes in
    let made : ℕ → Cells = λ n. step_by n (values_of c.args.tables.now) (cells old) in
    let side : width now.mid.planes ≡ width old = ap side_number now.invariant.alike.side in
    subst (λ n. cells c.end.result.planes ≡ made n) side
    (c.end.ensures.planes (cells old)
    (subst (λ n. Partway (cells old) (made n) now.mid) (sym side) now.invariant.partway))
