use Rattle.std.proofs.Common.{◌∙◌, List, ℕ, ap}
use Rattle.cam6_commands.specs.declared.commands.Command.TheVariants.{Set}
use Rattle.cam6_model.specs.Alone.{after}
use Rattle.cam6_model.specs.Refusals.{set_refusal}
use Rattle.cam6_planes.specs.Cells.{cells, with_row}
use Rattle.cam6_planes.specs.Row.{byte_column}
use Rattle.cam6_planes.specs.Side.{side_number}
use Rattle.cam6_planes.specs.Stored.{Stored}
use Rattle.cam6_machine.specs.Stored.{machine_of}
use Rattle.cam6_machine.proofs.Replying.{after-set}
use Rattle.cam6_machine.proofs.machines.Machine.set.Goals as goal

pub returns-clause-machine : goal.returns-clause-machine
returns-clause-machine c =
    let planes = c.self.inside.image in
    let k = c.self.inside.kept in
    let plane = c.args.plane in
    let row = c.args.row in
    let side = c.side.ensures.side ∙ ap (λ (v : Stored). v.side) c.planes.ensures in
    let bits = c.as_slice-bits.ensures in
    let s = side_number planes.side in
    let given = c.as_slice-bits.result.now in
    after-set planes k.limit k.rules k.cycle k.position k.colours c.put_row.new.self plane row
    c.args.bits.now c.put_row.ensures.alike
    (c.in-Ok.ensures.refusal ∙ ap (λ l. set_refusal l plane row given) side ∙
    ap (set_refusal planes.side plane row) bits)
    (c.put_row.ensures.cells ∙
    ap (λ p. with_row s (cells planes) p c.number-2.result (byte_column given))
    (c.number.ensures.value ∙ c.in-Ok.ensures.plane) ∙
    ap (λ y. with_row s (cells planes) plane y (byte_column given))
    (c.number-2.ensures.value ∙ ap (λ r. r.number) c.in-Ok.ensures.row) ∙
    ap (λ (l : List ℕ). with_row s (cells planes) plane row (byte_column l)) bits) ∙
    ap (λ v. after (machine_of v) (Set plane row c.args.bits.now)) c.self.view_is
