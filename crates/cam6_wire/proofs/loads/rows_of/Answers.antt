use Rattle.std.proofs.Common.{◌∙◌, sym, refl}
use Rattle.serde_json.specs.View.{items_view}
use Rattle.cam6_wire.specs.Loads.{bits_in, rows_of}
use Rattle.cam6_wire.proofs.Growing.{one_more_read}
use Rattle.cam6_wire.proofs.loads.rows_of.Goals as goal

pub loop-value-preserved : goal.loop-value-preserved
loop-value-preserved c =
    let now = c.loop-value in
    one_more_read bits_in rows_of (λ d ds. refl) c.args.values.now now.value-index
    c.value-item.result now.rows.items c.push.new.self.items c.in-Some.row c.loop-value-test.true
    c.value-item.is (sym c.bits_in.ensures ∙ c.in-Some.is) c.in_ok-push-in-Some.ensures.items
    (rows_of (items_view c.args.values.now)) now.invariant
