use Rattle.std.proofs.Common.{◌≡◌, ◌∙◌, ap, map, rules}
use Rattle.std.specs.String.{string_bytes}
use Rattle.std.proofs.lemmas.List.{map_push}
use Rattle.hex.specs.Hex.{encode_lower}
use Rattle.serde_json.specs.Data.{string}
use Rattle.serde_json.specs.View.{view}
use Rattle.serde_json.specs.declared.value.Value.{String, the_lemmas}
use Rattle.cam6_wire.proofs.Growing.{one_more_of}
use Rattle.cam6_wire.proofs.saved.rows_value.Goals as goal

pub loop-row-preserved : goal.loop-row-preserved
loop-row-preserved c =
    let now = c.loop-row in
    let text = c.in_ok-encode.field-0 in
    let shown : view (String text) ≡ string (string_bytes text) = search (rules, the_lemmas) in
    one_more_of view (λ row. string (encode_lower row)) (λ rows. map string (map encode_lower rows))
    (λ rows row. ap (map string) (map_push encode_lower rows row)
    ∙ map_push string (map encode_lower rows) (encode_lower row))
    now.values.items c.push.new.self.items (String text) c.args.rows.now now.row-index c.row-item.result
    c.loop-row-test.true
    (shown ∙ ap string (c.in_ok-encode.ensures ∙ ap encode_lower (c.as_slice.ensures ∙ c.row-item.is)))
    c.in_ok-push.ensures.items now.invariant
