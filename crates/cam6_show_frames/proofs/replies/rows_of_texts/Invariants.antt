use Rattle.std.proofs.Common.{◌≡◌, ◌++◌, drop, option_map}
use Rattle.serde_json.specs.View.{items_view}
use Rattle.cam6_show_frames.specs.Replies.{rows_of_texts}
use Rattle.cam6_show_frames.proofs.replies.rows_of_texts.Given as goal

abbrev pub invariant-loop-text : goal.invariant-loop-text
invariant-loop-text l =
    let rest = rows_of_texts (items_view (drop l.text-index l.texts)) in
    option_map (λ rows. l.rows.items ++ rows) rest ≡ rows_of_texts (items_view l.texts)
