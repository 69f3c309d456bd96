use Rattle.std.proofs.Common.{◌≡◌, ℕ, ◌∙◌, List, length, length-set, map, arith}
use Rattle.std.proofs.lemmas.List.{length-map}
use Rattle.cam6_lookup.proofs.Addresses.{two_more}
use Rattle.cam6_lookup.proofs.look_up.look_up_words.Goals as goal

pub loop-chunk-preserved : goal.loop-chunk-preserved
loop-chunk-preserved g c =
    let a = c.args in
    let now = c.loop-chunk in
    let lines : List (List ℕ) = map (λ line. line.now) a.lines.now in
    let twelve : length lines ≡ 12 = length-map a.lines.now (λ line. line.now) ∙ c.told-lines in
    let rows = c.shown_addresses-rows in
    let first = c.words-first_lower in
    let second = c.words-second_lower in
    record {
      lower_words = length-set _ _ _ ∙ length-set _ _ _ ∙ now.invariant.lower_words;
      upper_words = length-set _ _ _ ∙ length-set _ _ _ ∙ now.invariant.upper_words;
      lower = two_more rows.result lines a.entries.now now.lower g.row.N now.chunk 0 first.result.0
          second.result.0 twelve now.invariant.lower_words (omega arith) rows.ensures
          now.invariant.lower first.ensures.lower second.ensures.lower;
      upper = two_more rows.result lines a.entries.now now.upper g.row.N now.chunk 1 first.result.1
          second.result.1 twelve now.invariant.upper_words (omega arith) rows.ensures
          now.invariant.upper first.ensures.upper second.ensures.upper;
    }

pub returns : goal.returns
returns g c = record {
  lower = λ x h. c.loop-chunk.invariant.lower x (omega arith);
  upper = λ x h. c.loop-chunk.invariant.upper x (omega arith);
}
