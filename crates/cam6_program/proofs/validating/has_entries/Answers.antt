use Rattle.cam6_lookup.specs.Entries.{entry_bit}
use Rattle.cam6_program.proofs.Packing.{one_more_word}
use Rattle.cam6_program.proofs.validating.has_entries.Goals as goal

pub loop-word-preserved : goal.loop-word-preserved
loop-word-preserved c =
    let a = c.args in
    let now = c.loop-word in
    let words = c.packed-entries_lower in
    record {
      lower = one_more_word (λ address. entry_bit a.entries.now address 0) a.lower.now now.word
          words.result.0 c.if-lower-word.false now.invariant.lower words.ensures.lower;
      upper = one_more_word (λ address. entry_bit a.entries.now address 1) a.upper.now now.word
          words.result.1 c.if-upper-word.false now.invariant.upper words.ensures.upper;
    }
