use Rattle.std.proofs.Common.{◌≡◌, ◌*◌, ◌∙◌, ap, refl, arith}
use Rattle.cam6_view.specs.States.{is_in, count_below}
use Rattle.cam6_view.specs.Internal.{state_in_words, state_in_row}
use Rattle.cam6_view.proofs.CountsBelow.{count_below-none, one_word}
use Rattle.cam6_view.proofs.counts.count_in_row.Goals as goal

pub loop-k-init : goal.loop-k-init
loop-k-init c = record { value = λ mask spread. count_below-none _ 0 refl; bound = omega arith }

pub loop-k-preserved : goal.loop-k-preserved
loop-k-preserved c =
    let k = c.loop-k.k in
    let total = c.loop-k.total in
    let word = c.count_in_word-total in
    record {
      value = λ mask spread.
          one_word (λ x. is_in mask (state_in_row c.args.rows.now x))
          (λ i. is_in mask (state_in_words c.words_of.result i)) total word.result k
          (c.loop-k.invariant.value mask spread) (word.ensures.value mask spread)
          (λ i h. ap (is_in mask) (c.words_of.ensures i h));
      bound = omega (arith, c.loop-k.invariant.bound, word.ensures.bound);
    }

pub returns-clause-value : goal.returns-clause-value
returns-clause-value c mask spread =
    let all : 64 * c.loop-k.k ≡ 64 * c.args.words =
    omega (arith, c.loop-k.auto.k-end, c.loop-k-test.false) in
    c.loop-k.invariant.value mask spread ∙
    ap (count_below (λ x. is_in mask (state_in_row c.args.rows.now x))) all
