use Rattle.std.proofs.Common.{◌∙◌, arith, below_more, inr, sym}
use Rattle.std.proofs.lemmas.Bool.{false≢true}
use Rattle.cam6_web_router.proofs.NoWay.{no_way}
use Rattle.cam6_web_router.proofs.ways.Hosts.way_at.Goals as goal

pub returns-then-are_bytes_of-2-clause-found : goal.returns-then-are_bytes_of-2-clause-found
returns-then-are_bytes_of-2-clause-found c =
    let at = c.self.invariant.0 c.loop-index.index c.index.result.now (omega arith) in
    let same = c.are_bytes_of-in-loop-index.ensures.0 c.if-are_bytes_of-2.true in
    (omega arith, omega (arith, c.self.view_is), inr (sym same ∙ c.as_slice.ensures ∙ c.index.ensures ∙ at))

pub loop-index-preserved : goal.loop-index-preserved
loop-index-preserved c =
    let at = c.self.invariant.0 c.loop-index.index c.index.result.now (omega arith) in
    let here = c.as_slice.ensures ∙ c.index.ensures ∙ at in (
      omega arith,
      below_more _ _ c.loop-index.invariant.1 (λ is. false≢true (c.if-are_bytes_of-2.ensures.1 (here ∙ sym is))),
    )

pub returns-clause-none : goal.returns-clause-none
returns-clause-none c =
    no_way _ _ (λ is. false≢true (c.if-are_bytes_of.ensures.1 (c.as_bytes.ensures.value ∙ is)))
    (λ k below. c.loop-index.invariant.1 k (omega (arith, below, c.self.view_is)))
