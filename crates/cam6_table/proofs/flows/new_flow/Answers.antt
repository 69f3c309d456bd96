use Rattle.std.proofs.Common.{List, ℕ, subst, sym}
use Rattle.cam6_table.specs.Internal.Sets.{IsIn}
use Rattle.cam6_table.specs.Internal.Lanes.{AreLeftAt}
use Rattle.cam6_table.proofs.flows.new_flow.Goals as goal

pub returns : goal.returns
returns c = record {
  left = λ addresses code places left.
      let same = c.of.ensures in
      let at = subst (λ (set : List ℕ). AreLeftAt addresses code set c.args.remaining places c.args.lanes.now)
      (sym same) left in
      record {
        within = left.within;
        holds = c.span_of.ensures.holds;
        floors = λ lane below inside.
            let was = subst (λ (set : List ℕ). IsIn set lane) same inside in
            c.span_of.ensures.each lane below was (left.inside lane below was).stands;
        each = at.each;
        inside = at.inside;
        outside = at.outside;
      };
}
