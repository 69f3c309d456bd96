use Rattle.std.proofs.Common.{◌∙◌, slice_index, ap, sym, subst, arith, inl, inr}
use Rattle.std.proofs.lemmas.Bool.{cases_eq}
use Rattle.cam6_table.specs.declared.lanes.Lanes.{Lanes}
use Rattle.cam6_table.specs.Internal.Lanes.{Stands, IsKept, IsUntouched}
use Rattle.cam6_table.proofs.Moving.{kept_then, kept_untouched, untouched_then}
use Rattle.cam6_table.proofs.levels.fill_gaps.Goals as goal
use Rattle.cam6_table.proofs.levels.fill_gaps.Goals.{then-set-lane-ne0, else-set-lane-ne0}

pub loop-lane-preserved : goal.loop-lane-preserved
loop-lane-preserved c =
    let l = c.loop-lane in
    let old = c.args.lanes.now in
    let mid = l.lanes in
    let set = c.args.set.now in
    let before = l.invariant in
    elim c.if-set-lane-ne0.branch [
      | then-set-lane-ne0 w ↦ (let new = w.fill_gap.new.lanes in
          let dig = w.fill_gap.ensures in
          let some = w.if-set-lane-ne0.true in
          let is = sym w.lanes-is in
          record {
            len = ap (λ (n : Lanes). n.stacks.len) w.lanes-is ∙ dig.len ∙ before.len;
            dug = λ k top below inside stands.
                subst (λ (n : Lanes). IsKept top old top n k) is
                (elim (cases_eq k l.lane) [
                  | inl same ↦ subst (λ j. IsKept top old top new j) (sym same)
                      (let was = subst (λ j. Stands j top old.floors) same stands in
                      let first = kept_untouched old mid l.lane top
                      (before.left l.lane (omega arith) (omega arith)) was in
                      kept_then old mid new l.lane top top top first (dig.here top first.stands))
                  | inr other ↦ (let first = before.dug k top (omega (arith, below, other)) inside stands in
                      kept_then old mid new k top top top first
                      (kept_untouched mid new k top (dig.others k (omega (arith, below)) other)
                      first.stands))
                ]);
            left = λ k high below.
                subst (λ (n : Lanes). IsUntouched old n k) is
                (untouched_then old mid new k (before.left k (omega (arith, high)) below)
                (dig.others k below (omega (arith, high))));
            outside = λ k below outside.
                subst (λ (n : Lanes). IsUntouched old n k) is
                (elim (cases_eq k l.lane) [
                  | inl same ↦ absurd (some (sym (ap (λ j. slice_index set j) same) ∙ outside))
                  | inr other ↦ untouched_then old mid new k (before.outside k below outside)
                      (dig.others k below other)
                ]);
          })
      | else-set-lane-ne0 w ↦ (let is = sym w.lanes-is in
          let none = w.if-set-lane-ne0.false in
          record {
            len = ap (λ (n : Lanes). n.stacks.len) w.lanes-is ∙ before.len;
            dug = λ k top below inside stands.
                subst (λ (n : Lanes). IsKept top old top n k) is
                (elim (cases_eq k l.lane) [
                  | inl same ↦ absurd (let here = ap (λ j. slice_index set j) same in
                      omega (arith, here, inside, none))
                  | inr other ↦ before.dug k top (omega (arith, below, other)) inside stands
                ]);
            left = λ k high below.
                subst (λ (n : Lanes). IsUntouched old n k) is (before.left k (omega (arith, high)) below);
            outside = λ k below outside.
                subst (λ (n : Lanes). IsUntouched old n k) is (before.outside k below outside);
          })
    ]

pub returns-clause-inside : goal.returns-clause-inside
returns-clause-inside c = λ lane top below inside stands.
    c.loop-lane.invariant.dug lane top (omega arith) inside stands
