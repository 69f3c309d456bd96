use Rattle.std.proofs.Common.{◌≡◌, ◌∙◌, ◌+◌, ◌-◌, ◌==◌, ℕ, suc, Some}
use Rattle.std.proofs.Common.{slice_index, sym, subst, ap, arith, inl, inr}
use Rattle.std.proofs.lemmas.Bool.{cases_eq}
use Rattle.cam6_table.specs.Internal.Lanes.{LeadsTo, outcome_from}
use Rattle.cam6_table.proofs.Parting.{word_found, word_passed, if_same, if_other, if_none}
use Rattle.cam6_table.proofs.flows.find_case_words.Goals as goal

pub loop-index-preserved : goal.loop-index-preserved
loop-index-preserved c =
    let l = c.loop-index in
    let code = c.args.code.now in
    let here = c.before-in-loop-index in
    let put = c.put_in-remaining_by_lane in
    let set = λ (lane : ℕ). slice_index c.args.set.now lane in
    let indices = λ (lane : ℕ). slice_index c.args.indices.now lane in
    let those = c.those_with-those.ensures in
    let within = l.invariant.remaining in
    record {
      remaining = omega arith;
      within = λ lane below inside less.
          elim (cases_eq (indices lane) l.index) [
            | inl same ↦ (let is = put.ensures.inside lane below
                (those lane below ∙ if_same (indices lane) l.index (set lane) 0 same ∙ inside) in
                omega arith)
            | inr other ↦ (let is = put.ensures.outside lane below
                (those lane below ∙ if_other (indices lane) l.index (set lane) 0 other) in
                let before = l.invariant.within lane below inside (omega arith) in omega arith)
          ];
      found = λ lane below inside less.
          elim (cases_eq (indices lane) l.index) [
            | inl same ↦ (let is = put.ensures.inside lane below
                (those lane below ∙ if_same (indices lane) l.index (set lane) 0 same ∙ inside) in
                let none : 0 ≡ indices lane - l.index = omega arith in
                subst (λ b. LeadsTo code c.args.from (indices lane) b) (sym is)
                (λ address s.
                word_found address code here.result l.remaining c.in-CaseWord.length c.in-CaseWord.after
                s (omega arith) within here.ensures c.in-CaseWord.is ∙
                ap (λ w. outcome_from address code (record { remaining = l.remaining; word = Some w }) s)
                none ∙
                l.invariant.goes_on (indices lane) (omega arith) address s))
            | inr other ↦ (let is = put.ensures.outside lane below
                (those lane below ∙ if_other (indices lane) l.index (set lane) 0 other) in
                subst (λ b. LeadsTo code c.args.from (indices lane) b) (sym is)
                (l.invariant.found lane below inside (omega arith)))
          ];
      others = λ lane below outside.
          put.ensures.outside lane below
          (those lane below ∙ if_none (indices lane == l.index) (set lane) outside) ∙
          l.invariant.others lane below outside;
      goes_on = λ word low address s.
          let next : suc (word - (l.index + 1)) ≡ word - l.index = omega arith in
          word_passed address code here.result l.remaining c.in-CaseWord.length c.in-CaseWord.after s
          (omega arith) within here.ensures c.in-CaseWord.is c.saturating_sub-remaining.result
          (word - (l.index + 1)) c.saturating_sub-remaining.ensures ∙
          ap (λ w. outcome_from address code (record { remaining = l.remaining; word = Some w }) s) next ∙
          l.invariant.goes_on word (omega arith) address s;
    }
