use Rattle.std.proofs.Common.{rules, ◌≡◌, ◌∙◌, ◌<◌, ℕ, List, [], length, slice_index_or}
use Rattle.std.proofs.Common.{slice_set, ap, subst, sym}
use Rattle.std.proofs.lemmas.List.{get_or-set_same, get_or-set_other}
use Rattle.cam6_slot.specs.Needs.{IsTableNeeded}
use Rattle.cam6_station.proofs.fillings.Filling.fill_one.Goals as goal

pub returns-clause-table : goal.returns-clause-table
returns-clause-table c =
    let old = c.args.self.now in
    let made = c.load-hit.new.out in
    let index = c.args.index in
    let put : c.put.new.self ≡ slice_set old index made = search rules in
    let within : index < length old = search rules in
    let there : slice_index_or c.put.new.self index [] ≡ made =
    ap (λ (t : List (List ℕ)). slice_index_or t index []) put
    ∙ get_or-set_same old index made [] within in
    let right : IsTableNeeded c.args.lease.now.work index made =
    c.need-need.ensures.table made (search rules) in
    record {
      table = subst (λ (entries : List ℕ). IsTableNeeded c.args.lease.now.work index entries)
          (sym there) right;
      others = λ k other.
          ap (λ (t : List (List ℕ)). slice_index_or t k []) put
          ∙ get_or-set_other old index k made [] other;
    }
