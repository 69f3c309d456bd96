use Rattle.std.proofs.Common.{◌≡◌, rules, arith, suc, Some, slice_set, subst, sym}
use Rattle.cam6_handoff.specs.Standing.{Stance}
use Rattle.cam6_server.specs.Places.{AreAtTheirPlaces, IsFreeDeskOf}
use Rattle.cam6_server.proofs.Changes.{one_back}
use Rattle.cam6_server.proofs.places.put_back.Goals as goal

pub returns-then-index-len-clause-own : goal.returns-then-index-len-clause-own
returns-then-index-len-clause-own c =
    let places = c.args.desks.now.items in
    let is : c.args.user ≡ suc c.in-Some.index = omega arith in
    let same : c.insert.result.now ≡ c.args.desk = search rules in
    subst (λ (d : Stance). AreAtTheirPlaces (slice_set places c.in-Some.index (Some d))) (sym same)
    (one_back places c.in-Some.index c.args.desk c.requires.places
    (subst (λ u. IsFreeDeskOf u c.args.desk) is c.requires.desk))
