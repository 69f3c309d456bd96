use Rattle.std.proofs.Common.{sym, List, ◌≡◌, ◌++◌, [], ◌∷◌, ◌∙◌, ap, append-nil, map, rules, subst, Option, Some}
use Rattle.std.proofs.lemmas.List.{append_assoc, map-append, nil_from_length}
use Rattle.cam6_handoff.specs.Standing.{Stance}
use Rattle.cam6_server.specs.Places.{AreAtTheirPlaces}
use Rattle.cam6_server.proofs.Changes.{all_there}
use Rattle.cam6_server.proofs.places.Places.new.Goals as goal

pub loop-desk-preserved : goal.loop-desk-preserved
loop-desk-preserved c =
    let (whole, are) = c.loop-desk.invariant in (
      append_assoc c.loop-desk.yielded (c.in-Some.desk ∷ []) c.next.new.self.rest.items
          ∙ ap (λ (ds : List Stance). c.loop-desk.yielded ++ ds) (sym c.in-Some.ensures.steps.0) ∙ whole,
      c.in_ok-push.ensures.items
          ∙ ap (λ (ps : List (Option Stance)). ps ++ Some c.in-Some.desk ∷ []) are
          ∙ sym (map-append Some c.loop-desk.yielded (c.in-Some.desk ∷ [])),
    )

pub invariant_of-result : goal.invariant_of-result
invariant_of-result c =
    let (whole, are) = c.loop-desk.invariant in
    let done = c.loop-desk.yielded in
    let left = c.loop-desk.desk-iterator.rest.items in
    let empty : left ≡ [] = nil_from_length left (search rules) in
    let all : done ≡ c.args.desks.items =
    sym (append-nil done) ∙ sym (ap (λ (ds : List Stance). done ++ ds) empty) ∙ whole in
    subst AreAtTheirPlaces (sym (are ∙ ap (λ (ds : List Stance). map Some ds) all))
    (all_there c.args.desks.items c.requires)
