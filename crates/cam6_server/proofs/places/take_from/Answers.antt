use Rattle.std.proofs.Common.{◌≡◌, suc, Option, ok_or, refl, ap, ◌∙◌, arith, subst, sym, slice_set}
use Rattle.cam6_handoff.specs.Standing.{Stance}
use Rattle.cam6_wire.specs.declared.seats.Seating.TheVariants.{Taken}
use Rattle.cam6_server.proofs.Changes.{no_place, none_past, one_gone, some_there, takes}
use Rattle.cam6_server.specs.Places.{AreAtTheirPlaces}
use Rattle.cam6_server.proofs.places.take_from.Goals as goal

pub returns-in-Some-get_mut-clause-own : goal.returns-in-Some-get_mut-clause-own
returns-in-Some-get_mut-clause-own c =
    let places = c.args.desks.now.items in
    subst (λ (o : Option Stance). AreAtTheirPlaces (slice_set places c.in-Some.index o))
    (sym c.take.ensures.after) (one_gone places c.in-Some.index c.requires)

pub returns-in-Some-get_mut-clause-taken : goal.returns-in-Some-get_mut-clause-taken
returns-in-Some-get_mut-clause-taken c =
    let places = c.args.desks.now.items in
    let found = c.in-Some-get_mut.ensures in
    let is : c.args.user ≡ suc c.in-Some.index = omega arith in
    takes places c.args.user c.in-Some.index c.in-Some-get_mut.place.now c.take.new.self
    c.ok_or.result c.requires is
    (some_there places _ c.in-Some.index c.in-Some-get_mut.place.now
    c.args.desks.now.ok.0 (found.variant.0 refl) found.item.1)
    (c.ok_or.ensures.value ∙ ap (λ o. ok_or o Taken) c.take.ensures.value) c.take.ensures.after

pub returns-in-None-clause-taken : goal.returns-in-None-clause-taken
returns-in-None-clause-taken c =
    let places = c.args.desks.now.items in
    let is : c.args.user ≡ suc c.in-Some.index = omega arith in (
      no_place places c.args.user c.in-Some.index is
          (none_past places _ c.in-Some.index c.args.desks.now.ok.0 c.in-None.ensures.variant.1),
      refl,
    )
