use Rattle.std.proofs.Common.{sym, subst}
use Rattle.cam6_rules.specs.Numbers.{entries_of}
use Rattle.cam6_rules.specs.Filled.{AreTablesIf}
use Rattle.cam6_machine.specs.Internal.Images.{kept_as}
use Rattle.cam6_machine.specs.Internal.Loading.{IsFound, IsLoaded}
use Rattle.cam6_machine.proofs.Keeping.{loaded_is_kept}
use Rattle.cam6_machine.proofs.kept.Kept.load.Goals as goal

pub invariant_of-self-in-Ok : goal.invariant_of-self-in-Ok
invariant_of-self-in-Ok c =
    let k = c.self.inside in
    let found = c.in-Ok.found in
    let cycle = entries_of found.cycle in
    let is : IsFound k.limit c.args.saved found =
    subst (IsLoaded k.limit c.args.saved) c.in-Ok.is c.in_ok-found.ensures.loaded in (
      loaded_is_kept (kept_as k.limit k.rules (entries_of k.cycle) k.position k.colours)
          (kept_as k.limit found.rules cycle found.position found.colours) c.args.saved
          found.planes.side c.self.invariant.0 is.texts is.accepted is.planes.side is.rules is.named
          is.position is.colours is.numbered,
      subst (λ o. AreTablesIf o found.rules cycle c.invalidate.new.self.entries)
          (sym c.invalidate.ensures.filled) tt,
    )
