-- A machine stays a machine, whatever it is commanded, and its limit stays.
use Rattle.std.proofs.Common.{◌≡◌, Bool, true, false, ◌&&◌, Option, Some, None, refl, sym, ap}
use Rattle.std.proofs.Common.{subst, cond, if◌then◌else◌, ◌==◌}
use Rattle.std.proofs.lemmas.Bool.{leb-true}
use Rattle.cam6_planes.specs.Side.{side_number, side_of}
use Rattle.cam6_planes.specs.declared.sides.Side.{Side}
use Rattle.cam6_planes.specs.Row.{byte_column}
use Rattle.cam6_planes.proofs.CellsAt.{torus_again}
use Rattle.cam6_commands.specs.RuleTexts.{HasText}
use Rattle.cam6_commands.specs.declared.commands.Command.{Command}
use Rattle.cam6_commands.specs.declared.commands.Command.TheVariants as command
use Rattle.cam6_commands.specs.declared.faults.Fault.TheVariants.{AboveLimit, NoMachine}
use Rattle.cam6_commands.specs.declared.refusals.Refusal.{Refusal}
use Rattle.cam6_model.specs.Rules.{Rule}
use Rattle.cam6_model.specs.Machine.{Machine}
use Rattle.cam6_model.specs.Saved.{restored}
use Rattle.cam6_model.specs.Refusals as refuse
use Rattle.cam6_model.specs.Effects.{effect, with_side, with_saved}
use Rattle.cam6_model.specs.Alone.{if_refused, after}
use Rattle.cam6_model.specs.Always.{IsMachine}
use Rattle.cam6_model.specs.Laws.{StaysMachine, LimitStays}
use Rattle.cam6_model.proofs.Refusing.{after-refused, after-accepted}
use Rattle.cam6_model.proofs.StepLaws.{only_planes_and_position}
use Rattle.cam6_model.proofs.StepsOfATorus.{side_some}
use Rattle.cam6_model.proofs.StepsBack.{only_these_back, unsteps_is}
use Rattle.cam6_model.proofs.Staying.{no_fault, first_none, allowed, some_cycle, moved_is, steps_is}
use Rattle.cam6_model.proofs.Staying.{accepted_cycle, from_0, rule_is, allowed_colours, dropped_is}
use Rattle.cam6_model.proofs.Staying.{none_whole}
use Rattle.cam6_model.proofs.SavedParts.{saved_is}

-- what a command that isn't refused makes of a machine
effect_is : (m : Machine) (c : Command) → IsMachine m → HasText c → refuse.refusal m c ≡ None →
    IsMachine (effect m c)
effect_is m (command.Set plane row bits) is text none =
    let s = side_number m.side in
    moved_is m (effect m (command.Set plane row bits)).planes m.position is
    (torus_again s (λ q u v. if (q == plane) && (v == row) then byte_column bits u
    else m.planes q u v) (side_some m.side)) is.position
effect_is m (command.Rule name wiring text) is utf8 none =
    let new : Rule = record { name = name; wiring = wiring; text = text } in
    let (number, words) = first_none _ (refuse.words_refusal wiring text) none in
    rule_is m new is (no_fault _ number) words utf8
effect_is m (command.Clear plane) is text none =
    let s = side_number m.side in
    moved_is m (effect m (command.Clear plane)).planes m.position is
    (torus_again s (λ q x y. if q == plane then false else m.planes q x y) (side_some m.side))
    is.position
effect_is m (command.Drop name) is text none = dropped_is m name is (no_fault _ none)
effect_is m command.Rules is text none = is
effect_is m (command.Map colours) is text none =
    let (coloured, small) = allowed_colours colours (no_fault _ none) in
    record {
      within = is.within;
      planes = is.planes;
      rules = is.rules;
      short = is.short;
      entries = is.entries;
      position = is.position;
      coloured = coloured;
      colours = small;
    }
effect_is m (command.Colours row) is text none = is
effect_is m (command.Count mask) is text none = is
effect_is m command.Save is text none = is
effect_is m (command.Load saved) is texts none = by_side (side_of saved.side) (no_fault _ none)
  where
    by_test : (side : Side) (b : Bool) → refuse.is_saved side saved ≡ b →
        cond b (refuse.within_refusal m.limit (Some side)) (Some NoMachine) ≡ None →
        IsMachine (restored side m.limit saved)
    by_test side false e none = cc none
    by_test side true e none =
        saved_is side m.limit saved texts e (leb-true _ _ (allowed _ AboveLimit none))

    by_side : (asked : Option Side) → refuse.loaded_refusal m.limit asked saved ≡ None →
        IsMachine (with_saved asked saved m)
    by_side None none = cc none
    by_side (Some side) none = by_test side (refuse.is_saved side saved) refl none
effect_is m (command.Cycle entries) is text none =
    let (short, are) = accepted_cycle m.rules entries (no_fault _ none) in
    record {
      within = is.within;
      planes = is.planes;
      rules = is.rules;
      short = short;
      entries = are;
      position = from_0 entries;
      coloured = is.coloured;
      colours = is.colours;
    }
effect_is m (command.Run n) is text none = steps_is m n is (some_cycle m.cycle n none)
effect_is m (command.Back n) is text none = unsteps_is m n is
effect_is m (command.Row plane row) is text none = is
effect_is m (command.Plane plane) is text none = is
effect_is m (command.Side n) is text none = by_side (side_of n) (no_fault _ none)
  where
    by_side : (asked : Option Side) → refuse.within_refusal m.limit asked ≡ None →
        IsMachine (with_side asked m)
    by_side None none = cc none
    by_side (Some side) none = record {
      within = leb-true _ _ (allowed _ AboveLimit none);
      planes = none_whole (side_number side);
      rules = is.rules;
      short = is.short;
      entries = is.entries;
      position = from_0 m.cycle;
      coloured = is.coloured;
      colours = is.colours;
    }

pub stays_machine : StaysMachine
stays_machine m c is text = by_refusal (refuse.refusal m c) refl
  where
    by_refusal : (o : Option Refusal) → refuse.refusal m c ≡ o → IsMachine (after m c)
    by_refusal None none = subst IsMachine (sym (after-accepted m c none)) (effect_is m c is text none)
    by_refusal (Some r) refused = subst IsMachine (sym (after-refused m c r refused)) is

-- what a command that isn't refused leaves of the limit
effect_limit : (m : Machine) (c : Command) → (effect m c).limit ≡ m.limit
effect_limit m (command.Set plane row bits) = refl
effect_limit m (command.Rule name wiring text) = refl
effect_limit m (command.Clear plane) = refl
effect_limit m (command.Drop name) = refl
effect_limit m command.Rules = refl
effect_limit m (command.Map colours) = refl
effect_limit m (command.Colours row) = refl
effect_limit m (command.Count mask) = refl
effect_limit m command.Save = refl
effect_limit m (command.Load saved) = by_side (side_of saved.side)
  where
    by_side : (asked : Option Side) → (with_saved asked saved m).limit ≡ m.limit
    by_side None = refl
    by_side (Some side) = refl
effect_limit m (command.Cycle entries) = refl
effect_limit m (command.Run n) = ap (λ (k : Machine). k.limit) (only_planes_and_position m n)
effect_limit m (command.Back n) = ap (λ (k : Machine). k.limit) (only_these_back m n)
effect_limit m (command.Row plane row) = refl
effect_limit m (command.Plane plane) = refl
effect_limit m (command.Side n) = by_side (side_of n)
  where
    by_side : (asked : Option Side) → (with_side asked m).limit ≡ m.limit
    by_side None = refl
    by_side (Some side) = refl

pub limit_stays : LimitStays
limit_stays m c = by_refusal (refuse.refusal m c)
  where
    by_refusal : (o : Option Refusal) → (if_refused o (λ r. m) (effect m c)).limit ≡ m.limit
    by_refusal None = effect_limit m c
    by_refusal (Some r) = refl
