-- What is found of a saved machine, part by part: it is one, or a load is refused.
use Rattle.std.proofs.Common.{◌≡◌, ◌≤◌, ◌<◌, ℕ, Bool, true, false, ◌&&◌, List, [], ◌∷◌, length}
use Rattle.std.proofs.Common.{Some, None, is_none, cond, refl, ap, ◌∙◌, arith, nat_le}
use Rattle.std.specs.List.{AllByRecursion}
use Rattle.std.specs.Str.{IsUtf8}
use Rattle.std.proofs.lemmas.Bool.{eqb-true, ltb-true, le-leb, leb-true, and_parts, and_from}
use Rattle.std.proofs.lemmas.Bool.{and_left, and_right, false_from_ne_true}
use Rattle.cam6_planes.specs.Side.{side_number, side_of}
use Rattle.cam6_planes.specs.declared.sides.Side.{Side}
use Rattle.cam6_planes.proofs.CellsAt.{torus_again}
use Rattle.cam6_cycle.specs.Limits.{max_entries}
use Rattle.cam6_commands.specs.Checks.{unless}
use Rattle.cam6_commands.specs.declared.commands.Command.TheVariants.{Load}
use Rattle.cam6_commands.specs.declared.commands.NamedEntry.{NamedEntry}
use Rattle.cam6_commands.specs.declared.faults.Fault.{Fault}
use Rattle.cam6_commands.specs.declared.faults.Fault.TheVariants.{AboveLimit, NoMachine}
use Rattle.cam6_commands.specs.declared.saved.SavedMachine.{SavedMachine}
use Rattle.cam6_model.specs.Rules.{Rule}
use Rattle.cam6_model.specs.Machine.{Machine}
use Rattle.cam6_model.specs.Saved.{saved_bit, restored}
use Rattle.cam6_model.specs.Refusals as refuse
use Rattle.cam6_model.specs.Effects.{with_saved}
use Rattle.cam6_model.specs.Alone.{after}
use Rattle.cam6_model.specs.Always.{IsEntry, IsPosition, IsMachine}
use Rattle.cam6_model.proofs.Refusing.{after-accepted}
use Rattle.cam6_model.proofs.StepsOfATorus.{side_some}
use Rattle.cam6_model.proofs.Staying.{accepted_cycle, allowed_colours}
use Rattle.cam6_model.proofs.LoadedRules.{is_nothing, rules_are}

position_is : (cycle : List NamedEntry) (position : ℕ) →
    refuse.is_position cycle position ≡ true → IsPosition cycle position
position_is [] position is = eqb-true position 0 is
position_is (entry ∷ cycle) position is = ltb-true position (length (entry ∷ cycle)) is

-- entries that are found to be those of a cycle, or none
pub found_entries : (rules : List Rule) (entries : List NamedEntry) →
    refuse.are_entries rules entries ≡ true →
    (length entries ≤ max_entries) × AllByRecursion (IsEntry rules) entries
found_entries rules [] is = (omega arith, tt)
found_entries rules (entry ∷ entries) is =
    accepted_cycle rules (entry ∷ entries)
    (is_nothing (refuse.cycle_refusal rules (entry ∷ entries)) is)

-- entries that are accepted as a cycle, and some that are refused
pub entries_accepted : (rules : List Rule) (entries : List NamedEntry) →
    refuse.cycle_refusal rules entries ≡ None → refuse.are_entries rules entries ≡ true
entries_accepted rules [] none = refl
entries_accepted rules (entry ∷ entries) none = ap is_none none

pub entries_refused : (rules : List Rule) (entry : NamedEntry) (entries : List NamedEntry)
    (fault : Fault) → refuse.cycle_refusal rules (entry ∷ entries) ≡ Some fault →
    refuse.are_entries rules (entry ∷ entries) ≡ false
entries_refused rules entry entries fault refused = ap is_none refused

-- the parts of a saved machine, as they are found
pub record AreParts (side : Side) (saved : SavedMachine) : Type 0 where
  pub planes : refuse.are_planes (side_number side) saved.planes ≡ true
  pub colours : refuse.map_refusal saved.colours ≡ None
  pub rules : refuse.are_rules_after [] saved.rules ≡ true
  pub entries : refuse.are_entries saved.rules saved.cycle ≡ true
  pub position : refuse.is_position saved.cycle saved.position ≡ true

pub parts_found : (side : Side) (saved : SavedMachine) → refuse.is_saved side saved ≡ true →
    AreParts side saved
parts_found side saved is =
    let planes = refuse.are_planes (side_number side) saved.planes in
    let colours = is_none (refuse.map_refusal saved.colours) in
    let rules = refuse.are_rules_after [] saved.rules in
    let entries = refuse.are_entries saved.rules saved.cycle in
    let position = refuse.is_position saved.cycle saved.position in
    let four = and_parts (planes && colours && rules && entries) position is in
    let three = and_parts (planes && colours && rules) entries four.0 in
    let two = and_parts (planes && colours) rules three.0 in
    let one = and_parts planes colours two.0 in
    record {
      planes = one.0;
      colours = is_nothing (refuse.map_refusal saved.colours) one.1;
      rules = two.1;
      entries = three.1;
      position = four.1;
    }

pub saved_of_parts : (side : Side) (saved : SavedMachine) → AreParts side saved →
    refuse.is_saved side saved ≡ true
saved_of_parts side saved are =
    let planes = refuse.are_planes (side_number side) saved.planes in
    let colours = is_none (refuse.map_refusal saved.colours) in
    let rules = refuse.are_rules_after [] saved.rules in
    let entries = refuse.are_entries saved.rules saved.cycle in
    let position = refuse.is_position saved.cycle saved.position in
    and_from (planes && colours && rules && entries) position
    (and_from (planes && colours && rules) entries
    (and_from (planes && colours) rules
    (and_from planes colours are.planes (ap is_none are.colours)) are.rules) are.entries)
    are.position

-- what is found to be saved of a machine is one, within the limit
pub saved_is : (side limit : Side) (saved : SavedMachine) →
    AllByRecursion (λ rule. IsUtf8 rule.text) saved.rules → refuse.is_saved side saved ≡ true →
    side_number side ≤ side_number limit → IsMachine (restored side limit saved)
saved_is side limit saved texts is within =
    let are = parts_found side saved is in
    let (short, entries) = found_entries saved.rules saved.cycle are.entries in
    let (sixteen, small) = allowed_colours saved.colours are.colours in
    record {
      within = within;
      planes = torus_again (side_number side) (saved_bit saved.planes) (side_some side);
      rules = rules_are saved.rules texts are.rules;
      short = short;
      entries = entries;
      position = position_is saved.cycle saved.position are.position;
      coloured = sixteen;
      colours = small;
    }

-- a machine that is found whole, of a side within the limit, is loaded
pub accepted_is : (limit side : Side) (saved : SavedMachine) → side_of saved.side ≡ Some side →
    AreParts side saved → side_number side ≤ side_number limit →
    refuse.load_refusal limit saved ≡ None
accepted_is limit side saved is are within =
    ap (λ o. refuse.loaded_refusal limit o saved) is
    ∙ ap (λ b. cond b (refuse.within_refusal limit (Some side)) (Some NoMachine))
    (saved_of_parts side saved are)
    ∙ ap (λ b. unless b AboveLimit) (le-leb (side_number side) (side_number limit) within)

-- and then it is what there is, but for the limit
pub after_load : (m : Machine) (saved : SavedMachine) (side : Side) →
    side_of saved.side ≡ Some side → refuse.load_refusal m.limit saved ≡ None →
    after m (Load saved) ≡ restored side m.limit saved
after_load m saved side is none =
    after-accepted m (Load saved) (ap refuse.fault_refusal none)
    ∙ ap (λ o. with_saved o saved m) is

-- one that is found whole, of a side above the limit
pub above_limit : (limit side : Side) (saved : SavedMachine) → side_of saved.side ≡ Some side →
    AreParts side saved → side_number limit < side_number side →
    refuse.load_refusal limit saved ≡ Some AboveLimit
above_limit limit side saved is are above =
    let outside : nat_le (side_number side) (side_number limit) ≡ false =
    false_from_ne_true (nat_le (side_number side) (side_number limit))
    (λ e. absurd (omega (arith, above, leb-true (side_number side) (side_number limit) e))) in
    ap (λ o. refuse.loaded_refusal limit o saved) is
    ∙ ap (λ b. cond b (refuse.within_refusal limit (Some side)) (Some NoMachine))
    (saved_of_parts side saved are)
    ∙ ap (λ b. unless b AboveLimit) outside

-- one of no side
pub no_side : (limit : Side) (saved : SavedMachine) → side_of saved.side ≡ None →
    refuse.load_refusal limit saved ≡ Some NoMachine
no_side limit saved none = ap (λ o. refuse.loaded_refusal limit o saved) none

not_saved : (limit side : Side) (saved : SavedMachine) → side_of saved.side ≡ Some side →
    refuse.is_saved side saved ≡ false → refuse.load_refusal limit saved ≡ Some NoMachine
not_saved limit side saved is none =
    ap (λ o. refuse.loaded_refusal limit o saved) is
    ∙ ap (λ b. cond b (refuse.within_refusal limit (Some side)) (Some NoMachine)) none

-- and one of which a part is that of no machine
module _ (limit side : Side) (saved : SavedMachine) (is : side_of saved.side ≡ Some side) where
  abbrev planes : Bool
  planes = refuse.are_planes (side_number side) saved.planes

  abbrev colours : Bool
  colours = is_none (refuse.map_refusal saved.colours)

  abbrev rules : Bool
  rules = refuse.are_rules_after [] saved.rules

  abbrev entries : Bool
  entries = refuse.are_entries saved.rules saved.cycle

  abbrev position : Bool
  position = refuse.is_position saved.cycle saved.position

  pub no_planes : planes ≡ false → refuse.load_refusal limit saved ≡ Some NoMachine
  no_planes none =
      not_saved limit side saved is
      (and_left (planes && colours && rules && entries) position
      (and_left (planes && colours && rules) entries
      (and_left (planes && colours) rules (and_left planes colours none))))

  pub no_colours : (fault : Fault) → refuse.map_refusal saved.colours ≡ Some fault →
      refuse.load_refusal limit saved ≡ Some NoMachine
  no_colours fault refused =
      not_saved limit side saved is
      (and_left (planes && colours && rules && entries) position
      (and_left (planes && colours && rules) entries
      (and_left (planes && colours) rules (and_right planes colours (ap is_none refused)))))

  pub not_rules : rules ≡ false → refuse.load_refusal limit saved ≡ Some NoMachine
  not_rules none =
      not_saved limit side saved is
      (and_left (planes && colours && rules && entries) position
      (and_left (planes && colours && rules) entries (and_right (planes && colours) rules none)))

  pub no_entries : entries ≡ false → refuse.load_refusal limit saved ≡ Some NoMachine
  no_entries none =
      not_saved limit side saved is
      (and_left (planes && colours && rules && entries) position
      (and_right (planes && colours && rules) entries none))

  pub no_position : position ≡ false → refuse.load_refusal limit saved ≡ Some NoMachine
  no_position none =
      not_saved limit side saved is
      (and_right (planes && colours && rules && entries) position none)
