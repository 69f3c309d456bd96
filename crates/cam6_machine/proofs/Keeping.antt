-- What a machine keeps beside its planes stays what is always kept.
use Rattle.std.proofs.Common.{◌≡◌, ◌≤◌, ◌<◌, ℕ, List, [], ◌∷◌, length, Some, None, subst, sym}
use Rattle.std.proofs.Common.{refl, ap, ◌∙◌, lit≤, arith}
use Rattle.std.specs.List.{AllByRecursion}
use Rattle.std.proofs.lemmas.List.{length-map}
use Rattle.cam6_planes.specs.Side.{side_number, side_of}
use Rattle.cam6_planes.specs.Stored.{Stored}
use Rattle.cam6_planes.specs.declared.sides.Side.{Side}
use Rattle.cam6_planes.specs.declared.sides.Side.TheVariants.{S128, S256, S512}
use Rattle.cam6_planes.specs.Cells.{stored_bit}
use Rattle.cam6_planes.proofs.CellsAt.{torus_again}
use Rattle.cam6_commands.specs.RuleTexts.{HasText}
use Rattle.cam6_commands.specs.Limits.{max_colour}
use Rattle.cam6_commands.specs.declared.commands.Command.{Command}
use Rattle.cam6_commands.specs.declared.commands.Command.TheVariants.{Load}
use Rattle.cam6_commands.specs.declared.saved.SavedMachine.{SavedMachine}
use Rattle.cam6_commands.specs.declared.commands.NamedEntry.{NamedEntry}
use Rattle.cam6_cycle.specs.declared.tables.Direction.{Direction}
use Rattle.cam6_cycle.specs.declared.tables.Direction.TheVariants.{Forward, Backward}
use Rattle.cam6_model.specs.Machine.{Machine}
use Rattle.cam6_model.specs.Refusals.{refusal, fault_refusal, load_refusal}
use Rattle.cam6_model.specs.Saved.{restored}
use Rattle.cam6_model.specs.Effects.{with_saved}
use Rattle.cam6_model.specs.Alone.{after, command_of}
use Rattle.cam6_model.specs.Always.{AreRules, IsEntry, IsMachine, IsPosition}
use Rattle.cam6_rules.specs.Numbers.{AreNumbered, named_entry, named_entries}
use Rattle.cam6_model.specs.Rules.{Rule}
use Rattle.cam6_model.specs.Refusals.{some_cycle}
use Rattle.cam6_cycle.specs.declared.entries.Entry.{Entry}
use Rattle.cam6_rules.specs.Filled.{way_refusal}
use Rattle.cam6_machine.specs.Stored.{StoredKept, machine_over, nothing_kept, IsKept}
use Rattle.cam6_machine.specs.Laws.{KeptIsMachine}
use Rattle.cam6_model.proofs.ReversibleCycles.{back_runs}
use Rattle.cam6_model.proofs.Refusing.{after-accepted}
use Rattle.cam6_model.proofs.Commanded.{stays_machine}
use Rattle.cam6_model.proofs.Staying.{blank_is_machine, run_begins, first_none}
use Rattle.cam6_model.proofs.StepsOfATorus.{side_some}

-- over planes within the limit it is a machine
pub kept_is_machine : KeptIsMachine
kept_is_machine kept planes is within = record {
  within = within;
  planes = torus_again (side_number planes.side) (stored_bit planes.rows) (side_some planes.side);
  rules = is.rules;
  short = omega (arith, is.short, length-map kept.cycle (named_entry kept.rules));
  entries = is.entries;
  position = is.position;
  coloured = is.coloured;
  colours = is.colours;
}

-- what a machine has beside its planes is what is kept, where its entries are numbered
machine_is_kept : (kept : StoredKept) (planes : Stored) → IsMachine (machine_over planes kept) →
    AreNumbered kept.rules kept.cycle → IsKept kept
machine_is_kept kept planes is numbered = record {
  rules = is.rules;
  numbered = numbered;
  short = omega (arith, is.short, length-map kept.cycle (named_entry kept.rules));
  entries = is.entries;
  position = is.position;
  coloured = is.coloured;
  colours = is.colours;
}

least_side : (limit : Side) → 128 ≤ side_number limit
least_side S128 = lit≤ tt
least_side S256 = lit≤ tt
least_side S512 = lit≤ tt

-- planes within any limit
abbrev pub some_planes : Stored
some_planes = record { side = S128; limit = S128; rows = [] }

-- so it is after any command whose text is UTF-8, if the entries that are kept then are numbered
pub stays_kept : (old new : StoredKept) (c : Command) → IsKept old → HasText c →
    machine_over some_planes new ≡ after (machine_over some_planes old) c →
    AreNumbered new.rules new.cycle → IsKept new
stays_kept old new c is text made numbered =
    machine_is_kept new some_planes
    (subst IsMachine (sym made)
    (stays_machine (machine_over some_planes old) c
    (kept_is_machine old some_planes is (least_side old.limit)) text)) numbered

-- what is kept of a machine that was loaded
pub loaded_is_kept : (old new : StoredKept) (saved : SavedMachine) (side : Side) → IsKept old →
    HasText (Load saved) → load_refusal old.limit saved ≡ None → side_of saved.side ≡ Some side →
    new.rules ≡ saved.rules → named_entries new.rules new.cycle ≡ saved.cycle →
    new.position ≡ saved.position → new.colours ≡ saved.colours →
    AreNumbered new.rules new.cycle → IsKept new
loaded_is_kept old new saved side is text accepted found rules cycle position colours numbered =
    let m = machine_over some_planes old in
    let same : after m (Load saved) ≡ restored side old.limit saved =
    after-accepted m (Load saved) (ap fault_refusal accepted) ∙
    ap (λ o. with_saved o saved m) found in
    let made : IsMachine (restored side old.limit saved) =
    subst IsMachine same
    (stays_machine m (Load saved) (kept_is_machine old some_planes is (least_side old.limit)) text) in
    record {
      rules = subst AreRules (sym rules) made.rules;
      numbered = numbered;
      short = omega (
        arith,
        made.short,
        ap length cycle,
        length-map new.cycle (named_entry new.rules),
      );
      entries = subst (AllByRecursion (IsEntry new.rules)) (sym cycle)
          (subst (λ l. AllByRecursion (IsEntry l) saved.cycle) (sym rules) made.entries);
      position = subst (λ l. IsPosition l new.position) (sym cycle)
          (subst (IsPosition saved.cycle) (sym position) made.position);
      coloured = ap length colours ∙ made.coloured;
      colours = subst (AllByRecursion (λ colour. colour ≤ max_colour)) (sym colours) made.colours;
    }

-- a blank machine keeps nothing
pub nothing_is_kept : (limit : Side) → IsKept (nothing_kept limit)
nothing_is_kept limit =
    let is = blank_is_machine limit in record {
      rules = is.rules;
      numbered = tt;
      short = is.short;
      entries = is.entries;
      position = is.position;
      coloured = is.coloured;
      colours = is.colours;
    }

-- another position of the cycle
pub other_position : (kept : StoredKept) (position : ℕ) → IsKept kept →
    (machine : Stored) → IsPosition (machine_over machine kept).cycle position →
    IsKept (record kept { position = position })
other_position kept position is machine at = record {
  rules = is.rules;
  numbered = is.numbered;
  short = is.short;
  entries = is.entries;
  position = at;
  coloured = is.coloured;
  colours = is.colours;
}

pub first_position : (cycle : List NamedEntry) → IsPosition cycle 0
first_position [] = refl
first_position (entry ∷ cycle) = omega arith

pub below_is : (cycle : List NamedEntry) (position : ℕ) → position < length cycle →
    IsPosition cycle position
below_is [] position within = absurd (omega (arith, within))
below_is (entry ∷ cycle) position within = within

-- a command of steps that is accepted has an entry to begin with
pub begins : (m : Machine) (n : ℕ) (direction : Direction) → IsPosition m.cycle m.position →
    refusal m (command_of n direction) ≡ None → m.position < length m.cycle
begins m n Forward at accepted = run_begins m.cycle m.position n at accepted
begins m n Backward at accepted = run_begins m.cycle m.position n at (back_runs m n accepted)

-- and the rules of its cycle have tables
pub way_accepted : (m : Machine) (n : ℕ) (direction : Direction) →
    refusal m (command_of n direction) ≡ None → way_refusal direction m.rules m.cycle ≡ None
way_accepted m n Forward accepted = refl
way_accepted m n Backward accepted = (first_none _ (way_refusal Backward m.rules m.cycle) accepted).1

-- a cycle of entries is one by name
pub some_named : (rules : List Rule) (entries : List Entry) → 0 < length entries →
    some_cycle (named_entries rules entries) ≡ None
some_named rules [] some = absurd (omega (arith, some))
some_named rules (entry ∷ entries) some = refl
