-- A command of which no step is done stands for the machine and for itself.
use Rattle.std.proofs.Common.{◌≡◌, ◌∙◌, ◌<◌, ◌≤◌, ◌-◌, ◌*◌, ℕ, Some, Result, Ok, Err, IfOk}
use Rattle.std.proofs.Common.{sym, ap, subst, arith}
use Rattle.cam6_planes.specs.Stored.{Stored}
use Rattle.cam6_planes.specs.declared.memory.NoMemory.{NoMemory}
use Rattle.cam6_planes.specs.declared.sides.Side.{Side}
use Rattle.cam6_band.specs.declared.images.Spare.{Spare}
use Rattle.cam6_cycle.specs.declared.tables.Direction.{Direction}
use Rattle.cam6_cycle.specs.declared.tables.Direction.TheVariants.{Forward, Backward}
use Rattle.cam6_commands.specs.declared.commands.Command.{Command}
use Rattle.cam6_model.specs.Alone.{work_of}
use Rattle.cam6_model.specs.Always.{IsMachine}
use Rattle.cam6_model.specs.Machine.{Machine}
use Rattle.cam6_model.specs.Moves.{CanMove}
use Rattle.cam6_model.proofs.Refusing.{command_is}
use Rattle.cam6_model.proofs.Staying.{can_move}
use Rattle.cam6_machine.specs.AtOnce.{work_in, IsReplyTo, machine_then, CanWork}
use Rattle.cam6_machine.specs.Stored.{StoredKept, StoredMachine, machine_of, machine_over}
use Rattle.cam6_machine.specs.declared.replies.Now.{Now}
use Rattle.cam6_machine.specs.declared.replies.Now.TheVariants.{Reply, Work}
use Rattle.cam6_machine.proofs.Along.{none_moved}
use Rattle.cam6_slot.specs.declared.parked.Parked.TheVariants as parked
use Rattle.cam6_slot.specs.AtOnce.{Says}
use Rattle.cam6_slot.specs.Works.{begun, machine_at_home, command_in}
use Rattle.cam6_slot.specs.Parking.{StoredQueued}
use Rattle.cam6_slot.specs.Stands.{Stands}
use Rattle.cam6_slot.specs.Lefts.{bands_of_step, bands_in, bands_of, queued_left, queued_home}
use Rattle.cam6_slot.proofs.Ending.{some_bands, one_at_least}

can_over : (direction : Direction) (kept : StoredKept) (first other : Stored) →
    CanMove direction (machine_over first kept) → CanMove direction (machine_over other kept)
can_over Forward kept first other can = tt
can_over Backward kept first other can = can

-- steps that are left to do can be done, whatever the planes
pub can_begin : (n : ℕ) (direction : Direction) (machine : StoredMachine) (kept : StoredKept) →
    kept ≡ machine.kept → CanWork (Work n direction) (machine_of machine) → (planes : Stored) →
    CanMove direction (machine_over planes kept)
can_begin n direction machine kept same can planes =
    can_over direction kept machine.planes planes
    (subst (λ (k : StoredKept). CanMove direction (machine_over machine.planes k)) (sym same)
    (can_move (machine_of machine) n direction can.1))

-- a command of steps has bands
has_bands : (m : Machine) (c : Command) (n : ℕ) (direction : Direction) →
    work_of m c ≡ Some (n, direction) → 1 ≤ n → 0 < bands_of m c
has_bands m c n direction is some =
    let bands : bands_of m c ≡ n * bands_of_step m.side = ap (bands_in m.side) is in
    omega (
      arith,
      bands,
      some_bands m.side,
      one_at_least n (bands_of_step m.side) some,
    )

-- what a machine says of a command at once
says : (m : Machine) (c : Command) (said : Now) (later : Machine) → work_in said ≡ work_of m c →
    IsReplyTo said m c → later ≡ machine_then said m c → CanWork said later → Says m c said later
says m c (Reply r) later work told there can = (ap (bands_in m.side) (sym work), told, there)
says m c (Work n direction) later work told there can =
    (has_bands m c n direction (sym work) can.0, sym work, there)

pub says_if_ok : (m : Machine) (c : Command) (later : Machine) (r : Result Now NoMemory) →
    IfOk r (λ said. work_in said ≡ work_of m c) → IfOk r (λ said. IsReplyTo said m c) →
    IfOk r (λ said. later ≡ machine_then said m c) → IfOk r (λ said. CanWork said later) →
    IfOk r (λ said. Says m c said later)
says_if_ok m c later (Ok said) work told there can = says m c said later work told there can
says_if_ok m c later (Err refused) work told there can = tt

module _ (n : ℕ) (direction : Direction) (machine : StoredMachine) (kept : StoredKept)
    (home : Stored) (spare : Spare) (same : kept ≡ machine.kept) (shown : home ≡ machine.planes)
    (m : Machine) (c : Command) (said : Says m c (Work n direction) (machine_of machine)) where
  abbrev waiting : StoredQueued
  waiting = record { work = begun kept direction n home; parked = parked.Spare spare }

  its_machine : machine_over home kept ≡ m
  its_machine =
      ap (λ (k : StoredKept). machine_over home k) same ∙
      ap (λ (p : Stored). machine_over p machine.kept) shown ∙ said.2

  pub begins_standing : IsMachine (machine_of machine) → Stands waiting m c
  begins_standing always = record {
    work = record {
      machine = subst IsMachine said.2 always;
      work = said.1;
      kept = ap {B = Machine} (λ (x : Machine). record x { planes = m.planes }) its_machine;
      home = ap (λ (x : Machine). x.planes) (its_machine ∙ none_moved direction m);
      position = ap (λ (x : Machine). x.position) (its_machine ∙ none_moved direction m);
    };
    position = ap (λ (x : Machine). x.position) (its_machine ∙ none_moved direction m);
    parked = tt;
  }

  all_steps : (n - 0) * bands_of_step home.side ≡ bands_of m c
  all_steps =
      let bands : bands_of m c ≡ n * bands_of_step home.side =
      ap (bands_in m.side) said.1 ∙
      ap (λ (s : Side). n * bands_of_step s) (sym (ap (λ (x : Machine). x.side) its_machine)) in
      let none : n - 0 ≡ n = omega arith in
      ap (λ k. k * bands_of_step home.side) none ∙ sym bands

  pub begins_with_all : queued_left waiting ≡ bands_of m c
  begins_with_all = omega (arith, all_steps)

  pub begins_at_home : queued_home waiting ≡ bands_of m c
  begins_at_home = all_steps

  pub begins_it : (machine_at_home waiting.work ≡ m) × (command_in waiting.work ≡ c)
  begins_it = (its_machine, command_is m c n direction said.1)
