-- Steps that are all done are the command, and its reply is theirs.
use Rattle.std.proofs.Common.{◌≡◌, ◌∙◌, ℕ, Option, Some, None, refl, sym, ap}
use Rattle.cam6_planes.specs.Stored.{Stored}
use Rattle.cam6_planes.specs.Cells.{Cells, cells}
use Rattle.cam6_planes.specs.declared.sides.Side.{Side}
use Rattle.cam6_cycle.specs.declared.tables.Direction.{Direction}
use Rattle.cam6_cycle.specs.declared.tables.Direction.TheVariants.{Forward, Backward}
use Rattle.cam6_commands.specs.declared.commands.Command.{Command}
use Rattle.cam6_commands.specs.declared.commands.Command.TheVariants.{Run, Back}
use Rattle.cam6_commands.specs.declared.refusals.Refusal.{Refusal}
use Rattle.cam6_model.specs.Alone.{if_refused, reply, after, work_of, some_steps, command_of}
use Rattle.cam6_model.specs.Machine.{Machine}
use Rattle.cam6_model.specs.Moves.{moved}
use Rattle.cam6_model.specs.Refusals.{refusal}
use Rattle.cam6_model.proofs.Refusing.{command_is, reply-accepted, after-accepted}
use Rattle.cam6_model.proofs.BothWays.{only_these}
use Rattle.cam6_machine.specs.Stored.{machine_over}
use Rattle.cam6_slot.specs.Works.{StoredWork}
use Rattle.cam6_slot.specs.Stands.{IsUnderWay}
use Rattle.cam6_slot.specs.Finished.{reply_at, finished_with, IsDone}

-- what is not refused
unrefused : {A : Type 0} (o : Option Refusal) (works : Option A) (w : A) →
    if_refused o (λ r. None) works ≡ Some w → o ≡ None
unrefused None works w is = refl
unrefused (Some r) works w is = cc is

accepted_steps : (m : Machine) (n : ℕ) (direction : Direction) →
    work_of m (command_of n direction) ≡ Some (n, direction) →
    refusal m (command_of n direction) ≡ None
accepted_steps m n Forward is =
    unrefused (refusal m (Run n)) (some_steps n Forward) (n, Forward) is
accepted_steps m n Backward is =
    unrefused (refusal m (Back n)) (some_steps n Backward) (n, Backward) is

-- a command of steps is accepted
pub accepted_work : (m : Machine) (c : Command) (n : ℕ) (direction : Direction) →
    work_of m c ≡ Some (n, direction) → refusal m (command_of n direction) ≡ None
accepted_work m c n direction is =
    accepted_steps m n direction (ap (work_of m) (command_is m c n direction is) ∙ is)

-- the machine after steps, and the reply to them
after_steps : (m : Machine) (n : ℕ) (direction : Direction) →
    refusal m (command_of n direction) ≡ None →
    moved direction n m ≡ after m (command_of n direction)
after_steps m n Forward none = sym (after-accepted m (Run n) none)
after_steps m n Backward none = sym (after-accepted m (Back n) none)

reply_to_steps : (m : Machine) (n : ℕ) (direction : Direction) →
    refusal m (command_of n direction) ≡ None →
    reply_at direction (moved direction n m).position ≡ reply m (command_of n direction)
reply_to_steps m n Forward none = sym (reply-accepted m (Run n) none)
reply_to_steps m n Backward none = sym (reply-accepted m (Back n) none)

-- steps that are all done, with the planes and the position of the machine so many steps on
pub is_done : (w : StoredWork) (planes : Stored) (m : Machine) (c : Command) →
    IsUnderWay w m c → planes.side ≡ m.side →
    cells planes ≡ (moved w.direction w.total m).planes →
    w.reached.position ≡ (moved w.direction w.total m).position →
    IsDone (finished_with w planes) m c
is_done w planes m c under side shown at =
    let d = w.direction in
    let n = w.total in
    let none = accepted_work m c n d under.work in
    let is = command_is m c n d under.work in
    let there : machine_over planes (record w.kept { position = w.reached.position })
    ≡ moved d n m =
    ap {B = Machine} (λ (x : Machine). record x {
      side = planes.side;
      planes = cells planes;
      position = w.reached.position;
    }) under.kept ∙
    ap {B = Machine} (λ (s : Side). record m {
      side = s;
      planes = cells planes;
      position = w.reached.position;
    }) side ∙
    ap {B = Machine} (λ (f : Cells). record m { planes = f; position = w.reached.position }) shown ∙
    ap {B = Machine} (λ p. record m { planes = (moved d n m).planes; position = p }) at ∙
    sym (only_these d m n) in
    record {
      machine = there ∙ after_steps m n d none ∙ ap (after m) is;
      told = ap (reply_at d) at ∙ reply_to_steps m n d none ∙ ap (reply m) is;
    }
