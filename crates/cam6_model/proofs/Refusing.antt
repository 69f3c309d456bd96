-- The reply to a command and the machine after it, where it is refused and where it is not.
use Rattle.std.proofs.Common.{◌≡◌, ℕ, zero, suc, Option, Some, None, sym, ap}
use Rattle.std.proofs.lemmas.Option.{same_Some}
use Rattle.cam6_model.specs.Machine.{Machine}
use Rattle.cam6_model.specs.Refusals.{refusal}
use Rattle.cam6_model.specs.Effects.{accepted, effect}
use Rattle.cam6_model.specs.Alone.{if_refused, reply, after, some_steps, work_of, command_of}
use Rattle.cam6_commands.specs.declared.commands.Command.{Command}
use Rattle.cam6_commands.specs.declared.commands.Command.TheVariants.{Set, Rule, Cycle, Run, Back}
use Rattle.cam6_commands.specs.declared.commands.Command.TheVariants.{Row, Plane, Side, Clear, Drop}
use Rattle.cam6_commands.specs.declared.commands.Command.TheVariants.{Rules, Map, Colours, Count}
use Rattle.cam6_commands.specs.declared.commands.Command.TheVariants.{Save, Load}
use Rattle.cam6_cycle.specs.declared.tables.Direction.{Direction}
use Rattle.cam6_cycle.specs.declared.tables.Direction.TheVariants.{Forward, Backward}
use Rattle.cam6_commands.specs.declared.refusals.Refusal.{Refusal}
use Rattle.cam6_commands.specs.declared.replies.Reply.TheVariants as replies

pub reply-refused : (m : Machine) (c : Command) (r : Refusal) → refusal m c ≡ Some r →
    reply m c ≡ replies.Refused r
reply-refused m c r e = ap (λ o. if_refused o (λ r. replies.Refused r) (replies.Done (accepted m c))) e

pub after-refused : (m : Machine) (c : Command) (r : Refusal) → refusal m c ≡ Some r →
    after m c ≡ m
after-refused m c r e = ap (λ o. if_refused o (λ r. m) (effect m c)) e

pub reply-accepted : (m : Machine) (c : Command) → refusal m c ≡ None →
    reply m c ≡ replies.Done (accepted m c)
reply-accepted m c e = ap (λ o. if_refused o (λ r. replies.Refused r) (replies.Done (accepted m c))) e

pub after-accepted : (m : Machine) (c : Command) → refusal m c ≡ None →
    after m c ≡ effect m c
after-accepted m c e = ap (λ o. if_refused o (λ r. m) (effect m c)) e

-- so many steps in a direction, if any, are the work of their command
some_work : (k n : ℕ) (way direction : Direction) (o : Option Refusal) →
    if_refused o (λ r. None) (some_steps k way) ≡ Some (n, direction) →
    command_of n direction ≡ command_of k way
some_work zero n way direction None e = cc e
some_work (suc k) n way direction None e =
    let same = same_Some (suc k, way) (n, direction) e in
    sym (ap (λ (w : ℕ × Direction). command_of w.0 w.1) same)
some_work k n way direction (Some r) e = cc e

pub command_is : (m : Machine) (c : Command) (n : ℕ) (direction : Direction) →
    work_of m c ≡ Some (n, direction) → command_of n direction ≡ c
command_is m (Set plane row bits) n direction e = cc e
command_is m (Rule name wiring text) n direction e = cc e
command_is m (Clear plane) n direction e = cc e
command_is m (Drop name) n direction e = cc e
command_is m Rules n direction e = cc e
command_is m (Map colours) n direction e = cc e
command_is m (Colours row) n direction e = cc e
command_is m (Count mask) n direction e = cc e
command_is m Save n direction e = cc e
command_is m (Load saved) n direction e = cc e
command_is m (Cycle entries) n direction e = cc e
command_is m (Row plane row) n direction e = cc e
command_is m (Plane plane) n direction e = cc e
command_is m (Side side) n direction e = cc e
command_is m (Run steps) n direction e =
    some_work steps n Forward direction (refusal m (Run steps)) e
command_is m (Back steps) n direction e =
    some_work steps n Backward direction (refusal m (Back steps)) e
