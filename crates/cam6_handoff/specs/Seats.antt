-- What the calls of a board's seat give, and what it may be given back.
use Rattle.std.specs.Prelude.{◌≡◌, ◌<◌, ℕ, Option, Some, None}
use Rattle.cam6_board.specs.Jobs.{StoredJob}
use Rattle.cam6_commands.specs.declared.commands.Command.{Command}
use Rattle.cam6_model.specs.Machine.{Machine}
use Rattle.cam6_slot.specs.Finished.{StoredFinished, IsDone}
use Rattle.cam6_slot.specs.Leases.{StoredLease, JobFits}
use Rattle.cam6_slot.specs.Lefts.{queued_left, queued_home, lease_left, lease_home}
use Rattle.cam6_slot.specs.Parking.{StoredQueued}
use Rattle.cam6_slot.specs.Stands.{Stands, StandsOut}
use Rattle.cam6_handoff.specs.Holding.{BoardStance, Holding, nothing, holding}

-- a lease of this place with its job: the job fits it, its bands are those of the place, one at
-- least, and it stands for whatever the place stands for
pub record IsLeaseOf (v : StoredQueued) (number : ℕ) (lease : StoredLease) (job : StoredJob)
    : Type 0 where
  pub fits : JobFits lease job
  pub left : lease_left lease ≡ queued_left v
  pub some : 0 < lease_left lease
  pub home : lease_home lease ≡ queued_home v
  pub board : lease.board ≡ number
  pub stands : (m : Machine) (c : Command) → Stands v m c → StandsOut lease job m c

-- nothing waits there and the seat is as it was, or it holds the user's place, leased
abbrev pub TakeGives : BoardStance → ℕ → Option (StoredLease × StoredJob) → BoardStance → Type 0
TakeGives old user None new = new ≡ old
TakeGives old user (Some taken) new =
    (v : StoredQueued) × (new ≡ record old { holds = holding user v })
    × IsLeaseOf v old.number taken.0 taken.1

-- a place stands for whatever the one that is held stood for
abbrev pub Accepts : Holding → StoredQueued → Type 0
Accepts nothing q = ⊥
Accepts (holding user v) q = (m : Machine) (c : Command) → Stands v m c → Stands q m c

-- what is finished is done with whatever the place that is held stood for
abbrev pub AcceptsDone : Holding → StoredFinished → Type 0
AcceptsDone nothing f = ⊥
AcceptsDone (holding user v) f = (m : Machine) (c : Command) → Stands v m c → IsDone f m c
