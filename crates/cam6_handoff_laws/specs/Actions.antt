-- What threads do, one action at a time. An action is a step of the hand-off table with the calls
-- that belong to it, or calls without a step. Its conditions are clauses of these calls and
-- invariants of their values. By reading: what one call returns is what the next one is given, and a
-- board's seat and its station are in one thread.
use Rattle.std.specs.Prelude.{◌≡◌, ◌<◌, ℕ, suc, ◌+◌, [], ◌∷◌, ◌++◌, Some, None, slice_set}
use Rattle.std.specs.Prelude.{slice_index}
use Rattle.std.specs.List.{slice_get}
use Rattle.atomic_table.specs.Table.{Act, takes, gives, Valid, stepped}
use Rattle.cam6_cache.specs.Cached.{Cached, AreTrue}
use Rattle.cam6_commands.specs.declared.commands.Command.{Command}
use Rattle.cam6_commands.specs.declared.replies.Reply.{Reply}
use Rattle.cam6_machine.specs.Stored.{StoredMachine, machine_of}
use Rattle.cam6_slot.specs.Finished.{StoredFinished}
use Rattle.cam6_slot.specs.Leases.{IsLease, TablesFit}
use Rattle.cam6_slot.specs.Parking.{StoredQueued, IsQueued}
use Rattle.cam6_slot.specs.declared.resting.Place.TheVariants.{Queued, Finished}
use Rattle.cam6_station.specs.Calls.{BandGives, PreemptGives, GoesHome}
use Rattle.cam6_station.specs.Held.{Held, held_left}
use Rattle.cam6_station.specs.Held as board
use Rattle.cam6_station.specs.declared.stations.Banded.TheVariants.{More, Last}
use Rattle.cam6_station.specs.declared.stations.Preempted.TheVariants.{Back}
use Rattle.cam6_core.specs.State.{State, at_number, with_user, with_board}
use Rattle.cam6_core.specs.declared.parts.Whereabouts.TheVariants as whereabouts
use Rattle.cam6_handoff.specs.Desks.{PutGives}
use Rattle.cam6_handoff.specs.Holding.{BoardStance, holding}
use Rattle.cam6_handoff.specs.Rule.{Slot, Shared, Seated, At, StandsForAsked}
use Rattle.cam6_handoff.specs.Seats.{TakeGives, Accepts, AcceptsDone}
use Rattle.cam6_handoff.specs.Standing.{standing, waiting}
use Rattle.cam6_handoff.specs.declared.desks.Put.TheVariants.{Answered, Waiting}
use Rattle.cam6_handoff.specs.declared.rule.View.{View}
use Rattle.cam6_handoff.specs.declared.rule.View.TheVariants.{First, Unseated, Rests, Waits}
use Rattle.cam6_handoff.specs.declared.rule.View.TheVariants.{Idle, Holds}
use Rattle.cam6_handoff_laws.specs.Configurations.{Configuration, WordIs, IsLoadedWith}

-- rows and boards are counted from 0; the row u is that of user u + 1
pub data Action : Type 0 where
  -- a desk answers a command at once, hands it to the boards, or collects its reply
  answer : ℕ → Command → Reply → Action
  put : ℕ → Command → Action
  collect : ℕ → Reply → Action
  -- a board takes the command of a row, does a band that isn't the last, puts the command back,
  -- puts it back from its home because the board failed, or puts it as done
  take : ℕ → ℕ → Action
  band : ℕ → Action
  back : ℕ → ℕ → Action
  lose : ℕ → ℕ → Action
  done : ℕ → ℕ → Action
  -- a board that failed is replaced
  repair : ℕ → Action
  -- tables come into the cache, or leave it
  cache : Action
  -- a step that looks for a word finds another one; nothing changes
  look : Action
  -- a seat is cut for a desk or for a board, and a desk takes its slot for the first time
  cut_desk : ℕ → Action
  cut_board : ℕ → Action
  sit : ℕ → Action

-- a seat with this view and these slots makes one step on a row's word, which is then n; the seat
-- then has this view, and has taken the slot, or given it back
pub record IsStep (s : Shared) (row n seat : ℕ) (me : Seated) (view : View) (act : Act Slot)
    (t : Shared) : Type 0 where
  pub at : At s.views seat me.0
  pub valid : Valid s.homes me.1 act
  pub after : t ≡ stepped s row n seat me.1 view act

-- a seat knows the first view, and then the second; a new seat knows the third
pub record IsCut (s : Shared) (seat : ℕ) (old new cut : View) (t : Shared) : Type 0 where
  pub at : At s.views seat old
  pub after : t ≡ record s { views = slice_set s.views seat new ++ cut ∷ [] }

-- a user is out, and a board is loaded for the user with this
abbrev pub leased : State → ℕ → ℕ → Held → State
leased s u b h = with_board (with_user s u whereabouts.Out) b (board.loaded u h)

module _ (k : Configuration) (row : ℕ) where
  abbrev pub RestsAt : StoredMachine → Type 0
  RestsAt m = at_number k.held.users (suc row) ≡ Some (whereabouts.Resting m)

  -- the desk answers at once, and then stands at the machine `then`, as `PutGives` has it
  pub record Answers (c : Command) (r : Reply) (next : Configuration) : Type 0 where
    pub before : StoredMachine
    pub then : StoredMachine
    pub rests : RestsAt before
    pub call : PutGives (standing (suc row) before) c (Answered r) (standing (suc row) then)
    pub table : next.table ≡ k.table
    pub held : next.held ≡ with_user k.held (suc row) (whereabouts.Resting then)

  -- the desk waits, as `PutGives` has it, for what it puts into its slot
  pub record Puts (c : Command) (next : Configuration) : Type 0 where
    pub before : StoredMachine
    pub asked : StoredQueued
    pub seat : ℕ
    pub rests : RestsAt before
    pub call : PutGives (standing (suc row) before) c Waiting (waiting (suc row) asked)
    pub stands : StandsForAsked asked asked
    pub waits : IsQueued asked
    pub step : IsStep k.table row 1 seat (Rests row, (row, Some (Queued asked)) ∷ [])
        (Waits row asked) gives next.table
    pub held : next.held ≡ with_user k.held (suc row) (whereabouts.Queued asked)

  -- the desk finds 2 and takes what is finished from its slot; it tells that reply, and then stands at
  -- that machine
  pub record Collects (r : Reply) (next : Configuration) : Type 0 where
    pub asked : StoredQueued
    pub place : StoredFinished
    pub then : StoredMachine
    pub seat : ℕ
    pub found : WordIs k row 2
    pub told : r ≡ place.told
    pub machine : machine_of then ≡ machine_of place.machine
    pub step : IsStep k.table row 0 seat (Waits row asked, []) (Rests row)
        (takes row (Some (Finished place))) next.table
    pub held : next.held ≡ with_user k.held (suc row) (whereabouts.Resting then)

module _ (k : Configuration) (b row : ℕ) where
  -- an idle board finds 1 and takes the place from the slot, and leases it as `TakeGives` has it; its
  -- tables fit the lease: those that the seat fills next, or any if it puts the place back unbegun
  pub record Takes (next : Configuration) : Type 0 where
    pub place : StoredQueued
    pub taken : Held
    pub before : BoardStance
    pub then : BoardStance
    pub seat : ℕ
    pub idle : slice_get k.held.boards b ≡ Some board.idle
    pub found : WordIs k row 1
    pub number : before.number ≡ b
    pub call : TakeGives before (suc row) (Some (taken.lease, taken.job)) then
    pub holds : then.holds ≡ holding (suc row) place
    pub lease : IsLease taken.lease
    pub tables : TablesFit taken.lease.work taken.tables
    pub step : IsStep k.table row (3 + b) seat (Idle b, []) (Holds b row place)
        (takes row (Some (Queued place))) next.table
    pub held : next.held ≡ leased k.held (suc row) b taken

  -- a board puts a place back that `Accepts` allows: as the command is taken off the board
  pub record PutsBack (next : Configuration) : Type 0 where
    pub on : Held
    pub taken : StoredQueued
    pub place : StoredQueued
    pub seat : ℕ
    pub loaded : IsLoadedWith k row b on
    pub call : PreemptGives (board.loaded (suc row) on) (Back (suc row) place) board.idle
    pub waits : IsQueued place
    pub accepts : Accepts (holding (suc row) taken) place
    pub step : IsStep k.table row 1 seat (Holds b row taken, (row, Some (Queued place)) ∷ [])
        (Idle b) gives next.table
    pub held : next.held
        ≡ with_user (with_board k.held b board.idle) (suc row) (whereabouts.Queued place)

  -- or as it is at its home, because the board failed
  pub record Loses (next : Configuration) : Type 0 where
    pub on : Held
    pub taken : StoredQueued
    pub place : StoredQueued
    pub seat : ℕ
    pub loaded : IsLoadedWith k row b on
    pub call : GoesHome on place
    pub waits : IsQueued place
    pub accepts : Accepts (holding (suc row) taken) place
    pub step : IsStep k.table row 1 seat (Holds b row taken, (row, Some (Queued place)) ∷ [])
        (Idle b) gives next.table
    pub held : next.held
        ≡ with_user (with_board k.held b board.dead) (suc row) (whereabouts.Queued place)

  -- a board does the last band, and puts what `AcceptsDone` allows
  pub record PutsDone (next : Configuration) : Type 0 where
    pub on : Held
    pub taken : StoredQueued
    pub place : StoredFinished
    pub seat : ℕ
    pub loaded : IsLoadedWith k row b on
    pub call : BandGives (board.loaded (suc row) on) (Last (suc row) place) board.idle
    pub accepts : AcceptsDone (holding (suc row) taken) place
    pub step : IsStep k.table row 2 seat (Holds b row taken, (row, Some (Finished place)) ∷ [])
        (Idle b) gives next.table
    pub held : next.held
        ≡ with_user (with_board k.held b board.idle) (suc row) (whereabouts.Finished place)

-- a board does a band that isn't the last one
pub record Bands (k : Configuration) (b : ℕ) (next : Configuration) : Type 0 where
  pub user : ℕ
  pub on : Held
  pub then : Held
  pub loaded : slice_get k.held.boards b ≡ Some (board.loaded user on)
  pub call : BandGives (board.loaded user on) (More (held_left then)) (board.loaded user then)
  pub table : next.table ≡ k.table
  pub held : next.held ≡ with_board k.held b (board.loaded user then)

-- a board that failed is replaced
pub record Repairs (k : Configuration) (b : ℕ) (next : Configuration) : Type 0 where
  pub dead : slice_get k.held.boards b ≡ Some board.dead
  pub table : next.table ≡ k.table
  pub held : next.held ≡ with_board k.held b board.idle

-- other tables are cached, each its key's true one
pub record Caches (k next : Configuration) : Type 0 where
  pub cached : Cached
  pub true_ones : AreTrue cached.tables
  pub table : next.table ≡ k.table
  pub held : next.held ≡ record k.held { cache = cached }

-- the first seat is cut, for a desk or for a board
pub record CutsDesk (k : Configuration) (row : ℕ) (next : Configuration) : Type 0 where
  pub seat : ℕ
  pub boards : ℕ
  pub cut : IsCut k.table seat (First row boards) (First (row + 1) boards) (Unseated row) next.table
  pub held : next.held ≡ k.held

pub record CutsBoard (k : Configuration) (b : ℕ) (next : Configuration) : Type 0 where
  pub seat : ℕ
  pub desks : ℕ
  pub cut : IsCut k.table seat (First desks b) (First desks (b + 1)) (Idle b) next.table
  pub held : next.held ≡ k.held

-- a desk takes its empty slot, and leaves the word
pub record Sits (k : Configuration) (row : ℕ) (next : Configuration) : Type 0 where
  pub seat : ℕ
  pub step : IsStep k.table row (slice_index k.table.words row) seat (Unseated row, []) (Rests row)
      (takes row None) next.table
  pub held : next.held ≡ k.held

-- an action brings the threads from one configuration to the next, and its row is that of one of so
-- many users
abbrev pub Acts : ℕ → Configuration → Action → Configuration → Type 0
Acts users k (answer row c r) next = (row < users) × Answers k row c r next
Acts users k (put row c) next = (row < users) × Puts k row c next
Acts users k (collect row r) next = (row < users) × Collects k row r next
Acts users k (take b row) next = (row < users) × Takes k b row next
Acts users k (band b) next = Bands k b next
Acts users k (back b row) next = (row < users) × PutsBack k b row next
Acts users k (lose b row) next = (row < users) × Loses k b row next
Acts users k (done b row) next = (row < users) × PutsDone k b row next
Acts users k (repair b) next = Repairs k b next
Acts users k cache next = Caches k next
Acts users k look next = next ≡ k
Acts users k (cut_desk row) next = (row < users) × CutsDesk k row next
Acts users k (cut_board b) next = CutsBoard k b next
Acts users k (sit row) next = (row < users) × Sits k row next
