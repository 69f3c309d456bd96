-- What a board took stands for what its user waits for.
use Rattle.std.proofs.Common.{◌≡◌, ◌∙◌, ℕ, suc, ◌+◌, Some, ap, subst, arith}
use Rattle.cam6_commands.specs.declared.commands.Command.{Command}
use Rattle.cam6_model.specs.Machine.{Machine}
use Rattle.cam6_slot.specs.Stands.{Stands}
use Rattle.cam6_station.specs.Held.{Held, StandsHeld}
use Rattle.cam6_station.specs.Held as board
use Rattle.cam6_core.specs.Model.{User, user, seat, machine_of}
use Rattle.cam6_core.specs.declared.parts.Whereabouts.{Whereabouts}
use Rattle.cam6_core.specs.declared.parts.Whereabouts.TheVariants as whereabouts
use Rattle.cam6_core.proofs.Inversions.{at_work}
use Rattle.cam6_handoff.specs.Rule.{asked_command}
use Rattle.cam6_handoff.proofs.Keeps.{holds_row}
use Rattle.cam6_handoff_laws.specs.Configurations.{Configuration, WordIs, WordSays, IsLoadedWith}
use Rattle.cam6_handoff_laws.specs.Configurations.{command_at}
use Rattle.cam6_handoff_laws.specs.Threads.{TakenPlaceStands}
use Rattle.cam6_handoff_laws.proofs.Words.{user_of_row}

-- a user whose word is a board's is out on it
on_board : (k : Configuration) (row b : ℕ) (x : Whereabouts) → WordIs k row (3 + b) → WordSays k row x →
    (h : Held) × IsLoadedWith k row b h
on_board k row b (whereabouts.Resting r) word says = absurd (omega (arith, says, word))
on_board k row b (whereabouts.Queued q) word says =
    absurd (let w = says.0 in omega (arith, w, word))
on_board k row b whereabouts.Out word says =
    let w = says.2 in
    let same : says.0 ≡ b = omega (arith, w, word) in
    (says.1, subst (λ (d : ℕ). IsLoadedWith k row d says.1) same says.3)
on_board k row b (whereabouts.Finished f) word says =
    absurd (let w = says.0 in omega (arith, w, word))

pub taken_place_stands : TakenPlaceStands
taken_place_stands users k a id b row taken at small holds =
    let rule = at.said.rule in
    let p : User = user a.users (suc row) in
    let is = holds_row k.table.words k.table.homes k.table.views row id b taken holds
    (rule.rows row small) in
    let x = user_of_row k.held.users users row at.said.long small in
    let on = on_board k row b x.0 is.1 (at.said.says row x.0 x.1) in
    let work = at_work a.users b (suc row) on.0 (seat a.boards b)
    (at.good.boards b (board.loaded (suc row) on.0) on.1) in
    let asked = is.3.1 in
    let waits = at.awaited is.3.0 row asked is.3.3.0 in
    let c : Command = work.1.0 in
    let same : asked_command asked ≡ c =
    one_command (asked_command asked) c (waits.command ∙ ap command_at work.1.1) in (
      is.1,
      (
        c,
        work.1.1,
        subst (λ (d : Command). Stands taken (machine_of p) d) same
            (subst (λ (m : Machine). Stands taken m (asked_command asked)) waits.machine is.3.2),
      ),
    )
  where
    one_command : (c d : Command) → Some c ≡ Some d → c ≡ d
    one_command c d e = cc e
