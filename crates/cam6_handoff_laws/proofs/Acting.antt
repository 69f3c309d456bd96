-- Each action is its events; and what a board's seat knows.
use Rattle.std.proofs.Common.{[], sym, subst}
use Rattle.cam6_handoff_laws.specs.Actions.{answer, put, collect, take, band, back, lose, done}
use Rattle.cam6_handoff_laws.specs.Actions.{repair, cache, look, cut_desk, cut_board, sit}
use Rattle.cam6_handoff_laws.specs.Configurations.{Configuration, IsAtModel}
use Rattle.cam6_handoff_laws.specs.Threads.{ActionIsEvents, CollectedIsGiven}
use Rattle.cam6_handoff_laws.proofs.BoardActions as boards
use Rattle.cam6_handoff_laws.proofs.DeskActions as desks
use Rattle.cam6_handoff_laws.proofs.OtherActions as others
use Rattle.cam6_handoff_laws.proofs.Events.{no_events}

pub action_is_events : ActionIsEvents
action_is_events users k next a (answer row c r) at does =
    desks.answers users k next a row at does.0 c r does.1
action_is_events users k next a (put row c) at does =
    desks.puts users k next a row at does.0 c does.1
action_is_events users k next a (collect row r) at does =
    desks.collected users k next a row at does.0 r does.1
action_is_events users k next a (take b row) at does =
    boards.takes users k next a b row at does.0 does.1
action_is_events users k next a (band b) at does = others.bands users k next a at b does
action_is_events users k next a (back b row) at does =
    boards.backs users k next a b row at does.0 does.1
action_is_events users k next a (lose b row) at does =
    boards.loses users k next a b row at does.0 does.1
action_is_events users k next a (done b row) at does =
    boards.dones users k next a b row at does.0 does.1
action_is_events users k next a (repair b) at does = others.repairs users k next a at b does
action_is_events users k next a cache at does =
    ([], no_events users a next (others.caches users k next a at does))
action_is_events users k next a look at does =
    ([], no_events users a next (subst (λ (c : Configuration). IsAtModel users c a) (sym does) at))
action_is_events users k next a (cut_desk row) at does =
    ([], no_events users a next (others.cuts_a_desk users k next a at row does.1))
action_is_events users k next a (cut_board b) at does =
    ([], no_events users a next (others.cuts_a_board users k next a at b does))
action_is_events users k next a (sit row) at does =
    ([], no_events users a next (others.sits users k next a at row does.0 does.1))

pub collected_is_given : CollectedIsGiven
collected_is_given users k next a row r at small does =
    desks.collected_is_given users k next a row at small r does
