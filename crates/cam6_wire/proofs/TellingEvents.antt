-- A line whose value shows an event says it.
use Rattle.std.proofs.Common.{◌≡◌, ℕ, List, codes, Some, refl, ap}
use Rattle.serde_json.specs.Data.{Data, string, object, no_members, member}
use Rattle.cam6_commands.specs.declared.commands.Command.{Command}
use Rattle.cam6_commands.specs.declared.events.Event.{Event}
use Rattle.cam6_commands.specs.declared.events.Event.TheVariants.{Ask, Lease, Band, Preempt, Fail}
use Rattle.cam6_commands.specs.declared.events.Event.TheVariants.{Repair, Evict, Collect}
use Rattle.cam6_wire.specs.Fields.{text_at, ◌>>=◌}
use Rattle.cam6_wire.specs.Numbers.{natural}
use Rattle.cam6_wire.specs.Commands.{sole_number}
use Rattle.cam6_wire.specs.Events.{ask_of, lease_of, band_of, preempt_of, fail_of, repair_of}
use Rattle.cam6_wire.specs.Events.{evict_of, collect_of, event_by_word, event_in}
use Rattle.cam6_wire.specs.Shown.{Shows, CanBeAsked}
use Rattle.cam6_wire.specs.ShownEvents.{ShowsEvent}
use Rattle.cam6_wire.specs.Laws.{ShownEventIsSaid}
use Rattle.cam6_wire.proofs.Saying.{is_said}
use Rattle.cam6_wire.proofs.Worded.{by_its_word}
use Rattle.cam6_wire.proofs.Telling.{says_asked}

ask_said : (user : ℕ) (shown : Data) (c : Command) → Shows shown c → CanBeAsked c →
    ask_of
    (object
    (member (codes "command") shown
    (member (codes "event") (string (codes "ask"))
    (member (codes "user") (natural user) no_members))))
    ≡ Some (Ask user c)
unfolding ask_of
ask_said user shown c shows can =
    ap (λ o. o >>= λ command. Some (Ask user command)) (says_asked shown c shows can)

-- an event is what a value says by its word
told : (d e : Data) (word : List ℕ) (event : Event) → d ≡ e →
    text_at (codes "event") e ≡ Some word → event_by_word word e ≡ Some event →
    event_in d ≡ Some event
told = by_its_word event_by_word (codes "event")

says_shown_event : (d : Data) (e : Event) → ShowsEvent d e → event_in d ≡ Some e
unfolding sole_number lease_of band_of preempt_of fail_of repair_of evict_of collect_of
says_shown_event d (Ask user c) shows =
    told d _ (codes "ask") (Ask user c) shows.3 refl (ask_said user shows.0 c shows.1 shows.2)
says_shown_event d (Lease user board) shows =
    told d _ (codes "lease") (Lease user board) shows refl refl
says_shown_event d (Band board) shows = told d _ (codes "band") (Band board) shows refl refl
says_shown_event d (Preempt board) shows =
    told d _ (codes "preempt") (Preempt board) shows refl refl
says_shown_event d (Fail board) shows = told d _ (codes "fail") (Fail board) shows refl refl
says_shown_event d (Repair board) shows = told d _ (codes "repair") (Repair board) shows refl refl
says_shown_event d Evict shows = told d _ (codes "evict") Evict shows refl refl
says_shown_event d (Collect user) shows = told d _ (codes "collect") (Collect user) shows refl refl

pub shown_event_is_said : ShownEventIsSaid
shown_event_is_said line d e within is shows =
    is_said event_in line d e within is (says_shown_event d e shows)
