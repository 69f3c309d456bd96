-- A line that says an event has a value that shows it.
use Rattle.std.proofs.Common.{◌≡◌, ◌<◌, ℕ, List, length, codes, Option, Some, IfSome, Ok}
use Rattle.std.proofs.Common.{option_map, refl, cond, bytes_eq}
use Rattle.serde_json.specs.Data.{Data, string, object, Members, no_members, member}
use Rattle.serde_json.specs.Find.{get}
use Rattle.cam6_commands.specs.declared.events.Event.{Event}
use Rattle.cam6_commands.specs.declared.events.Event.TheVariants.{Ask, Lease, Band, Preempt, Fail}
use Rattle.cam6_commands.specs.declared.events.Event.TheVariants.{Repair, Evict, Collect}
use Rattle.cam6_wire.specs.Fields.{count, number_at, ◌>>=◌}
use Rattle.cam6_wire.specs.Numbers.{natural}
use Rattle.cam6_wire.specs.Commands.{shown_in, sole_number}
use Rattle.cam6_wire.specs.Events.{ask_fields, ask_of, lease_fields, lease_of, band_of}
use Rattle.cam6_wire.specs.Events.{preempt_of, fail_of, repair_of, evict_of, collect_of}
use Rattle.cam6_wire.specs.Events.{event_by_word, event_in, event}
use Rattle.cam6_wire.specs.Shown.{Shows, CanBeAsked}
use Rattle.cam6_wire.specs.ShownEvents.{ShowsEvent}
use Rattle.cam6_wire.specs.Laws.{SaidEventIsShown}
use Rattle.cam6_wire.proofs.Steps.{of_step, of_two}
use Rattle.cam6_wire.proofs.Ordered.{IsOrdered, ordered_found}
use Rattle.cam6_wire.proofs.Exactly.{these}
use Rattle.cam6_wire.proofs.Saying.{is_shown, not_empty}
use Rattle.cam6_wire.proofs.Found.{number_found, of_object}
use Rattle.cam6_wire.proofs.Worded.{HasWord, of_word, word_shown, number_first, number_later}
use Rattle.cam6_wire.proofs.Showing.{asked_shown}

-- what holds of a value whose word at the key event is known
abbrev IsEvent : List ℕ → Data → Type 0
IsEvent word d = HasWord (codes "event") word d

-- the command in an ask, in a value of whose objects the keys are in order
command_held : (user : ℕ) (shown : Data) (held : Members) → count held ≡ 3 →
    IsEvent (codes "ask") (object held) → get (codes "user") (object held) ≡ Some (natural user) →
    (get (codes "command") (object held) ≡ Some shown) × IsOrdered shown →
    IfSome (shown_in shown >>= λ command. Some (Ask user command)) (ShowsEvent (object held))
command_held user shown held same given at_user at_command =
    of_step (λ command. Shows shown command × CanBeAsked command) (ShowsEvent (object held))
    (λ command. Some (Ask user command))
    (λ command shows. (
      shown,
      shows.0,
      shows.1,
      these
          (member (codes "command") shown
          (member (codes "event") (string (codes "ask"))
          (member (codes "user") (natural user) no_members)))
          held ((refl, (refl, tt)), ((refl, tt), (tt, tt))) same given.0
          (at_command.0, (given.1, (at_user, tt))),
    ))
    (shown_in shown) (asked_shown shown at_command.1)

ask_held : (held : Members) → count held ≡ 3 → IsEvent (codes "ask") (object held) →
    IfSome (ask_fields (object held)) (ShowsEvent (object held))
ask_held held same given =
    of_step (λ user. get (codes "user") (object held) ≡ Some (natural user))
    (ShowsEvent (object held))
    (λ user. get (codes "command") (object held) >>= λ shown.
    shown_in shown >>= λ command. Some (Ask user command))
    (λ user at_user.
    of_step (λ shown. (get (codes "command") (object held) ≡ Some shown) × IsOrdered shown)
    (ShowsEvent (object held)) (λ shown. shown_in shown >>= λ command. Some (Ask user command))
    (λ shown at_command. command_held user shown held same given at_user at_command)
    (get (codes "command") (object held)) (ordered_found (codes "command") held given.0.1))
    (number_at (codes "user") (object held)) (number_found (codes "user") (object held))

ask_shown : (d : Data) → IsEvent (codes "ask") d → IfSome (ask_of d) (ShowsEvent d)
unfolding ask_of
ask_shown d given = of_object 3 ask_fields (IsEvent (codes "ask")) ShowsEvent ask_held d given

lease_held : (held : Members) → count held ≡ 3 → IsEvent (codes "lease") (object held) →
    IfSome (lease_fields (object held)) (ShowsEvent (object held))
lease_held held same given =
    of_two (λ user. get (codes "user") (object held) ≡ Some (natural user))
    (λ board. get (codes "board") (object held) ≡ Some (natural board)) (ShowsEvent (object held))
    Lease
    (λ user board at_user at_board.
    these
    (member (codes "board") (natural board)
    (member (codes "event") (string (codes "lease"))
    (member (codes "user") (natural user) no_members)))
    held ((refl, (refl, tt)), ((refl, tt), (tt, tt))) same given.0
    (at_board, (given.1, (at_user, tt))))
    (number_at (codes "user") (object held)) (number_at (codes "board") (object held))
    (number_found (codes "user") (object held)) (number_found (codes "board") (object held))

lease_shown : (d : Data) → IsEvent (codes "lease") d → IfSome (lease_of d) (ShowsEvent d)
unfolding lease_of
lease_shown d given =
    of_object 3 lease_fields (IsEvent (codes "lease")) ShowsEvent lease_held d given

evict_held : (held : Members) → count held ≡ 1 → IsEvent (codes "evict") (object held) →
    IfSome (Some Evict) (ShowsEvent (object held))
evict_held held same given =
    these (member (codes "event") (string (codes "evict")) no_members) held (tt, tt) same given.0
    (given.1, tt)

evict_shown : (d : Data) → IsEvent (codes "evict") d → IfSome (evict_of d) (ShowsEvent d)
unfolding evict_of
evict_shown d given =
    of_object 1 (λ x. Some Evict) (IsEvent (codes "evict")) ShowsEvent evict_held d given

by_word_shown : (word : List ℕ) (d : Data) → IsEvent word d →
    IfSome (event_by_word word d) (ShowsEvent d)
unfolding band_of preempt_of fail_of repair_of collect_of
by_word_shown word d has =
    one (codes "ask") (ask_of d) _ (ask_shown d)
    (one (codes "lease") (lease_of d) _ (lease_shown d)
    (one (codes "band") (band_of d) _ (of_board (codes "band") Band (λ n is. is))
    (one (codes "preempt") (preempt_of d) _ (of_board (codes "preempt") Preempt (λ n is. is))
    (one (codes "fail") (fail_of d) _ (of_board (codes "fail") Fail (λ n is. is))
    (one (codes "repair") (repair_of d) _ (of_board (codes "repair") Repair (λ n is. is))
    (one (codes "evict") (evict_of d) _ (evict_shown d)
    (one (codes "collect") (collect_of d) _
    (number_later (codes "event") (codes "collect") (codes "user") Collect d (ShowsEvent d) refl
    (λ n is. is))
    tt)))))))
  where
    one : (its : List ℕ) (x y : Option Event) → (IsEvent its d → IfSome x (ShowsEvent d)) →
        IfSome y (ShowsEvent d) → IfSome (cond (bytes_eq word its) x y) (ShowsEvent d)
    one its x y here later = of_word (codes "event") word its d (ShowsEvent d) x y has here later

    -- an event of a board alone
    of_board : (its : List ℕ) (make : ℕ → Event) →
        ((n : ℕ) →
        d ≡ object
        (member (codes "board") (natural n) (member (codes "event") (string its) no_members)) →
        ShowsEvent d (make n)) →
        IsEvent its d → IfSome (option_map make (sole_number (codes "board") d)) (ShowsEvent d)
    of_board its make holds =
        number_first (codes "event") its (codes "board") make d (ShowsEvent d) refl holds

event_shown : (d : Data) → IsOrdered d → IfSome (event_in d) (ShowsEvent d)
event_shown d ordered =
    word_shown event_by_word (codes "event") d (ShowsEvent d) ordered
    (λ word has. by_word_shown word d has)

pub said_event_is_shown : SaidEventIsShown
said_event_is_shown line e said = is_shown event_in ShowsEvent event_shown line e said

-- a line that says an event isn't empty
pub said_event_not_empty : (line : List ℕ) (e : Event) → event line ≡ Ok e → 0 < length line
said_event_not_empty line e said =
    let value = (said_event_is_shown line e said).1 in
    not_empty line value.0 value.1
