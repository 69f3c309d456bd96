-- The JSON value of each event, its keys in byte order.
use Rattle.std.specs.Prelude.{◌≡◌, codes}
use Rattle.serde_json.specs.Data.{Data, string, object, no_members, member}
use Rattle.cam6_commands.specs.declared.events.Event.{Event}
use Rattle.cam6_commands.specs.declared.events.Event.TheVariants.{Ask, Lease, Band, Preempt, Fail}
use Rattle.cam6_commands.specs.declared.events.Event.TheVariants.{Repair, Evict, Collect}
use Rattle.cam6_wire.specs.Numbers.{natural}
use Rattle.cam6_wire.specs.Shown.{Shows, CanBeAsked}

-- the value shows the event
abbrev pub ShowsEvent : Data → Event → Type 0
-- {"command":{..},"event":"ask","user":u}: the command's own value in it, which is no load
ShowsEvent d (Ask user command) =
    (shown : Data) × Shows shown command × CanBeAsked command ×
    (d
    ≡ object
    (member (codes "command") shown
    (member (codes "event") (string (codes "ask"))
    (member (codes "user") (natural user)
    no_members))))
-- {"board":b,"event":"lease","user":u}
ShowsEvent d (Lease user board) =
    d
    ≡ object
    (member (codes "board") (natural board)
    (member (codes "event") (string (codes "lease"))
    (member (codes "user") (natural user)
    no_members)))
-- {"board":b,"event":"band"}
ShowsEvent d (Band board) =
    d
    ≡ object
    (member (codes "board") (natural board)
    (member (codes "event") (string (codes "band"))
    no_members))
-- {"board":b,"event":"preempt"}
ShowsEvent d (Preempt board) =
    d
    ≡ object
    (member (codes "board") (natural board)
    (member (codes "event") (string (codes "preempt"))
    no_members))
-- {"board":b,"event":"fail"}
ShowsEvent d (Fail board) =
    d
    ≡ object
    (member (codes "board") (natural board)
    (member (codes "event") (string (codes "fail"))
    no_members))
-- {"board":b,"event":"repair"}
ShowsEvent d (Repair board) =
    d
    ≡ object
    (member (codes "board") (natural board)
    (member (codes "event") (string (codes "repair"))
    no_members))
-- {"event":"evict"}
ShowsEvent d Evict = d ≡ object (member (codes "event") (string (codes "evict")) no_members)
-- {"event":"collect","user":u}
ShowsEvent d (Collect user) =
    d
    ≡ object
    (member (codes "event") (string (codes "collect"))
    (member (codes "user") (natural user)
    no_members))
