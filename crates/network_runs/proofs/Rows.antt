-- A small night of two workstations, and what the definitions make of it, by computation.
use Rattle.std.proofs.Common.{[], ◌≡◌, ◌∷◌, None, Some, refl, true}
use Rattle.model.specs.Types.{Clock, Command, Entry, Events, Mail, Order, Orders, Rerun}
use Rattle.model.specs.History.{list_of}
use Rattle.model.specs.Spelling.{entry_bytes}
use Rattle.mail_frames.specs.declared.frames.Frame.TheVariants as frame
use Rattle.outside.specs.declared.links.Arrival.TheVariants as arrival
use Rattle.node_inputs.specs.Traces.{Event}
use Rattle.node_inputs.specs.declared.ends.NodeEnd.TheVariants.{DiskFault}
use Rattle.network_runs.specs.Happenings.{Begins, Does, Night, Stops, heard_from, kept_at, launches_at, left_at_stop, made, since, started, until_stop}
use Rattle.network_runs.specs.Nights.{frame_in}

-- workstation 0 makes a reading of its clock and an order to workstation 1, which makes a reading of its own
abbrev first : Entry
first = record { feed = Events 0; place = 1; body = Clock 100 }

abbrev order : Entry
order = record { feed = Orders 0 1; place = 1; body = Order (Rerun 5) }

abbrev other : Entry
other = record { feed = Events 1; place = 1; body = Clock 90 }

-- the order is sent, kept and, after a start, the reading is in hand when workstation 1 stops
abbrev sent : Event
sent = Event.Sends (record { to = 1; bytes = 7 ∷ 8 ∷ []; ok = true })

abbrev process : Event
process = Event.Starts (record { job = 5; number = 2; work = Command (9 ∷ []); ok = true })

abbrev night : Night
night =
    Begins 0 []
    ∷ Begins 1 []
    ∷ Does 0 (Event.Keeps first)
    ∷ Does 0 (Event.Keeps order)
    ∷ Does 0 sent
    ∷ Does 1 (Event.Comes (arrival.Bytes 0 (7 ∷ [])))
    ∷ Does 1 (Event.Keeps order)
    ∷ Does 1 process
    ∷ Stops 1 (Some other)
    ∷ Begins 1 (order ∷ other ∷ [])
    ∷ Does 1 (Event.Keeps first)
    ∷ Does 0 (Event.Refuses first DiskFault)
    ∷ []

-- what a disk has: what was kept in all runs, with what the stop left
first_disk : kept_at 0 night ≡ first ∷ order ∷ []
first_disk = refl

second_disk : kept_at 1 night ≡ order ∷ other ∷ first ∷ []
second_disk = refl

-- the history has each entry once, when its maker kept it
history : made night ≡ first ∷ order ∷ other ∷ []
history = refl

starts : started night ≡ record { ws = 1; job = 5; number = 2 } ∷ []
starts = refl

starts_there : launches_at 1 (started night) ≡ (5, 2) ∷ []
starts_there = refl

starts_elsewhere : launches_at 0 (started night) ≡ []
starts_elsewhere = refl

-- what each did since it began last
since_first : since 0 night ≡ Some (Event.Keeps first ∷ Event.Keeps order ∷ sent ∷ Event.Refuses first DiskFault ∷ [])
since_first = refl

since_second : since 1 night ≡ Some (Event.Keeps first ∷ [])
since_second = refl

since_stop : since 1 (Begins 1 [] ∷ Does 1 process ∷ Stops 1 None ∷ Begins 0 [] ∷ []) ≡ None
since_stop = refl

-- what it does up to its stop, and what the stop leaves
up_to_stop : until_stop 1 (Does 1 process ∷ Does 0 sent ∷ Stops 0 None ∷ Does 1 sent ∷ Stops 1 (Some other) ∷ Begins 1 [] ∷ Does 1 sent ∷ [])
    ≡ process ∷ sent ∷ []
up_to_stop = refl

left : left_at_stop 1 (Does 1 process ∷ Stops 0 (Some first) ∷ Stops 1 (Some other) ∷ Stops 1 None ∷ []) ≡ Some other
left = refl

-- what was heard: bytes of this link, since it began or ended last
heard : heard_from 0
    (Event.Comes (arrival.Bytes 0 (6 ∷ []))
    ∷ Event.Comes (arrival.Up 0)
    ∷ Event.Comes (arrival.Bytes 0 (7 ∷ []))
    ∷ Event.Comes (arrival.Bytes 2 (9 ∷ []))
    ∷ Event.Comes (arrival.Up 2)
    ∷ Event.Comes (arrival.Client (5 ∷ []))
    ∷ Event.Comes (arrival.Bytes 0 (8 ∷ []))
    ∷ [])
    ≡ 7 ∷ 8 ∷ []
heard = refl

heard_none : heard_from 0 (Event.Comes (arrival.Bytes 0 (7 ∷ [])) ∷ Event.Comes (arrival.Down 0) ∷ []) ≡ []
heard_none = refl

-- a mail names an entry by its feed and its place, from 1
brought : frame_in (first ∷ order ∷ []) (Mail (Orders 0 1) 1) ≡ Some (frame.Mail (entry_bytes order))
unfolding list_of
brought = refl

none_brought : frame_in (first ∷ order ∷ []) (Mail (Events 0) 2) ≡ None
unfolding list_of
none_brought = refl
