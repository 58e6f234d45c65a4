-- The master makes a plan, launches its job and mails the plan. The agent stops with it in hand, finds it on its disk, and
-- goes on.
use Rattle.std.specs.Prelude.{[], codes, ◌++◌, ◌∷◌, None, Ok, Some, true}
use Rattle.mail_frames.specs.declared.frames.Frame.{Frame}
use Rattle.mail_frames.specs.declared.frames.Frame.TheVariants as frame
use Rattle.mail_frames.specs.Spelling.{frame_bytes}
use Rattle.model.specs.Spelling.{entry_bytes}
use Rattle.model.specs.Types.{Command, Entry, Events, Launched, NewPlan, Released}
use Rattle.outside.specs.Calls.{Sent}
use Rattle.outside.specs.declared.links.Arrival.TheVariants as arrival
use Rattle.node_inputs.specs.Traces.{Event, Trace}
use Rattle.node_lines.specs.Lines.{reply_text}
use Rattle.node_replies.specs.Replies.{plan_line}
use Rattle.network_runs.specs.Happenings.{Begins, Does, Night, Stops}
use Rattle.worked_night.specs.Workload.{doc}

abbrev pub plan : Entry
plan = record { feed = Events 0; place = 1; body = NewPlan 1 [] [] (doc ∷ []) }

abbrev pub released : Entry
released = record { feed = Events 0; place = 2; body = Released 1 ((0, 1) ∷ []) }

abbrev pub launched : Entry
launched = record { feed = Events 0; place = 3; body = Launched 1 1 ((0, 2) ∷ []) }

-- a client orders the plan of the first day
abbrev pub order : Frame
order = frame.Command (codes "jnextplan 01/01/1970")

abbrev pub answer : Frame
answer = frame.Reply (reply_text (plan_line 1))

-- the mail of the plan
abbrev pub mail : Frame
mail = frame.Mail (entry_bytes plan)

abbrev pub sent : Sent
sent = record { to = 1; bytes = frame_bytes mail; ok = true }

abbrev pub none_ended : Event
none_ended = Event.Reports (Ok None)

-- the master's turn with the order, and its turn with the link
abbrev pub first_turn : Trace
first_turn =
    Event.Reads 100
    ∷ Event.Comes (arrival.Client (frame_bytes order))
    ∷ Event.Keeps plan
    ∷ Event.Replies (record { bytes = frame_bytes answer; ok = true })
    ∷ none_ended
    ∷ Event.Keeps released
    ∷ []

abbrev pub second_turn : Trace
second_turn =
    Event.Reads 100
    ∷ Event.Comes (arrival.Up 1)
    ∷ none_ended
    ∷ Event.Keeps launched
    ∷ Event.Starts (record { job = 1; number = 1; work = Command (codes "true"); ok = true })
    ∷ Event.Sends sent
    ∷ []

-- the agent's turns: the one in which it stops, and one behind its restart
abbrev pub cut_turn : Trace
cut_turn = Event.Reads 100 ∷ Event.Comes (arrival.Bytes 0 (frame_bytes mail)) ∷ []

abbrev pub later_turn : Trace
later_turn = Event.Reads 200 ∷ Event.Comes arrival.Nothing ∷ none_ended ∷ []

-- up to the mail's arrival, and behind it
abbrev pub before_mail : Night
before_mail =
    Begins 0 []
    ∷ Begins 1 []
    ∷ Does 0 (Event.Reads 100)
    ∷ Does 0 (Event.Comes (arrival.Client (frame_bytes order)))
    ∷ Does 0 (Event.Keeps plan)
    ∷ Does 0 (Event.Replies (record { bytes = frame_bytes answer; ok = true }))
    ∷ Does 0 none_ended
    ∷ Does 0 (Event.Keeps released)
    ∷ Does 0 (Event.Reads 100)
    ∷ Does 0 (Event.Comes (arrival.Up 1))
    ∷ Does 1 (Event.Reads 100)
    ∷ Does 0 none_ended
    ∷ Does 0 (Event.Keeps launched)
    ∷ Does 0 (Event.Starts (record { job = 1; number = 1; work = Command (codes "true"); ok = true }))
    ∷ Does 0 (Event.Sends sent)
    ∷ []

abbrev pub behind_mail : Night
behind_mail =
    Stops 1 (Some plan)
    ∷ Stops 0 None
    ∷ Begins 1 (plan ∷ [])
    ∷ Does 1 (Event.Reads 200)
    ∷ Does 1 (Event.Comes arrival.Nothing)
    ∷ Does 1 none_ended
    ∷ []

abbrev pub night : Night
night = before_mail ++ Does 1 (Event.Comes (arrival.Bytes 0 (frame_bytes mail))) ∷ behind_mail
