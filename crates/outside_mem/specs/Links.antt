-- What links in memory hold, and what their calls do.
use Rattle.std.specs.Prelude.{◌+◌, ◌-◌, ◌^◌, ◌==◌, ◌&&◌, not, ℕ, Bool, true, false, List, ◌++◌, length, map, filter, take, replicate, slice_get, if◌then◌else◌, Some, None}
use Rattle.std.specs.declared.option.Option.{Option}
use Rattle.std.specs.Option.{option_map_or}
use Rattle.base_types.specs.declared.Peer.{Peer}
use Rattle.outside.specs.Calls.{Sent, Replied, Asked, LinkCalls}
use Rattle.outside.specs.Calls.Asked.{Raise, Close}
use Rattle.outside.specs.Causes.{one_more}
use Rattle.outside.specs.declared.links.Arrival.{Arrival}
use Rattle.outside.specs.declared.links.Arrival.TheVariants.{Nothing, NoMemory}
use Rattle.outside_mem.specs.declared.links.SentTo.{SentTo}
use Rattle.outside_mem.specs.declared.links.Ask.{Ask}
use Rattle.outside_mem.specs.declared.links.Ask.TheVariants.{Raise as ToRaise, Close as ToClose}
use Rattle.outside_mem.specs.Memory.{CallCount, after_call, is_next_listed}
use Rattle.outside_mem.specs.Rooms.{Stored, Logged, fits, with_row, with_none, with_item}
use Rattle.outside_mem.specs.Begun.{BegunLog, begin_of, peers_fit, with_begun, without_begun}

-- the arrivals that it was given, how many came, how often nothing came behind them, what it keeps of its calls, and
-- which calls fail
pub record LinkState : Type 0 where
  pub arrivals : List Arrival
  pub at : ℕ
  pub idle : ℕ
  pub begun : BegunLog
  pub sent : Stored SentTo
  pub replied : Stored Bool
  pub asked : Logged Ask
  pub calls : CallCount

-- want of memory
abbrev pub is_want : Arrival → Bool
is_want NoMemory = true
is_want arrival = false

-- what comes next
abbrev pub next_arrival : LinkState → Arrival
next_arrival link = option_map_or (λ (arrival : Arrival). arrival) (slice_get link.arrivals link.at) Nothing

-- what came, as long as it can count how often nothing did
abbrev pub arrived : LinkState → Option (List Arrival)
arrived link = if link.idle == 2 ^ 64 - 1 then None
    else Some (filter (λ a. not (is_want a)) (take link.at link.arrivals) ++ replicate link.idle Nothing)

-- calls that are kept, as calls
abbrev pub sent_of : SentTo × List ℕ → Sent
sent_of row = record { to = row.0.to; bytes = row.1; ok = row.0.ok }

abbrev pub replied_of : Bool × List ℕ → Replied
replied_of row = record { bytes = row.1; ok = row.0 }

abbrev pub asked_of : Ask → Asked
asked_of (ToRaise to) = Raise to
asked_of (ToClose to) = Close to

-- the calls that it tells
abbrev pub calls_of : LinkState → LinkCalls
calls_of link = record {
  begun = if link.begun.whole then Some (map begin_of link.begun.calls) else None;
  arrived = arrived link;
  sent = if link.sent.whole then Some (map sent_of link.sent.rows) else None;
  replied = if link.replied.whole then Some (map replied_of link.replied.rows) else None;
  asked = if link.asked.whole then Some (map asked_of link.asked.items) else None;
}

-- the link with another list of calls, and with one call more that may have failed
abbrev pub changed : LinkState → BegunLog → Stored SentTo → Stored Bool → Bool → LinkState
changed link begun sent replied failed = record {
  arrivals = link.arrivals;
  at = link.at;
  idle = link.idle;
  begun = begun;
  sent = sent;
  replied = replied;
  asked = link.asked;
  calls = after_call failed link.calls;
}

-- a call is kept where there is room
abbrev pub after_begin : Option ℕ → Option ℕ → List Peer → LinkState → LinkState
after_begin me hop peers link =
    let ok = not (is_next_listed link.calls) in
    let room = peers_fit peers link.begun in
    changed link (if room then with_begun (record { me = me; hop = hop; ok = ok }) peers link.begun else without_begun link.begun) link.sent link.replied (not (room && ok))

abbrev pub after_send : ℕ → List ℕ → LinkState → LinkState
after_send to bytes link =
    let ok = not (is_next_listed link.calls) in
    let room = fits (length bytes) link.sent in
    changed link link.begun (if room then with_row (record { to = to; ok = ok }) bytes link.sent else with_none link.sent) link.replied (not (room && ok))

abbrev pub after_reply : List ℕ → LinkState → LinkState
after_reply bytes link =
    let ok = not (is_next_listed link.calls) in
    let room = fits (length bytes) link.replied in
    changed link link.begun link.sent (if room then with_row ok bytes link.replied else with_none link.replied) (not (room && ok))

abbrev pub moved : LinkState → ℕ → ℕ → Logged Ask → LinkState
moved link at idle asked = record {
  arrivals = link.arrivals;
  at = at;
  idle = idle;
  begun = link.begun;
  sent = link.sent;
  replied = link.replied;
  asked = asked;
  calls = link.calls;
}

abbrev pub after_ask : Ask → LinkState → LinkState
after_ask ask link = moved link link.at link.idle (with_item ask link.asked)

-- Want of memory for an arrival changes nothing. Any other arrival was given, and where none was left nothing came.
abbrev pub after_poll : Arrival → LinkState → LinkState
after_poll result link =
    if link.at == length link.arrivals then moved link link.at (one_more link.idle) link.asked
    else (if is_want result && not (is_want (next_arrival link)) then link
    else moved link (link.at + 1) link.idle link.asked)
