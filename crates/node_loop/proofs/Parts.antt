-- A turn of a run, put together from its parts.
use Rattle.std.proofs.Common.{◌≡◌, ◌≢◌, ℕ, Bool, Err, List, None, Ok, Option, Result, Some, false, inl, inr, refl, subst, sym, true}
use Rattle.std.specs.Prelude.{IsSome, OnOk, ℤ, is_some}
use Rattle.composer_parser.specs.declared.Defs.{Defs}
use Rattle.model.specs.Types.{Cmd, Input, Local, Turn, Typed}
use Rattle.agent_core.specs.Nodes.{NodeState, view_in}
use Rattle.file_watch.specs.Asked.{Probe}
use Rattle.file_watch.specs.Circle.{DepPlace}
use Rattle.file_watch.specs.Probes.{next_probe, path_at}
use Rattle.outside.specs.Arrivals.{Arrives}
use Rattle.outside.specs.Calls.{AddsOrEnds, LinkCalls, Polls, Reports, SpawnerCalls}
use Rattle.outside.specs.Kept.{Bodies}
use Rattle.outside.specs.declared.Failed.{Failed}
use Rattle.outside.specs.declared.links.Arrival.{Arrival}
use Rattle.outside.specs.declared.links.Arrival.TheVariants as arrival
use Rattle.outside.specs.declared.spawners.End.{End}
use Rattle.recovery_watch.specs.Advice.{advice}
use Rattle.node_inputs.specs.Keeping.{IsReady}
use Rattle.node_inputs.specs.Traces.{Event}
use Rattle.node_inputs.specs.declared.ends.NodeEnd.{NodeEnd}
use Rattle.node_inputs.specs.Actions.{Action, IfThere, Nothing, Then}
use Rattle.node_inputs.specs.Doings.{Does}
use Rattle.node_inputs.specs.Inputs.{Take}
use Rattle.node_inputs.specs.Tellings.{Told, told_by}
use Rattle.node_inputs.proofs.Choosing.{did_if_false, did_if_true}
use Rattle.node_inputs.proofs.Doing.{did_as, did_outside, did_then, out_call, out_nothing}
use Rattle.node_inputs.proofs.Telling.{look_told, poll_told, read_told, report_told}
use Rattle.node_loop.specs.Heard.{Completes, Heard, heard_more}
use Rattle.mail_frames.specs.declared.frames.Frame.{Frame}
use Rattle.model.specs.Words.{with_at}
use Rattle.node_loop.specs.Frames.{Frames}
use Rattle.node_loop.specs.Runs.{Advise, Arrive, Come, EndOf, Found, Hear, On, Probing, Looks, Reports as TakesEnd, Running, TurnOf, is_live, running_with}
use Rattle.node_loop.proofs.Turning.{did_event, did_on, event_first, heard_now}

module _ {K : Type 0} {kept_in : K → Option Bodies} {size faults moment : K → ℕ} {may_leave : K → Bodies → Type 0} {left_since : K → ℕ → Bodies → Type 0} {opens_since : K → ℕ → ℕ → Type 0} where
  -- what came is told, and then taken
  polled : (a : Arrival) → a ≢ arrival.NoMemory → (defs : Defs) {old new : Running} {keeper later : K} (before after : LinkCalls) (jobs : SpawnerCalls) (clock : Option (List ℕ)) (files : Option (List Probe)) {now : Told} {end : Option NodeEnd}
      → Polls a before after → (spent : K → Bool) → IsReady kept_in spent may_leave keeper
      → Does kept_in size faults moment may_leave left_since opens_since (Arrive defs a) old new keeper later (told_by after jobs clock files) now end
      → Does kept_in size faults moment may_leave left_since opens_since (Come defs) old new keeper later (told_by before jobs clock files) now end
  polled a there defs {old} {new} before after jobs clock files {end = end} polls spent ready d =
      did_as
      (λ trace h.
      let e = event_first (Event.Comes a) (Arrive defs a) old new trace end h in
      inl (record { arrived = a; rest = e.0; there = there; split = e.1; arrives = e.2 }))
      (did_event (Event.Comes a) (out_call (Event.Comes a) old refl (poll_told jobs clock files before after a polls)) spent ready d)

  pub did_come : (a : Arrival) (defs : Defs) {old new : Running} {keeper later : K} (before after : LinkCalls) (jobs : SpawnerCalls) (clock : Option (List ℕ)) (files : Option (List Probe)) {now : Told} {end : Option NodeEnd}
      → Arrives a before after → (spent : K → Bool) → IsReady kept_in spent may_leave keeper
      → Does kept_in size faults moment may_leave left_since opens_since (Arrive defs a) old new keeper later (told_by after jobs clock files) now end
      → Does kept_in size faults moment may_leave left_since opens_since (Come defs) old new keeper later (told_by before jobs clock files) now end
  did_come (arrival.Bytes x bytes) defs before after jobs clock files polls spent ready d =
      polled (arrival.Bytes x bytes) (λ h. cc) defs before after jobs clock files polls spent ready d
  did_come (arrival.Up x) defs before after jobs clock files polls spent ready d =
      polled (arrival.Up x) (λ h. cc) defs before after jobs clock files polls spent ready d
  did_come (arrival.Down x) defs before after jobs clock files polls spent ready d =
      polled (arrival.Down x) (λ h. cc) defs before after jobs clock files polls spent ready d
  did_come (arrival.Client bytes) defs before after jobs clock files polls spent ready d =
      polled (arrival.Client bytes) (λ h. cc) defs before after jobs clock files polls spent ready d
  did_come arrival.Nothing defs before after jobs clock files polls spent ready d =
      polled arrival.Nothing (λ h. cc) defs before after jobs clock files polls spent ready d
  did_come arrival.NoMemory defs {old} {new} {keeper} {later} before after jobs clock files {now} {end} same spent ready d =
      subst (λ (calls : LinkCalls). Does kept_in size faults moment may_leave left_since opens_since (Come defs) old new keeper later (told_by calls jobs clock files) now end) same
      (did_as (λ trace h. inr h) d)

  -- an end is told, and then taken
  pub did_report : (answer : Result (Option End) Failed) {old new : NodeState} {keeper later : K} (link : LinkCalls) (before after : SpawnerCalls) (clock : Option (List ℕ)) (files : Option (List Probe)) {now : Told} {end : Option NodeEnd}
      → Reports answer before after → (spent : K → Bool) → IsReady kept_in spent may_leave keeper
      → Does kept_in size faults moment may_leave left_since opens_since (EndOf answer) old new keeper later (told_by link after clock files) now end
      → Does kept_in size faults moment may_leave left_since opens_since (λ o t e n. TakesEnd o t e n) old new keeper later (told_by link before clock files) now end
  did_report answer {old} {new} link before after clock files {end = end} reports spent ready d =
      did_as
      (λ trace h.
      let e = event_first (Event.Reports answer) (EndOf answer) old new trace end h in
      record { answer = answer; rest = e.0; split = e.1; acts = e.2 })
      (did_event (Event.Reports answer) (out_call (Event.Reports answer) old refl (report_told link clock files before after answer reports)) spent ready d)

  -- the end of a live launch, and of what is none
  pub ended_live : (ended : End) (rc : ℤ) {old new : NodeState} {keeper later : K} {told now : Told} {end : Option NodeEnd}
      → rc ≡ ended.rc → is_live old ended ≡ true
      → Does kept_in size faults moment may_leave left_since opens_since (Take (Input.Local (Local.Ended ended.job rc))) old new keeper later told now end
      → Does kept_in size faults moment may_leave left_since opens_since (EndOf (Ok (Some ended))) old new keeper later told now end
  ended_live ended rc {old} {new} {end = end} same e d =
      did_as (λ trace h. h)
      (did_if_true Nothing (is_live old ended) e
      (did_as {second = Take (Input.Local (Local.Ended ended.job ended.rc))} (λ trace h. subst (λ (r : ℤ). Take (Input.Local (Local.Ended ended.job r)) old trace end new) same h) d))

  pub ended_dead : (ended : End) {old new : NodeState} {keeper later : K} {told now : Told} {end : Option NodeEnd}
      → is_live old ended ≡ false
      → Does kept_in size faults moment may_leave left_since opens_since Nothing old new keeper later told now end
      → Does kept_in size faults moment may_leave left_since opens_since (EndOf (Ok (Some ended))) old new keeper later told now end
  ended_dead ended {old} {new} {end = end} e d =
      did_as (λ trace h. h) (did_if_false (Take (Input.Local (Local.Ended ended.job ended.rc))) (is_live old ended) e d)

  -- a file is looked for
  pub did_look : (place : DepPlace) (path : List ℕ) (answer : Result Bool Failed) (heard : ℕ → Heard) (asked : Option DepPlace) {old new : NodeState} {keeper later : K} (link : LinkCalls) (jobs : SpawnerCalls) (clock : Option (List ℕ)) (before after : Option (List Probe)) {now : Told} {end : Option NodeEnd}
      → next_probe (view_in old) old.me asked ≡ Some place → path_at (view_in old) place.0 place.1 ≡ Some path
      → AddsOrEnds (record { path = path; answer = answer }) before after → (spent : K → Bool) → IsReady kept_in spent may_leave keeper
      → Does kept_in size faults moment may_leave left_since opens_since (Found place answer) old new keeper later (told_by link jobs clock after) now end
      → Does kept_in size faults moment may_leave left_since opens_since Probing (running_with old heard asked) (running_with new heard (Some place)) keeper later (told_by link jobs clock before) now end
  did_look place path answer heard asked {old} {new} {keeper} {later} link jobs clock before after {now} {end} due its_path looks spent ready d =
      let here = running_with old heard asked in
      let there = running_with new heard (Some place) in
      let act : Action Running = λ o t e n. On (Found place answer) (running_with o.node o.heard (Some place)) t e n in
      let found : Does kept_in size faults moment may_leave left_since opens_since act here there keeper later (told_by link jobs clock after) now end =
      did_as (λ trace h. h) (did_on heard (Some place) d) in
      did_as
      (λ trace h.
      let e = event_first (Event.Looks path answer) act here there trace end h in
      subst (λ (o : Option DepPlace). IfThere o (λ (s : DepPlace). λ o t e n. Looks s o t e n) Nothing here trace end there) (sym due)
      (record { path = path; answer = answer; rest = e.0; its_path = its_path; split = e.1; acts = e.2 }))
      (did_event (Event.Looks path answer) (out_call (Event.Looks path answer) here refl (look_told link jobs clock path answer before after looks)) spent ready found)

  pub did_not_look : (spent : K → Bool) (heard : ℕ → Heard) (asked : Option DepPlace) (node : NodeState) (keeper : K) (told : Told)
      → next_probe (view_in node) node.me asked ≡ None → IsReady kept_in spent may_leave keeper
      → Does kept_in size faults moment may_leave left_since opens_since Probing (running_with node heard asked) (running_with node heard asked) keeper keeper told told None
  did_not_look spent heard asked node keeper told none ready =
      let here = running_with node heard asked in
      did_as
      (λ trace h. subst (λ (o : Option DepPlace). IfThere o (λ (s : DepPlace). λ o t e n. Looks s o t e n) Nothing here trace None here) (sym none) h)
      (did_outside spent keeper ready (out_nothing here told))

  -- the advice is typed, where there is one
  pub did_advise : (c : Cmd) (me : ℕ) {old new : NodeState} {keeper later : K} {told now : Told} {end : Option NodeEnd}
      → advice (view_in old) old.me ≡ Some c → me ≡ old.me
      → Does kept_in size faults moment may_leave left_since opens_since (Take (Input.Local (Typed me c))) old new keeper later told now end
      → Does kept_in size faults moment may_leave left_since opens_since Advise old new keeper later told now end
  did_advise c me {old} {new} {end = end} is mine d =
      did_as
      (λ trace h.
      subst (λ (o : Option Cmd). IfThere o (λ (c : Cmd). Take (Input.Local (Typed old.me c))) Nothing old trace end new) (sym is)
      (subst (λ (m : ℕ). Take (Input.Local (Typed m c)) old trace end new) mine h)) d

  pub did_not_advise : (spent : K → Bool) (node : NodeState) (keeper : K) (told : Told) → advice (view_in node) node.me ≡ None
      → IsReady kept_in spent may_leave keeper
      → Does kept_in size faults moment may_leave left_since opens_since Advise node node keeper keeper told told None
  did_not_advise spent node keeper told none ready =
      did_as
      (λ trace h. subst (λ (o : Option Cmd). IfThere o (λ (c : Cmd). Take (Input.Local (Typed node.me c))) Nothing node trace None node) (sym none) h)
      (did_outside spent keeper ready (out_nothing node told))

  -- the clock is read, and then the parts of the turn
  pub did_turn : (reading : ℕ) (defs : Defs) {old new : Running} {keeper later : K} (link : LinkCalls) (jobs : SpawnerCalls) (files : Option (List Probe)) (before after : Option (List ℕ)) {now : Told} {end : Option NodeEnd}
      → AddsOrEnds reading before after → (spent : K → Bool) → IsReady kept_in spent may_leave keeper
      → Does kept_in size faults moment may_leave left_since opens_since
      (Then (Come defs) (Then (On (λ o t e n. TakesEnd o t e n)) (Then Probing (Then (On Advise) (On (Take (Input.Local (Turn reading)))))))) old new keeper later (told_by link jobs after files) now end
      → Does kept_in size faults moment may_leave left_since opens_since (λ o t e n. TurnOf defs o t e n) old new keeper later (told_by link jobs before files) now end
  did_turn reading defs {old} {new} link jobs files before after {end = end} reads spent ready d =
      did_as
      (λ trace h.
      let e = event_first (Event.Reads reading) (Then (Come defs) (Then (On (λ o t e n. TakesEnd o t e n)) (Then Probing (Then (On Advise) (On (Take (Input.Local (Turn reading)))))))) old new trace end h in
      record { reading = reading; rest = e.0; split = e.1; acts = e.2 })
      (did_event (Event.Reads reading) (out_call (Event.Reads reading) old refl (read_told link jobs files reading before after reads)) spent ready d)

  -- a file that is not there, or is not known to be
  pub did_unfound : (spent : K → Bool) (place : DepPlace) (answer : Result Bool Failed) (node : NodeState) (keeper : K) (told : Told)
      → answer ≡ Ok false → IsReady kept_in spent may_leave keeper
      → Does kept_in size faults moment may_leave left_since opens_since (Found place answer) node node keeper keeper told told None
  did_unfound spent place answer node keeper told is ready =
      did_as (λ trace h. subst (λ (a : Result Bool Failed). Found place a node trace None node) (sym is) h)
      (did_outside spent keeper ready (out_nothing node told))

  pub did_fail : (spent : K → Bool) (place : DepPlace) (answer : Result Bool Failed) (why : Failed) (node : NodeState) (keeper : K) (told : Told)
      → answer ≡ Err why → IsReady kept_in spent may_leave keeper
      → Does kept_in size faults moment may_leave left_since opens_since (Found place answer) node node keeper keeper told told None
  did_fail spent place answer why node keeper told is ready =
      did_as (λ trace h. subst (λ (a : Result Bool Failed). Found place a node trace None node) (sym is) h)
      (did_outside spent keeper ready (out_nothing node told))

  -- what came is this
  pub did_arrive : (a b : Arrival) (defs : Defs) {old new : Running} {keeper later : K} {told now : Told} {end : Option NodeEnd} → a ≡ b
      → Does kept_in size faults moment may_leave left_since opens_since (Arrive defs b) old new keeper later told now end
      → Does kept_in size faults moment may_leave left_since opens_since (Arrive defs a) old new keeper later told now end
  did_arrive a b defs {old} {new} {end = end} is d =
      did_as (λ trace h. subst (λ (c : Arrival). Arrive defs c old trace end new) (sym is) h) d

  -- bytes are heard, and the frames that they complete are taken
  pub did_hear : (x : ℕ) (bytes : List ℕ) (frames given : List Frame) (bad : Option ℕ) (is_bad : Bool) (heard : ℕ → Heard) (asked : Option DepPlace)
      {old new : NodeState} {keeper later : K} {told now : Told} {end : Option NodeEnd}
      → given ≡ frames → is_bad ≡ is_some bad → Completes (heard x) bytes frames bad
      → (spent : K → Bool) → IsReady kept_in spent may_leave keeper
      → Does kept_in size faults moment may_leave left_since opens_since (Frames x is_bad given) old new keeper later told now end
      → Does kept_in size faults moment may_leave left_since opens_since (Hear x bytes) (running_with old heard asked)
      (running_with new (with_at x (heard_more (heard x) bytes frames) heard) asked) keeper later told now end
  did_hear x bytes frames given bad is_bad heard asked {old} {new} {keeper} {later} {told} {now} {end} same wrong whole spent ready d =
      let next = with_at x (heard_more (heard x) bytes frames) heard in
      let d1 : Does kept_in size faults moment may_leave left_since opens_since (Frames x (is_some bad) frames) old new keeper later told now end =
      did_as
      (λ trace h.
      subst (λ (b : Bool). Frames x b frames old trace end new) wrong
      (subst (λ (l : List Frame). Frames x is_bad l old trace end new) same h)) d in
      did_as (λ trace h. inl (frames, bad, whole, h))
      (did_then (did_outside spent keeper ready (heard_now old heard asked x (heard_more (heard x) bytes frames) told)) (did_on next asked d1))

-- a path that is there is not none
pub no_path : (o : Option (List ℕ)) → o ≡ None → IsSome o → ⊥
no_path None e h = cc
no_path (Some path) e h = cc

-- an answer that is an end has nothing more to say
pub not_ok : {A : Type 0} (P : Type 0) (r : Result A NodeEnd) (why : NodeEnd) → r ≡ Err why → OnOk r P
not_ok {A} P r why is = subst (λ (q : Result A NodeEnd). OnOk q P) (sym is) tt

-- what follows the arrival of a turn, its report, and its probe
abbrev pub AfterProbe : ℕ → Action Running
AfterProbe reading = Then (On Advise) (On (Take (Input.Local (Turn reading))))

abbrev pub AfterReport : ℕ → Action Running
AfterReport reading = Then Probing (AfterProbe reading)

abbrev pub AfterCome : ℕ → Action Running
AfterCome reading = Then (On (λ o t e n. TakesEnd o t e n)) (AfterReport reading)
