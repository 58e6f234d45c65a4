-- What is told of stretches of a run, one behind the other, and of single calls.
use Rattle.std.specs.Prelude.{filter_map}
use Rattle.std.proofs.Common.{[], ◌++◌, ◌≡◌, ◌∙◌, ◌∷◌, ℕ, Bool, List, None, Option, Result, Some, ap, map, refl, subst, sym}
use Rattle.std.proofs.lemmas.List.{map-append}
use Rattle.std.proofs.lemmas.List.Elements.{filter_map-append}
use Rattle.model.specs.Types.{Entry}
use Rattle.file_watch.specs.Asked.{Probe}
use Rattle.outside.proofs.Told.{told_both, none_told, told_none, told_one, told_same}
use Rattle.outside.specs.Calls.{AddsAllOrEnds, AddsOrEnds, Asked, Asks, Kills, LinkCalls, Polls, Replied, Replies, Reports, Sends, Sent, SpawnerCalls, StartCall, Starts}
use Rattle.outside.specs.declared.Failed.{Failed}
use Rattle.outside.specs.declared.links.Arrival.{Arrival}
use Rattle.outside.specs.declared.spawners.End.{End}
use Rattle.node_inputs.specs.Traces.{Event, Trace, arrival_of, arrivals, asked_of, asks, kill_of, kills, look_of, looks, reading_of}
use Rattle.node_inputs.specs.Traces.{replies, reply_of, report_of, reports, send_of, sends, start_of, starts}
use Rattle.node_inputs.specs.declared.ends.NodeEnd.{NodeEnd}
use Rattle.node_inputs.specs.Tellings.{LinkTells, SpawnerTells, Tells, Told, probe_of, probes, told_by}

-- the same of what stands in the events of a trace
told_along : {X : Type 0} (of_event : Event → Option X) (front back : Trace) (old middle new : Option (List X))
    → AddsAllOrEnds (filter_map of_event front) old middle → AddsAllOrEnds (filter_map of_event back) middle new
    → AddsAllOrEnds (filter_map of_event (front ++ back)) old new
told_along {X} of_event front back old middle new first second =
    subst (λ (l : List X). AddsAllOrEnds l old new) (sym (filter_map-append of_event front back))
    (told_both (filter_map of_event front) (filter_map of_event back) old middle new first second)

link_both : (front back : Trace) (old middle new : LinkCalls) → LinkTells front old middle → LinkTells back middle new
    → LinkTells (front ++ back) old new
link_both front back old middle new first second = record {
  begun = second.begun ∙ first.begun;
  arrived = told_along arrival_of front back old.arrived middle.arrived new.arrived first.arrived second.arrived;
  sent = told_along send_of front back old.sent middle.sent new.sent first.sent second.sent;
  replied = told_along reply_of front back old.replied middle.replied new.replied first.replied second.replied;
  asked = told_along asked_of front back old.asked middle.asked new.asked first.asked second.asked;
}

jobs_both : (front back : Trace) (old middle new : SpawnerCalls) → SpawnerTells front old middle
    → SpawnerTells back middle new → SpawnerTells (front ++ back) old new
jobs_both front back old middle new first second = record {
  started = told_along start_of front back old.started middle.started new.started first.started second.started;
  killed = told_along kill_of front back old.killed middle.killed new.killed first.killed second.killed;
  reported = told_along report_of front back old.reported middle.reported new.reported first.reported second.reported;
}

probes-append : (front back : Trace) → probes (front ++ back) ≡ probes front ++ probes back
probes-append front back =
    ap (map probe_of) (filter_map-append look_of front back) ∙ map-append probe_of (looks front) (looks back)

pub tells_both : (front back : Trace) (old middle new : Told) → Tells front old middle → Tells back middle new
    → Tells (front ++ back) old new
tells_both front back old middle new first second = record {
  link = link_both front back old.link middle.link new.link first.link second.link;
  jobs = jobs_both front back old.jobs middle.jobs new.jobs first.jobs second.jobs;
  clock = told_along reading_of front back old.clock middle.clock new.clock first.clock second.clock;
  files =
      subst (λ (l : List Probe). AddsAllOrEnds l old.files new.files) (sym (probes-append front back))
      (told_both (probes front) (probes back) old.files middle.files new.files first.files second.files);
}

-- what asks nothing of links, and of the spawner
same_links : (trace : Trace) → arrivals trace ≡ [] → sends trace ≡ [] → replies trace ≡ [] → asks trace ≡ []
    → (calls : LinkCalls) → LinkTells trace calls calls
same_links trace a s r k calls = record {
  begun = refl;
  arrived = none_told (arrivals trace) a calls.arrived;
  sent = none_told (sends trace) s calls.sent;
  replied = none_told (replies trace) r calls.replied;
  asked = none_told (asks trace) k calls.asked;
}

same_jobs : (trace : Trace) → starts trace ≡ [] → kills trace ≡ [] → reports trace ≡ []
    → (calls : SpawnerCalls) → SpawnerTells trace calls calls
same_jobs trace s k r calls = record {
  started = none_told (starts trace) s calls.started;
  killed = none_told (kills trace) k calls.killed;
  reported = none_told (reports trace) r calls.reported;
}

pub nothing_told : (told : Told) → Tells [] told told
nothing_told told = record {
  link = same_links [] refl refl refl refl told.link;
  jobs = same_jobs [] refl refl refl told.jobs;
  clock = told_none told.clock;
  files = told_none told.files;
}

pub keeping_told : (e : Entry) (told : Told) → Tells (Event.Keeps e ∷ []) told told
keeping_told e told = record {
  link = same_links (Event.Keeps e ∷ []) refl refl refl refl told.link;
  jobs = same_jobs (Event.Keeps e ∷ []) refl refl refl told.jobs;
  clock = told_none told.clock;
  files = told_none told.files;
}

pub refusing_told : (e : Entry) (why : NodeEnd) (told : Told) → Tells (Event.Refuses e why ∷ []) told told
refusing_told e why told = record {
  link = same_links (Event.Refuses e why ∷ []) refl refl refl refl told.link;
  jobs = same_jobs (Event.Refuses e why ∷ []) refl refl refl told.jobs;
  clock = told_none told.clock;
  files = told_none told.files;
}

-- single calls
module _ (jobs : SpawnerCalls) (clock : Option (List ℕ)) (files : Option (List Probe)) (old new : LinkCalls) where
  pub poll_told : (a : Arrival) → Polls a old new → Tells (Event.Comes a ∷ []) (told_by old jobs clock files) (told_by new jobs clock files)
  poll_told a h = record {
    link = record {
      begun = h.begun;
      arrived = told_one a old.arrived new.arrived h.arrived;
      sent = told_same old.sent new.sent h.sent;
      replied = told_same old.replied new.replied h.replied;
      asked = told_same old.asked new.asked h.asked;
    };
    jobs = record { started = told_none jobs.started; killed = told_none jobs.killed; reported = told_none jobs.reported };
    clock = told_none clock;
    files = told_none files;
  }

  pub send_told : (call : Sent) → Sends call old new → Tells (Event.Sends call ∷ []) (told_by old jobs clock files) (told_by new jobs clock files)
  send_told call h = record {
    link = record {
      begun = h.begun;
      arrived = told_same old.arrived new.arrived h.arrived;
      sent = told_one call old.sent new.sent h.sent;
      replied = told_same old.replied new.replied h.replied;
      asked = told_same old.asked new.asked h.asked;
    };
    jobs = record { started = told_none jobs.started; killed = told_none jobs.killed; reported = told_none jobs.reported };
    clock = told_none clock;
    files = told_none files;
  }

  pub reply_told : (call : Replied) → Replies call old new → Tells (Event.Replies call ∷ []) (told_by old jobs clock files) (told_by new jobs clock files)
  reply_told call h = record {
    link = record {
      begun = h.begun;
      arrived = told_same old.arrived new.arrived h.arrived;
      sent = told_same old.sent new.sent h.sent;
      replied = told_one call old.replied new.replied h.replied;
      asked = told_same old.asked new.asked h.asked;
    };
    jobs = record { started = told_none jobs.started; killed = told_none jobs.killed; reported = told_none jobs.reported };
    clock = told_none clock;
    files = told_none files;
  }

  pub ask_told : (call : Asked) → Asks call old new → Tells (Event.Asks call ∷ []) (told_by old jobs clock files) (told_by new jobs clock files)
  ask_told call h = record {
    link = record {
      begun = h.begun;
      arrived = told_same old.arrived new.arrived h.arrived;
      sent = told_same old.sent new.sent h.sent;
      replied = told_same old.replied new.replied h.replied;
      asked = told_one call old.asked new.asked h.asked;
    };
    jobs = record { started = told_none jobs.started; killed = told_none jobs.killed; reported = told_none jobs.reported };
    clock = told_none clock;
    files = told_none files;
  }

module _ (link : LinkCalls) (clock : Option (List ℕ)) (files : Option (List Probe)) (old new : SpawnerCalls) where
  pub start_told : (call : StartCall) → Starts call old new → Tells (Event.Starts call ∷ []) (told_by link old clock files) (told_by link new clock files)
  start_told call h = record {
    link = same_links (Event.Starts call ∷ []) refl refl refl refl link;
    jobs = record {
      started = told_one call old.started new.started h.started;
      killed = told_same old.killed new.killed h.killed;
      reported = told_same old.reported new.reported h.reported;
    };
    clock = told_none clock;
    files = told_none files;
  }

  pub kill_told : (j n : ℕ) → Kills j n old new → Tells (Event.Kills j n ∷ []) (told_by link old clock files) (told_by link new clock files)
  kill_told j n h = record {
    link = same_links (Event.Kills j n ∷ []) refl refl refl refl link;
    jobs = record {
      started = told_same old.started new.started h.started;
      killed = told_one (j, n) old.killed new.killed h.killed;
      reported = told_same old.reported new.reported h.reported;
    };
    clock = told_none clock;
    files = told_none files;
  }

  pub report_told : (answer : Result (Option End) Failed) → Reports answer old new → Tells (Event.Reports answer ∷ []) (told_by link old clock files) (told_by link new clock files)
  report_told answer h = record {
    link = same_links (Event.Reports answer ∷ []) refl refl refl refl link;
    jobs = record {
      started = told_same old.started new.started h.started;
      killed = told_same old.killed new.killed h.killed;
      reported = told_one answer old.reported new.reported h.reported;
    };
    clock = told_none clock;
    files = told_none files;
  }

pub read_told : (link : LinkCalls) (jobs : SpawnerCalls) (files : Option (List Probe)) (t : ℕ) (old new : Option (List ℕ)) → AddsOrEnds t old new
    → Tells (Event.Reads t ∷ []) (told_by link jobs old files) (told_by link jobs new files)
read_told link jobs files t old new h = record {
  link = same_links (Event.Reads t ∷ []) refl refl refl refl link;
  jobs = same_jobs (Event.Reads t ∷ []) refl refl refl jobs;
  clock = told_one t old new h;
  files = told_none files;
}

pub look_told : (link : LinkCalls) (jobs : SpawnerCalls) (clock : Option (List ℕ)) (path : List ℕ) (answer : Result Bool Failed) (old new : Option (List Probe))
    → AddsOrEnds (record { path = path; answer = answer }) old new
    → Tells (Event.Looks path answer ∷ []) (told_by link jobs clock old) (told_by link jobs clock new)
look_told link jobs clock path answer old new h = record {
  link = same_links (Event.Looks path answer ∷ []) refl refl refl refl link;
  jobs = same_jobs (Event.Looks path answer ∷ []) refl refl refl jobs;
  clock = told_none clock;
  files = told_one (record { path = path; answer = answer }) old new h;
}
