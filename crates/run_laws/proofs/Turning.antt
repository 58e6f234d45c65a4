-- What holds of the parts of a turn holds of each run.
use Rattle.std.proofs.Common.{[], ◌≡◌, ◌∷◌, ℕ, Bool, List, None, Option, Some, ap, false, subst, suc, sym, true, zero}
use Rattle.std.proofs.Common.{ℤ}
use Rattle.std.specs.Prelude.{Err, Ok, Result, is_some}
use Rattle.composer_parser.specs.declared.Defs.{Defs}
use Rattle.model.specs.Types.{Cmd, Fulfil, Input, Linked, Local, Turn, Typed, Unlinked}
use Rattle.model_laws.proofs.Lists.{each_such}
use Rattle.agent_core.specs.Nodes.{NodeState, view_in}
use Rattle.file_watch.specs.Circle.{DepPlace}
use Rattle.file_watch.specs.Probes.{next_probe}
use Rattle.node_loop.specs.Heard.{Completes, Heard, heard_more, nothing_heard}
use Rattle.mail_frames.specs.declared.frames.Frame.{Frame}
use Rattle.outside.specs.declared.Failed.{Failed}
use Rattle.outside.specs.declared.links.Arrival.{Arrival}
use Rattle.outside.specs.declared.links.Arrival.TheVariants as arrival
use Rattle.outside.specs.declared.spawners.End.{End}
use Rattle.recovery_watch.specs.Advice.{advice}
use Rattle.node_inputs.specs.Traces.{Event, Trace}
use Rattle.node_inputs.specs.declared.ends.NodeEnd.{NodeEnd}
use Rattle.node_inputs.specs.declared.ends.NodeEnd.TheVariants.{NoMemory, TurnsSpent}
use Rattle.node_inputs.specs.Actions.{Action, Nothing, Then}
use Rattle.node_inputs.specs.Inputs.{Take}
use Rattle.node_loop.specs.Frames.{Frames, input_of}
use Rattle.node_lines.specs.Lines.{Listen}
use Rattle.node_loop.specs.Runs.{Advise, Anew, Arrive, Come, Comes, EndOf, Found, Hear, Hears, Looks, On, Probing, Reports, Run, Running, TurnOf, is_live}
use Rattle.run_laws.proofs.Rules.{Gives, IsJoined, if_gives, if_there_gives, nothing_gives, plain_memory, plain_turns, rest_none, stop_gives, then_gives, wants_gives}
use Rattle.run_laws.proofs.Taking.{IsRule, take_gives}
use Rattle.run_laws.proofs.Listening.{IsHeard, frames_gives, listen_gives}

-- of the node that runs
abbrev pub Lifted : Action NodeState → Action Running
Lifted P old trace end new = P old.node trace end new.node

pub lifted_joined : (P : Action NodeState) → IsJoined P → IsJoined (Lifted P)
lifted_joined P j = record {
  rests = λ s end free. j.rests s.node end free;
  joins = λ a b c front back end h k. j.joins a.node b.node c.node front back end h k;
}

pub on_gives : (act P : Action NodeState) → Gives act P → Gives (λ o t e n. On act o t e n) (Lifted P)
on_gives act P f old trace end new h = f old.node trace end new.node h.acts

-- one event, and then the rest
pub event_then : {S : Type 0} (P : Action S) → IsJoined P → (event : Event) (old : S) (rest trace : Trace) (end : Option NodeEnd) (new : S)
    → trace ≡ event ∷ rest → P old (event ∷ []) None old → P old rest end new → P old trace end new
event_then P j event old rest trace end new split one others =
    subst (λ (t : Trace). P old t end new) (sym split) (j.joins old old new (event ∷ []) rest end one others)

-- what arrives
module _ (Q : Input → Type 0) (P : Action NodeState) (r : IsRule Q P) (heard : (input : Input) → IsHeard input → Q input)
    (brought : (x : ℕ) (f : Frame) (input : Input) → input_of x f ≡ Some input → Q input) where
  joined : IsJoined (Lifted P)
  joined = lifted_joined P r.joined

  hears_gives : (x : ℕ) (all : Heard) → Gives (Hears x all) (Lifted P)
  hears_gives x all old trace end new h =
      subst (λ (t : Trace). P old.node t end new.node) (sym h.0)
      (subst (λ (n : NodeState). P old.node [] end n) (sym (ap (λ (s : Running). s.node) h.2)) (r.joined.rests old.node end (rest_none end h.1)))

  hear_gives : (x : ℕ) (bytes : List ℕ) → Gives (Hear x bytes) (Lifted P)
  hear_gives x bytes = wants_gives (Lifted P) joined _ go
    where
      go : Gives (λ old trace end new. (frames : List Frame) × (bad : Option ℕ)
          × Completes (old.heard x) bytes frames bad
          × Then (Hears x (heard_more (old.heard x) bytes frames)) (λ o t e n. On (Frames x (is_some bad) frames) o t e n) old trace end new) (Lifted P)
      go old trace end new h =
          then_gives (Lifted P) joined (Hears x (heard_more (old.heard x) bytes h.0))
          (λ o t e n. On (Frames x (is_some h.1) h.0) o t e n)
          (hears_gives x (heard_more (old.heard x) bytes h.0))
          (on_gives (Frames x (is_some h.1) h.0) P (frames_gives Q P r heard x (is_some h.1) h.0
          (each_such (λ (f : Frame). (input : Input) → input_of x f ≡ Some input → Q input) h.0 (brought x)))) old trace end new h.3

  anew_gives : (x : ℕ) (input : Input) → IsHeard input → Gives (Anew x input) (Lifted P)
  anew_gives x input is =
      then_gives (Lifted P) joined (Hears x nothing_heard) (λ o t e n. On (Take input) o t e n) (hears_gives x nothing_heard)
      (on_gives (Take input) P (take_gives Q P r input (heard input is)))

  pub arrive_gives : (defs : Defs) (a : Arrival) → Gives (Arrive defs a) (Lifted P)
  arrive_gives defs (arrival.Bytes x bytes) = hear_gives x bytes
  arrive_gives defs (arrival.Up x) = anew_gives x (Input.Local (Linked x)) tt
  arrive_gives defs (arrival.Down x) = anew_gives x (Input.Local (Unlinked x)) tt
  arrive_gives defs (arrival.Client bytes) = on_gives (Listen defs bytes) P (listen_gives Q P r heard defs bytes)
  arrive_gives defs arrival.Nothing = nothing_gives (Lifted P) joined
  arrive_gives defs arrival.NoMemory = stop_gives (Lifted P) joined NoMemory plain_memory

  -- one arrival
  pub come_gives : ((s : NodeState) (a : Arrival) → P s (Event.Comes a ∷ []) None s) → (defs : Defs) → Gives (Come defs) (Lifted P)
  come_gives comes defs = wants_gives (Lifted P) joined _ go
    where
      go : Gives (λ old trace end new. Comes defs old trace end new) (Lifted P)
      go old trace end new h =
          event_then (Lifted P) joined (Event.Comes h.arrived) old h.rest trace end new h.split (comes old.node h.arrived)
          (arrive_gives defs h.arrived old h.rest end new h.arrives)

-- one end of a process
module _ (Q : Input → Type 0) (P : Action NodeState) (r : IsRule Q P)
    (reports : (s : NodeState) (answer : Result (Option End) Failed) → P s (Event.Reports answer ∷ []) None s)
    (job_ended : (j : ℕ) (rc : ℤ) → Q (Input.Local (Local.Ended j rc))) where
  end_gives : (answer : Result (Option End) Failed) → Gives (EndOf answer) P
  end_gives (Ok (Some e)) old trace end new h =
      if_gives P r.joined (is_live old e) (Take (Input.Local (Local.Ended e.job e.rc))) Nothing
      (take_gives Q P r (Input.Local (Local.Ended e.job e.rc)) (job_ended e.job e.rc)) (nothing_gives P r.joined) old trace end new h
  end_gives (Ok None) old trace end new h = nothing_gives P r.joined old trace end new h
  end_gives (Err failed) old trace end new h = nothing_gives P r.joined old trace end new h

  pub reports_gives : Gives (λ o t e n. Reports o t e n) P
  reports_gives old trace end new h =
      event_then P r.joined (Event.Reports h.answer) old h.rest trace end new h.split (reports old h.answer)
      (end_gives h.answer old h.rest end new h.acts)

-- what a probe finds
module _ (Q : Input → Type 0) (P : Action NodeState) (r : IsRule Q P)
    (looks : (s : NodeState) (path : List ℕ) (answer : Result Bool Failed) → P s (Event.Looks path answer ∷ []) None s) where
  pub found_gives : (place : DepPlace) → Q (Input.Local (Fulfil place.0 place.1)) → (answer : Result Bool Failed) → Gives (Found place answer) P
  found_gives place q (Ok true) = take_gives Q P r (Input.Local (Fulfil place.0 place.1)) q
  found_gives place q (Ok false) = nothing_gives P r.joined
  found_gives place q (Err failed) = nothing_gives P r.joined

  pub probing_gives : ((place : DepPlace) → Q (Input.Local (Fulfil place.0 place.1))) → Gives Probing (Lifted P)
  probing_gives told old trace end new h =
      if_there_gives (Lifted P) (lifted_joined P r.joined) (next_probe (view_in old.node) old.node.me old.asked)
      (λ (place : DepPlace). λ o t e n. Looks place o t e n) Nothing looking (nothing_gives (Lifted P) (lifted_joined P r.joined)) old trace end new h
    where
      looking : (place : DepPlace) → Gives (λ o t e n. Looks place o t e n) (Lifted P)
      looking place o t e n k =
          event_then (Lifted P) (lifted_joined P r.joined) (Event.Looks k.path k.answer) o k.rest t e n k.split
          (looks o.node k.path k.answer) (found_gives place (told place) k.answer o.node k.rest e n.node k.acts.acts)

-- the advice
pub advise_gives : (Q : Input → Type 0) (P : Action NodeState) → IsRule Q P → ((to : ℕ) (c : Cmd) → Q (Input.Local (Typed to c)))
    → Gives Advise P
advise_gives Q P r typed old trace end new h =
    if_there_gives P r.joined (advice (view_in old) old.me) (λ (c : Cmd). Take (Input.Local (Typed old.me c))) Nothing
    (λ c. take_gives Q P r (Input.Local (Typed old.me c)) (typed old.me c)) (nothing_gives P r.joined) old trace end new h

-- what holds of each part of a turn holds of a turn, and of a run
module _ (P : Action Running) (j : IsJoined P) (defs : Defs) where
  abbrev pub Behind : Action Running
  Behind old trace end new = (reading : ℕ) ×
      Then (λ o t e n. On (λ a b c d. Reports a b c d) o t e n)
      (Then Probing (Then (λ o t e n. On Advise o t e n) (λ o t e n. On (Take (Input.Local (Turn reading))) o t e n))) old trace end new

  pub behind_gives : Gives (λ o t e n. On (λ a b c d. Reports a b c d) o t e n) P → Gives Probing P
      → Gives (λ o t e n. On Advise o t e n) P → ((t : ℕ) → Gives (λ o x e n. On (Take (Input.Local (Turn t))) o x e n) P)
      → Gives Behind P
  behind_gives reports probing advise turn old trace end new h =
      then_gives P j _ _ reports
      (then_gives P j _ _ probing (then_gives P j _ _ advise (turn h.0))) old trace end new h.1

  pub turn_gives : ((s : Running) (t : ℕ) → P s (Event.Reads t ∷ []) None s) → Gives (Come defs) P → Gives Behind P
      → Gives (λ o t e n. TurnOf defs o t e n) P
  turn_gives reads come behind old trace end new h =
      event_then P j (Event.Reads h.reading) old h.rest trace end new h.split (reads old h.reading)
      (then_gives P j (Come defs) _ come (λ o t e n k. behind o t e n (h.reading, k)) old h.rest end new h.acts)

  pub run_gives : Gives (λ o t e n. TurnOf defs o t e n) P → (turns : ℕ) → Gives (Run defs turns) P
  run_gives turn zero = stop_gives P j TurnsSpent plain_turns
  run_gives turn (suc turns) = then_gives P j (λ o t e n. TurnOf defs o t e n) (Run defs turns) turn (run_gives turn turns)

-- a law of all steps and of all events holds of each run
pub record HoldsOfAll (P : Action NodeState) : Type 0 where
  pub rule : IsRule (λ i. Unit {0}) P
  pub reads : (s : NodeState) (t : ℕ) → P s (Event.Reads t ∷ []) None s
  pub comes : (s : NodeState) (a : Arrival) → P s (Event.Comes a ∷ []) None s
  pub reports : (s : NodeState) (answer : Result (Option End) Failed) → P s (Event.Reports answer ∷ []) None s
  pub looks : (s : NodeState) (path : List ℕ) (answer : Result Bool Failed) → P s (Event.Looks path answer ∷ []) None s

pub every_run_gives : (P : Action NodeState) → HoldsOfAll P → (defs : Defs) (turns : ℕ) → Gives (Run defs turns) (Lifted P)
every_run_gives P r defs turns =
    run_gives (Lifted P) j defs
    (turn_gives (Lifted P) j defs (λ s t. r.reads s.node t)
    (come_gives (λ i. Unit {0}) P r.rule (λ i is. tt) (λ x f i is. tt) r.comes defs)
    (behind_gives (Lifted P) j defs
    (on_gives _ P (reports_gives (λ i. Unit {0}) P r.rule r.reports (λ k rc. tt)))
    (probing_gives (λ i. Unit {0}) P r.rule r.looks (λ place. tt))
    (on_gives Advise P (advise_gives (λ i. Unit {0}) P r.rule (λ to c. tt)))
    (λ t. on_gives (Take (Input.Local (Turn t))) P (take_gives (λ i. Unit {0}) P r.rule (Input.Local (Turn t)) tt)))) turns
  where
    j : IsJoined (Lifted P)
    j = lifted_joined P r.rule.joined
