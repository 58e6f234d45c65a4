-- Each run is a story.
use Rattle.std.proofs.Common.{[], ◌++◌, ◌≡◌, ◌≢◌, ◌∙◌, ◌∷◌, ◌⊎◌, ℕ, List, None, Option, Some, ap, append_assoc, false, inl, inr, refl, subst, sym, true}
use Rattle.std.specs.Prelude.{if◌then◌else◌, ◌==◌, Err, Ok, Result, is_some, option_map}
use Rattle.std.proofs.lemmas.Bool.Decides.{eqb_tells}
use Rattle.std.proofs.lemmas.List.{append-nil}
use Rattle.std.proofs.lemmas.List.Sums.{fold-append}
use Rattle.std.specs.List.{AllByRecursion}
use Rattle.composer_parser.specs.declared.Defs.{Defs}
use Rattle.model.specs.Types.{Entry, Input, Linked, Local, Out, Turn, Unlinked}
use Rattle.model.specs.Words.{with_at}
use Rattle.outside.specs.declared.links.Arrival.{Arrival}
use Rattle.outside.specs.declared.links.Arrival.TheVariants as arrival
use Rattle.entry_codec.specs.Entries.{entry_in}
use Rattle.entry_codec.specs.declared.EntryFault.{EntryFault}
use Rattle.mail_frames.specs.declared.frames.Frame.{Frame}
use Rattle.mail_frames.specs.declared.frames.Frame.TheVariants as frame
use Rattle.mail_frames.specs.Streams.{AreFramesOf}
use Rattle.agent_core.specs.Nodes.{NodeState, view_in}
use Rattle.file_watch.specs.Circle.{DepPlace}
use Rattle.file_watch.specs.Probes.{next_probe}
use Rattle.node_inputs.specs.Traces.{Event, Trace}
use Rattle.node_inputs.specs.declared.ends.NodeEnd.{NodeEnd}
use Rattle.node_inputs.specs.declared.ends.NodeEnd.TheVariants.{NoMemory}
use Rattle.node_inputs.specs.Actions.{Action, Nothing, Stop, Then}
use Rattle.node_inputs.specs.Inputs.{Take}
use Rattle.node_lines.specs.Lines.{Listen}
use Rattle.node_loop.specs.Heard.{Heard, heard_more, nothing_heard}
use Rattle.node_loop.specs.Frames.{Frames, entry_of, input_of}
use Rattle.node_loop.specs.Runs.{Advise, Anew, Arrive, Come, Comes, Found, Hear, Hears, Looks, On, Probing, Reports, Run, Running, running_with}
use Rattle.run_laws.proofs.Rules.{Gives, IsJoined, if_there_gives, nothing_gives, wants_gives}
use Rattle.run_laws.proofs.Taking.{take_gives}
use Rattle.run_laws.proofs.Listening.{IsHeard, frames_gives, listen_gives}
use Rattle.run_laws.proofs.Turning.{advise_gives, behind_gives, event_then, found_gives, reports_gives, run_gives, turn_gives}
use Rattle.network_runs.specs.Happenings.{heard_from, heard_with}
use Rattle.network_runs.specs.Nights.{StandsIn}
use Rattle.network_runs.proofs.Counting.{together}
use Rattle.network_runs.proofs.Members.{IsIn, contains_of, in_right}
use Rattle.network_runs.proofs.Stories.{CameBy, IsMinor, Story, joined}
use Rattle.network_runs.proofs.Telling.{IsNoArrival, TellsIt, heard_stays, one_output, rule}

-- what was heard is what came since
abbrev pub Knows : Running → Trace → Type 0
Knows s past = (x : ℕ) → heard_from x past ≡ (s.heard x).bytes

abbrev pub bytes_in : Running → ℕ → List ℕ
bytes_in s x = (s.heard x).bytes

pub record TellsRun (old : Running) (trace : Trace) (end : Option NodeEnd) (new : Running) : Type 0 where
  pub story : (past : Trace) → Knows old past → (outs : List Out) → Story past old.node outs trace end new.node
  pub knows : (past : Trace) → Knows old past → end ≡ None → Knows new (past ++ trace)

nothing_more : (s : Running) (past : Trace) → Knows s past → Knows s (past ++ [])
nothing_more s past k = subst (λ (t : Trace). Knows s t) (sym (append-nil past)) k

pub run_joined : IsJoined (λ o t e n. TellsRun o t e n)
run_joined = record {
  rests = λ s end free. record {
    story = λ past k outs. Story.rests past s.node outs [] end s.node refl refl;
    knows = λ past k goes. nothing_more s past k;
  };
  joins = λ a b c front back end h k. record {
    story = λ past knows outs.
        joined past a.node outs front b.node None back end c.node refl (h.story past knows outs)
        (k.story (past ++ front) (h.knows past knows refl));
    knows = λ past knows goes.
        subst (λ (t : Trace). Knows c t) (append_assoc past front back) (k.knows (past ++ front) (h.knows past knows refl) goes);
  };
}

-- of the node alone
on_tells : (act : Action NodeState) (s : Running) → Gives act (λ o t e n. TellsIt (bytes_in s) o t e n)
    → (trace : Trace) (end : Option NodeEnd) (new : Running) → On act s trace end new → TellsRun s trace end new
on_tells act s f trace end new h =
    let told : TellsIt (bytes_in s) s.node trace end new.node = f s.node trace end new.node h.acts in
    record {
      story = λ past k outs. told.story past k outs;
      knows = λ past k goes x.
          heard_stays x past trace told.deaf ∙ k x ∙ ap (λ (g : ℕ → Heard). (g x).bytes) (sym h.heard_);
    }

on_gives : (act : Action NodeState) → ((heard : ℕ → List ℕ) → Gives act (λ o t e n. TellsIt heard o t e n))
    → Gives (λ o t e n. On act o t e n) (λ o t e n. TellsRun o t e n)
on_gives act f old trace end new h = on_tells act old (f (bytes_in old)) trace end new h

one_event : (s : Running) (event : Event) → ((outs : List Out) → IsMinor s.node outs event) → IsNoArrival event
    → TellsRun s (event ∷ []) None s
one_event s event minor silent =
    let told : TellsIt (bytes_in s) s.node (event ∷ []) None s.node = one_output (bytes_in s) s.node event minor silent in
    record {
      story = λ past k outs. told.story past k outs;
      knows = λ past k goes x. heard_stays x past (event ∷ []) (silent, tt) ∙ k x;
    }

-- what follows an arrival, where this is known behind it
arrival_then : (a : Arrival) (old middle : Running) (rest : Trace) (end : Option NodeEnd) (new : Running)
    → middle.node ≡ old.node → ((past : Trace) → Knows old past → Knows middle (past ++ Event.Comes a ∷ []))
    → TellsRun middle rest end new → TellsRun old (Event.Comes a ∷ rest) end new
arrival_then a old middle rest end new same k told = record {
  story = λ past knows outs.
      Story.passes past old.node outs (Event.Comes a ∷ rest) end new.node (Event.Comes a) rest refl tt
      (subst (λ (n : NodeState). Story (past ++ Event.Comes a ∷ []) n outs rest end new.node) same
      (told.story (past ++ Event.Comes a ∷ []) (k past knows) outs));
  knows = λ past knows goes.
      subst (λ (t : Trace). Knows new t) (append_assoc past (Event.Comes a ∷ []) rest)
      (told.knows (past ++ Event.Comes a ∷ []) (k past knows) goes);
}

-- what is heard with an arrival
heard_next : (x : ℕ) (past : Trace) (a : Arrival) → heard_from x (past ++ Event.Comes a ∷ []) ≡ heard_with x (heard_from x past) (Event.Comes a)
heard_next x past a = fold-append (heard_with x) [] past (Event.Comes a ∷ [])

-- what was heard of one workstation becomes this, and then the node acts
hears_then : (x : ℕ) (all : Heard) (act : Action NodeState) (a : Arrival) (old : Running)
    → Gives act (λ o t e n. TellsIt (bytes_in (running_with old.node (with_at x all old.heard) old.asked)) o t e n)
    → ((past : Trace) → Knows old past → Knows (running_with old.node (with_at x all old.heard) old.asked) (past ++ Event.Comes a ∷ []))
    → (rest : Trace) (end : Option NodeEnd) (new : Running) → Then (Hears x all) (λ o t e n. On act o t e n) old rest end new
    → TellsRun old (Event.Comes a ∷ rest) end new
hears_then x all act a old f k rest end new (inl b) =
    let middle : Running = running_with old.node (with_at x all old.heard) old.asked in
    let acts : On act middle b.back end new = subst (λ (s : Running). On act s b.back end new) b.begins.2 b.goes_on in
    arrival_then a old middle rest end new refl k
    (subst (λ (t : Trace). TellsRun middle t end new) (sym (b.split ∙ ap (λ (t : Trace). t ++ b.back) b.begins.0))
    (on_tells act middle f b.back end new acts))
hears_then x all act a old f k rest end new (inr e) = absurd (clash e.ends.1)
  where
    clash : Some e.why ≡ None → ⊥
    clash q = cc

-- a frame that came is an input that came
frame_came : (x : ℕ) (heard : ℕ → List ℕ) (f : Frame) → StandsIn (heard x) f → (i : Input) → input_of x f ≡ Some i → CameBy heard i
frame_came x heard (frame.Mail bytes) stands i is = go (entry_in bytes) refl is
  where
    go : (read : Result Entry EntryFault) → entry_in bytes ≡ read
        → option_map (λ (e : Entry). Input.Mail x e) (entry_of read) ≡ Some i → CameBy heard i
    go (Ok e) its same = subst (CameBy heard) (input_is same) (bytes, stands, its)
      where
        input_is : Some (Input.Mail x e) ≡ Some i → Input.Mail x e ≡ i
        input_is q = cc
    go (Err fault) its same = cc
frame_came x heard (frame.Ack f n) stands i is = subst (CameBy heard) (input_is is) stands
  where
    input_is : Some (Input.Ack x f n) ≡ Some i → Input.Ack x f n ≡ i
    input_is q = cc
frame_came x heard (frame.Command text) stands i is = cc
frame_came x heard (frame.Reply text) stands i is = cc

frames_came : (x : ℕ) (heard : ℕ → List ℕ) (all frames : List Frame) → AreFramesOf (heard x) all
    → ((f : Frame) → IsIn f frames → IsIn f all)
    → AllByRecursion (λ (f : Frame). (i : Input) → input_of x f ≡ Some i → CameBy heard i) frames
frames_came x heard all [] are within = tt
frames_came x heard all (f ∷ frames) are within = (
  λ i is. frame_came x heard f (record { frames = all; are = are; among = contains_of f all (within f (inl refl)) }) i is,
  frames_came x heard all frames are (λ g h. within g (inr h)),
)

heard_local : (heard : ℕ → List ℕ) (input : Input) → IsHeard input → CameBy heard input
heard_local heard (Input.Local l) h = tt
heard_local heard (Input.Mail x e) h = absurd h
heard_local heard (Input.Ack x f n) h = absurd h

-- the run ends behind an arrival
ends_there : (a : Arrival) (old : Running) (rest : Trace) (end : Option NodeEnd) (new : Running) (why : NodeEnd)
    → Stop why old rest end new → TellsRun old (Event.Comes a ∷ rest) end new
ends_there a old rest end new why h = record {
  story = λ past k outs.
      Story.passes past old.node outs (Event.Comes a ∷ rest) end new.node (Event.Comes a) rest refl tt
      (Story.rests (past ++ Event.Comes a ∷ []) old.node outs rest end new.node h.0 (ap (λ (s : Running). s.node) h.2));
  knows = λ past k goes. absurd (clash (sym goes ∙ h.1));
}
  where
    clash : None ≡ Some why → ⊥
    clash q = cc

-- bytes of a workstation
hear_tells : (x : ℕ) (bytes : List ℕ) (old : Running) (rest : Trace) (end : Option NodeEnd) (new : Running)
    → Hear x bytes old rest end new → TellsRun old (Event.Comes (arrival.Bytes x bytes) ∷ rest) end new
hear_tells x bytes old rest end new (inr h) = ends_there (arrival.Bytes x bytes) old rest end new NoMemory h
hear_tells x bytes old rest end new (inl h) =
    hears_then x all (Frames x (is_some h.1) h.0) (arrival.Bytes x bytes) old
    (frames_gives (CameBy H) (λ o t e n. TellsIt H o t e n) (rule H) (heard_local H) x (is_some h.1) h.0
    (frames_came x H ((old.heard x).frames ++ h.0) h.0
    (subst (λ (b : List ℕ). AreFramesOf b ((old.heard x).frames ++ h.0)) (sym (ap (λ (g : Heard). g.bytes) (together x all (old.heard x)))) h.2.whole)
    (λ f k. in_right f (old.heard x).frames h.0 k)))
    (λ past knows y. heard_next y past (arrival.Bytes x bytes) ∙ at past knows y (eqb_tells y x)) rest end new h.3
  where
    all : Heard
    all = heard_more (old.heard x) bytes h.0

    H : ℕ → List ℕ
    H = bytes_in (running_with old.node (with_at x all old.heard) old.asked)

    at : (past : Trace) → Knows old past → (y : ℕ) → ((y == x) ≡ true) × (y ≡ x) ⊎ ((y == x) ≡ false) × (y ≢ x)
        → heard_with y (heard_from y past) (Event.Comes (arrival.Bytes x bytes)) ≡ (with_at x all old.heard y).bytes
    at past knows y (inl t) =
        rw t.0 (ap (λ (l : List ℕ). l ++ bytes) (knows y ∙ ap (λ (z : ℕ). (old.heard z).bytes) t.1))
    at past knows y (inr t) = rw t.0 (knows y)

-- a link begins or ends
anew_tells : (a : Arrival) (x : ℕ) (l : Local) (old : Running) (rest : Trace) (end : Option NodeEnd) (new : Running)
    → ((y : ℕ) (so_far : List ℕ) → heard_with y so_far (Event.Comes a) ≡ (if y == x then [] else so_far))
    → Anew x (Input.Local l) old rest end new → TellsRun old (Event.Comes a ∷ rest) end new
anew_tells a x l old rest end new resets h =
    hears_then x nothing_heard (Take (Input.Local l)) a old
    (take_gives (CameBy H) (λ o t e n. TellsIt H o t e n) (rule H) (Input.Local l) tt)
    (λ past knows y. heard_next y past a ∙ resets y (heard_from y past) ∙ at past knows y (eqb_tells y x)) rest end new h
  where
    H : ℕ → List ℕ
    H = bytes_in (running_with old.node (with_at x nothing_heard old.heard) old.asked)

    at : (past : Trace) → Knows old past → (y : ℕ) → ((y == x) ≡ true) × (y ≡ x) ⊎ ((y == x) ≡ false) × (y ≢ x)
        → (if y == x then [] else heard_from y past) ≡ (with_at x nothing_heard old.heard y).bytes
    at past knows y (inl t) = rw t.0 refl
    at past knows y (inr t) = rw t.0 (knows y)

-- what comes over no link of a workstation
same_heard : (a : Arrival) (old : Running) (rest : Trace) (end : Option NodeEnd) (new : Running)
    → ((y : ℕ) (so_far : List ℕ) → heard_with y so_far (Event.Comes a) ≡ so_far) → TellsRun old rest end new
    → TellsRun old (Event.Comes a ∷ rest) end new
same_heard a old rest end new same told =
    arrival_then a old old rest end new refl
    (λ past knows y. heard_next y past a ∙ same y (heard_from y past) ∙ knows y) told

arrive_tells : (defs : Defs) (a : Arrival) (old : Running) (rest : Trace) (end : Option NodeEnd) (new : Running)
    → Arrive defs a old rest end new → TellsRun old (Event.Comes a ∷ rest) end new
arrive_tells defs (arrival.Bytes x bytes) old rest end new h = hear_tells x bytes old rest end new h
arrive_tells defs (arrival.Up x) old rest end new h =
    anew_tells (arrival.Up x) x (Linked x) old rest end new (λ y so_far. refl) h
arrive_tells defs (arrival.Down x) old rest end new h =
    anew_tells (arrival.Down x) x (Unlinked x) old rest end new (λ y so_far. refl) h
arrive_tells defs (arrival.Client bytes) old rest end new h =
    same_heard (arrival.Client bytes) old rest end new (λ y so_far. refl)
    (on_gives (Listen defs bytes)
    (λ heard. listen_gives (CameBy heard) (λ o t e n. TellsIt heard o t e n) (rule heard) (heard_local heard) defs bytes)
    old rest end new h)
arrive_tells defs arrival.Nothing old rest end new h =
    same_heard arrival.Nothing old rest end new (λ y so_far. refl)
    (nothing_gives (λ o t e n. TellsRun o t e n) run_joined old rest end new h)
arrive_tells defs arrival.NoMemory old rest end new h = ends_there arrival.NoMemory old rest end new NoMemory h

come_tells : (defs : Defs) → Gives (Come defs) (λ o t e n. TellsRun o t e n)
come_tells defs =
    wants_gives (λ o t e n. TellsRun o t e n) run_joined (λ o t e n. Comes defs o t e n) one
  where
    one : Gives (λ o t e n. Comes defs o t e n) (λ o t e n. TellsRun o t e n)
    one old trace end new h =
        subst (λ (t : Trace). TellsRun old t end new) (sym h.split) (arrive_tells defs h.arrived old h.rest end new h.arrives)

local_end : (heard : ℕ → List ℕ) → Gives (λ o t e n. Reports o t e n) (λ o t e n. TellsIt heard o t e n)
local_end heard =
    reports_gives (CameBy heard) (λ o t e n. TellsIt heard o t e n) (rule heard)
    (λ s answer. one_output heard s (Event.Reports answer) (λ outs. tt) tt) (λ j rc. tt)

-- a probe changes which file was asked for last, and nothing else of the run
probing_tells : Gives Probing (λ o t e n. TellsRun o t e n)
probing_tells old trace end new h =
    if_there_gives (λ o t e n. TellsRun o t e n) run_joined (next_probe (view_in old.node) old.node.me old.asked)
    (λ (place : DepPlace). λ o t e n. Looks place o t e n) Nothing looking
    (nothing_gives (λ o t e n. TellsRun o t e n) run_joined) old trace end new h
  where
    looked : (place : DepPlace) (o : Running) (rest : Trace) (e : Option NodeEnd) (n : Running)
        → TellsRun (running_with o.node o.heard (Some place)) rest e n → TellsRun o rest e n
    looked place o rest e n k = record { story = k.story; knows = k.knows }

    looking : (place : DepPlace) → Gives (λ o t e n. Looks place o t e n) (λ o t e n. TellsRun o t e n)
    looking place o t e n k =
        event_then (λ o t e n. TellsRun o t e n) run_joined (Event.Looks k.path k.answer) o k.rest t e n k.split
        (one_event o (Event.Looks k.path k.answer) (λ outs. tt) tt)
        (looked place o k.rest e n
        (on_gives (Found place k.answer)
        (λ heard. found_gives (CameBy heard) (λ o t e n. TellsIt heard o t e n) (rule heard)
        (λ s path answer. one_output heard s (Event.Looks path answer) (λ outs. tt) tt) place tt k.answer)
        (running_with o.node o.heard (Some place)) k.rest e n k.acts))

-- each run is a story
pub run_tells : (defs : Defs) (turns : ℕ) → Gives (Run defs turns) (λ o t e n. TellsRun o t e n)
run_tells defs turns =
    run_gives P run_joined defs
    (turn_gives P run_joined defs (λ s t. one_event s (Event.Reads t) (λ outs. tt) tt) (come_tells defs)
    (behind_gives P run_joined defs (on_gives (λ o t e n. Reports o t e n) local_end) probing_tells
    (on_gives Advise (λ heard. advise_gives (CameBy heard) (λ o t e n. TellsIt heard o t e n) (rule heard) (λ to c. tt)))
    (λ t. on_gives (Take (Input.Local (Turn t)))
    (λ heard. take_gives (CameBy heard) (λ o t e n. TellsIt heard o t e n) (rule heard) (Input.Local (Turn t)) tt)))) turns
  where
    P : Action Running
    P = λ o t e n. TellsRun o t e n
