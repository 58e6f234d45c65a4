-- A step gives out the launch that it kept, and nothing else starts a job.
use Rattle.std.proofs.Common.{[], ◌+◌, ◌++◌, ◌≡◌, ◌∙◌, ◌∷◌, ℕ, Bool, List, None, Option, Some, ap, false, map, refl, subst, sym, true}
use Rattle.std.proofs.lemmas.Bool.{eq-eqb, eqb-true}
use Rattle.std.proofs.lemmas.List.{append-nil}
use Rattle.std.proofs.lemmas.List.Elements.{filter_map-append}
use Rattle.std.specs.Bool.{then_some}
use Rattle.std.specs.List.{AllByRecursion}
use Rattle.std.specs.Option.{option_map_or, option_to_list}
use Rattle.std.specs.Prelude.{IfSome, ◌&&◌, ◌==◌, filter, filter_map, flat_map, if◌then◌else◌, not, option_map, length}
use Rattle.lemmas.proofs.Lists.{all_append, one_filtered}
use Rattle.model.specs.Types.{Body, Cmd, Ended, Entry, Events, Failed, Feed, Fulfil, Fulfilled, Input, Kill, Launch, Linked, LiveJob, Local, Mail, Net}
use Rattle.model.specs.Types.{Next, Obeyed, Orders, Out, Send, StartFailed, Started, Turn, Typed, Unlinked}
use Rattle.model.specs.Types.{Packet}
use Rattle.model.specs.Words.{below}
use Rattle.model.specs.Equalities.{feed_eq}
use Rattle.model.specs.History.{View, maker, view_with}
use Rattle.model.specs.Catalogue.{StreamJob, job}
use Rattle.model.specs.Facts.{answered, launches, open_launch}
use Rattle.model.specs.Forwarding.{to_send}
use Rattle.model.specs.Network.{are_neighbours, node_count}
use Rattle.model.specs.NewEntry.{accepts, ends_well, event_of, makes, next_entry, own_entry}
use Rattle.model.specs.NewPlan.{plan_of}
use Rattle.model.specs.PresentNet.{present_net}
use Rattle.model.specs.Readiness.{is_ready, is_ready_in}
use Rattle.model.specs.Sessions.{Session}
use Rattle.model.specs.Step.{Effect, effect, outs_of, outs_of_body, sends}
use Rattle.model.specs.Turn.{turn_body}
use Rattle.model_laws.proofs.Growth.{Grows, job_grows}
use Rattle.model_laws.proofs.Turns.{TurnGives, Writes, own_writes, turn_gives}
use Rattle.agent_core.specs.Nodes.{NodeState, session_in, view_in}
use Rattle.agent_core.specs.Steps.{IsTaken, effect_in}
use Rattle.agent_core.specs.declared.faults.Step.{Step}
use Rattle.run_laws.specs.Launches.{launch_in, launch_of}
use Rattle.run_laws.proofs.Given.{IsNoLaunch, LaunchesFirst, launch_out, no_launch_out}
use Rattle.run_laws.proofs.Taking.{IsEffect, its_effect}

-- what is kept, and what is given out, are of one launch or of none
pub record AreLaunches (me : ℕ) (made : Option Entry) (outs : List Out) : Type 0 where
  pub first : LaunchesFirst outs
  pub same : filter_map launch_out outs ≡ filter_map (launch_of me) (option_to_list made)

-- the sends of a turn start nothing
mails_start_none : (m : ℕ) (ps : List (Feed × ℕ)) → AllByRecursion IsNoLaunch (map (λ (p : Feed × ℕ). Send m (Mail p.0 p.1)) ps)
mails_start_none m [] = tt
mails_start_none m (p ∷ ps) = (tt, mails_start_none m ps)

all_start_none : (f : ℕ → List (Feed × ℕ)) (ms : List ℕ)
    → AllByRecursion IsNoLaunch (flat_map (λ m. map (λ (p : Feed × ℕ). Send m (Mail p.0 p.1)) (f m)) ms)
all_start_none f [] = tt
all_start_none f (m ∷ ms) =
    all_append IsNoLaunch (map (λ (p : Feed × ℕ). Send m (Mail p.0 p.1)) (f m)) _ (mails_start_none m (f m)) (all_start_none f ms)

sends_start_none : (net : Net) (me : ℕ) (V : View) (s : Session) → AllByRecursion IsNoLaunch (sends net me V s)
unfolding sends
sends_start_none net me V s =
    all_start_none (λ m. to_send net V me m (s.acked m))
    (filter (λ m. are_neighbours net me m && s.links m) (below (node_count net)))

-- a launch or a kill, and then what starts nothing
abbrev IsNoSend : Out → Type 0
IsNoSend (Launch j n work) = Unit {0}
IsNoSend (Out.Kill j n) = Unit {0}
IsNoSend (Send x p) = ⊥

none_first : (outs : List Out) → AllByRecursion IsNoLaunch outs → LaunchesFirst outs
none_first [] h = tt
none_first (Launch j n work ∷ outs) h = absurd h.0
none_first (Out.Kill j n ∷ outs) h = none_first outs h.1
none_first (Send x p ∷ outs) h = h.1

first_append : (heads tails : List Out) → AllByRecursion IsNoSend heads → AllByRecursion IsNoLaunch tails
    → LaunchesFirst (heads ++ tails)
first_append [] tails h k = none_first tails k
first_append (Launch j n work ∷ heads) tails h k = first_append heads tails h.1 k
first_append (Out.Kill j n ∷ heads) tails h k = first_append heads tails h.1 k
first_append (Send x p ∷ heads) tails h k = absurd h.0

-- a ready job is in the catalogue, and it stays there
job_is_there : (net : Net) (V : View) (w j : ℕ) → is_ready net V w j ≡ true → (p : StreamJob) × (job V j ≡ Some p)
unfolding is_ready
job_is_there net V w j h = go (job V j) refl h
  where
    go : (o : Option StreamJob) → job V j ≡ o → option_map_or (is_ready_in net V w) o false ≡ true
        → (p : StreamJob) × (job V j ≡ Some p)
    go None e k = cc
    go (Some p) e k = (p, e)

one_more_grows : (V : View) (e : Entry) → Grows V (view_with V (Some e))
unfolding view_with
one_more_grows V e = go (feed_eq e.feed (Events 0)) refl
  where
    go : (b : Bool) → feed_eq e.feed (Events 0) ≡ b → Grows V (view_with V (Some e))
    go true same = record { rest = e.body ∷ []; more = rw same refl }
    go false same = record { rest = []; more = rw same (sym (append-nil (V (Events 0)))) }

-- what the body of a turn gives out before the sends
record HeadsAre (me : ℕ) (b : Body) (heads : List Out) : Type 0 where
  no_send : AllByRecursion IsNoSend heads
  same : filter_map launch_out heads ≡ option_to_list (launch_in b)

kill_heads : (me j : ℕ) (b : Body) → launch_in b ≡ None → (o : Option ℕ)
    → HeadsAre me b (option_map_or (λ n. Out.Kill j n ∷ []) o [])
kill_heads me j b none None = record { no_send = tt; same = rw none refl }
kill_heads me j b none (Some n) = record { no_send = (tt, tt); same = rw none refl }

obeyed_heads : (me : ℕ) (V : View) (a k : ℕ) (c : Cmd) → HeadsAre me (Obeyed a k c) (outs_of_body me V (Obeyed a k c))
unfolding outs_of_body
obeyed_heads me V a k (Kill j) = kill_heads me j (Obeyed a k (Kill j)) refl (open_launch j (V (Events me)))
obeyed_heads me V a k c = record { no_send = tt; same = refl }

launch_heads : (me j n : ℕ) (b : Body) (o : Option StreamJob) (p : StreamJob) → launch_in b ≡ Some (j, n) → o ≡ Some p
    → HeadsAre me b (option_map_or (λ (q : StreamJob). Launch j n q.doc.work ∷ []) o [])
launch_heads me j n b o p is there = rw there (record { no_send = (tt, tt); same = rw is refl })

body_heads : (net : Net) (V : View) (me : ℕ) (live : List LiveJob) (t : ℕ) (b : Body) → TurnGives net V me live t b
    → HeadsAre me b (outs_of_body me (view_with V (Some (next_entry V (Events me) b))) b)
unfolding outs_of_body
body_heads net V me live t b (TurnGives.clocked h) = record { no_send = tt; same = refl }
body_heads net V me live t b (TurnGives.lost j n h dead) = record { no_send = tt; same = refl }
body_heads net V me live t b (TurnGives.declined a c why h) = record { no_send = tt; same = refl }
body_heads net V me live t b (TurnGives.added a draft h v) = record { no_send = tt; same = refl }
body_heads net V me live t b (TurnGives.obeyed a c h) = obeyed_heads me (view_with V (Some (next_entry V (Events me) b))) a (1 + answered a (V (Events me))) c
body_heads net V me live t b (TurnGives.until o p u m h k) = record { no_send = tt; same = refl }
body_heads net V me live t b (TurnGives.late o p m h) = record { no_send = tt; same = refl }
body_heads net V me live t b (TurnGives.released s h) = record { no_send = tt; same = refl }
body_heads net V me live t b (TurnGives.ended s h) = record { no_send = tt; same = refl }
body_heads net V me live t b (TurnGives.launched j h) =
    let there : (p : StreamJob) × (job V j ≡ Some p) = job_is_there net V me j h in
    let later : View = view_with V (Some (next_entry V (Events me) b)) in
    launch_heads me j (1 + launches j (V (Events me))) b (job later j) there.0 refl
    (job_grows V later j there.0 (one_more_grows V (next_entry V (Events me) b)) there.1)

-- an entry of the node's own events
own_launch : (V : View) (me : ℕ) (b : Body) → launch_of me (next_entry V (Events me) b) ≡ launch_in b
own_launch V me b = rw (eq-eqb me me refl) refl

turn_launches : (net u : Net) (V : View) (me : ℕ) (s r : Session) (t : ℕ) (b : Option Body)
    → IfSome b (TurnGives net V me s.live t)
    → AreLaunches me (option_map (next_entry V (Events me)) b)
    (option_map_or (λ (e : Entry). outs_of_body me (view_with V (option_map (next_entry V (Events me)) b)) e.body)
    (option_map (next_entry V (Events me)) b) [] ++ sends u me (view_with V (option_map (next_entry V (Events me)) b)) r)
turn_launches net u V me s r t None h = record {
  first = none_first _ (sends_start_none u me (view_with V None) r);
  same = no_launch_out _ (sends_start_none u me (view_with V None) r);
}
turn_launches net u V me s r t (Some b) h =
    let later : View = view_with V (Some (next_entry V (Events me) b)) in
    let heads : HeadsAre me b (outs_of_body me later b) = body_heads net V me s.live t b h in
    let none : AllByRecursion IsNoLaunch (sends u me later r) = sends_start_none u me later r in
    record {
      first = first_append (outs_of_body me later b) (sends u me later r) heads.no_send none;
      same =
          filter_map-append launch_out (outs_of_body me later b) (sends u me later r)
          ∙ ap (λ (l : List (ℕ × ℕ)). filter_map launch_out (outs_of_body me later b) ++ l) (no_launch_out _ none)
          ∙ append-nil (filter_map launch_out (outs_of_body me later b))
          ∙ heads.same
          ∙ ap option_to_list (sym (own_launch V me b))
          ∙ sym (one_filtered (launch_of me) (next_entry V (Events me) b));
    }

-- what is not a turn keeps no launch
quiet_kept : (me : ℕ) (made : Option Entry) → IfSome made (λ (e : Entry). launch_of me e ≡ None) → AreLaunches me made []
quiet_kept me None h = record { first = tt; same = refl }
quiet_kept me (Some e) h = record { first = tt; same = sym (one_filtered (launch_of me) e ∙ ap option_to_list h) }

abbrev IsNoTurn : Local → Type 0
IsNoTurn (Turn t) = ⊥
IsNoTurn _ = Unit {0}

written_launch : (net : Net) (V : View) (me : ℕ) (s : Session) (l : Local) (e : Entry) → IsNoTurn l → Writes net V me s l e
    → launch_of me e ≡ None
unfolding plan_of
written_launch net V me s l e h (Writes.typed to c) = refl
written_launch net V me s l e h (Writes.turned t b k) = absurd h
written_launch net V me s l e h (Writes.started j live k) = own_launch V me (Started j live.number)
written_launch net V me s l e h (Writes.failed j live k) = own_launch V me (Failed j live.number)
written_launch net V me s l e h (Writes.ended j rc live k) = own_launch V me (Ended j live.number rc (ends_well V j rc))
written_launch net V me s l e h (Writes.fulfilled o i) = own_launch V me (Fulfilled o i)
written_launch net V me s l e h (Writes.planned drafts) = own_launch V me (plan_of net V drafts)

if_written : (net : Net) (V : View) (me : ℕ) (s : Session) (l : Local) → IsNoTurn l
    → IfSome (own_entry net me V s l) (λ (e : Entry). launch_of me e ≡ None)
if_written net V me s l h = go (own_entry net me V s l) (own_writes net V me s l)
  where
    go : (o : Option Entry) → IfSome o (Writes net V me s l) → IfSome o (λ (e : Entry). launch_of me e ≡ None)
    go None k = tt
    go (Some e) k = written_launch net V me s l e h k

-- mail is of feeds that others make
other_launch : (me : ℕ) (e : Entry) → (not (maker e.feed == me)) ≡ true → launch_of me e ≡ None
other_launch me e h = go e.feed h
  where
    differs : (w : ℕ) → not (w == me) ≡ true → (me == w) ≡ false
    differs w k = test (me == w) refl
      where
        test : (b : Bool) → (me == w) ≡ b → (me == w) ≡ false
        test true same =
            let e : me ≡ w = eqb-true me w same in
            let f : (w == me) ≡ true = eq-eqb w me (sym e) in
            absurd (clash (subst (λ (c : Bool). not c ≡ true) f k))
          where
            clash : false ≡ true → ⊥
            clash q = cc
        test false same = same

    go : (f : Feed) → not (maker f == me) ≡ true → (if feed_eq (Events me) f then launch_in e.body else None) ≡ None
    go (Events w) k = rw (differs w k) refl
    go (Orders a w) k = refl

mail_launch : (me : ℕ) (V : View) (e : Entry) → IfSome (then_some (accepts me V e) e) (λ (d : Entry). launch_of me d ≡ None)
unfolding accepts
mail_launch me V e = go (e.place == 1 + length (V e.feed)) (not (maker e.feed == me)) refl
  where
    go : (a b : Bool) → not (maker e.feed == me) ≡ b → IfSome (then_some (a && b) e) (λ (d : Entry). launch_of me d ≡ None)
    go true true h = other_launch me e h
    go true false h = tt
    go false b h = tt

ack_launches : (me : ℕ) (made : Option Entry) (x : ℕ) (p : Packet) (linked : Bool)
    → IfSome made (λ (e : Entry). launch_of me e ≡ None)
    → AreLaunches me made (if linked then Send x p ∷ [] else [])
ack_launches me made x p true h = record { first = tt; same = (quiet_kept me made h).same }
ack_launches me made x p false h = quiet_kept me made h

input_launches : (net u : Net) (V : View) (me : ℕ) (s r : Session) (input : Input)
    → AreLaunches me (makes net me V s input)
    (outs_of u me (view_with V (makes net me V s input)) r input (makes net me V s input))
unfolding outs_of makes own_entry event_of
input_launches net u V me s r (Input.Local (Turn t)) =
    turn_launches net u V me s r t (turn_body net V me s.live t) (turn_gives net V me s.live t)
input_launches net u V me s r (Input.Local (Linked x)) = quiet_kept me _ (if_written net V me s (Linked x) tt)
input_launches net u V me s r (Input.Local (Unlinked x)) = quiet_kept me _ (if_written net V me s (Unlinked x) tt)
input_launches net u V me s r (Input.Local (Typed to c)) = quiet_kept me _ (if_written net V me s (Typed to c) tt)
input_launches net u V me s r (Input.Local (Local.Started j)) = quiet_kept me _ (if_written net V me s (Local.Started j) tt)
input_launches net u V me s r (Input.Local (StartFailed j)) = quiet_kept me _ (if_written net V me s (StartFailed j) tt)
input_launches net u V me s r (Input.Local (Local.Ended j rc)) = quiet_kept me _ (if_written net V me s (Local.Ended j rc) tt)
input_launches net u V me s r (Input.Local (Fulfil o i)) = quiet_kept me _ (if_written net V me s (Fulfil o i) tt)
input_launches net u V me s r (Input.Local (Next drafts)) = quiet_kept me _ (if_written net V me s (Next drafts) tt)
input_launches net u V me s r (Input.Mail from e) = ack_launches me _ from _ (r.links from) (mail_launch me V e)
input_launches net u V me s r (Input.Ack from f n) = record { first = tt; same = refl }

effect_launches : (net : Net) (me : ℕ) (V : View) (s : Session) (input : Input)
    → AreLaunches me (effect net me V s input).made (effect net me V s input).outs
unfolding effect
effect_launches net me V s input = input_launches (present_net net V) _ V me s _ input

pub taken_launches : (old new : NodeState) (input : Input) (step : Step) → IsTaken old input step new
    → AreLaunches old.me step.kept step.outs
taken_launches old new input step taken =
    let d : IsEffect old input (effect_in step new) = its_effect old new input step taken in
    subst (λ (d : Effect). AreLaunches old.me d.made d.outs) d.is
    (effect_launches old.net old.me (view_in old) (session_in old) input)
