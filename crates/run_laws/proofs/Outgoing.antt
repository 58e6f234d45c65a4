-- What goes out is what the node holds, the entry of the step included.
use Rattle.std.proofs.Common.{[], ◌++◌, ◌≡◌, ◌∙◌, ◌∷◌, ◌⊎◌, ℕ, Bool, List, None, Option, Some, ap, append_assoc, false, inl, inr, length, map, refl, subst, sym, true}
use Rattle.std.specs.List.{AllByRecursion}
use Rattle.std.specs.Option.{option_map_or, option_to_list}
use Rattle.std.specs.Prelude.{filter, flat_map, if◌then◌else◌, option_map, ◌&&◌}
use Rattle.lemmas.proofs.Lists.{all_append, all_left, all_middle, no_middle}
use Rattle.node_inputs.proofs.Fronts.{kept-append}
use Rattle.model.specs.Types.{Ack, Body, Entry, Events, Feed, Fulfil, Input, Kill, Launch, Launched, Linked, Local, Mail, Net, Next, Obeyed, Out, Packet, Send, StartFailed}
use Rattle.model.specs.Types.{Turn, Typed, Unlinked}
use Rattle.model.specs.Words.{below, nth}
use Rattle.model.specs.Catalogue.{StreamJob, job}
use Rattle.model.specs.Facts.{open_launch}
use Rattle.model.specs.Forwarding.{to_send}
use Rattle.model.specs.History.{View, view_of, view_with}
use Rattle.model.specs.Network.{are_neighbours, node_count}
use Rattle.model.specs.NewEntry.{event_of, makes, next_entry, own_entry}
use Rattle.model.specs.PresentNet.{present_net}
use Rattle.model.specs.Sessions.{Session}
use Rattle.model.specs.Spelling.{entry_bytes}
use Rattle.model.specs.Step.{Effect, effect, outs_of, outs_of_body, sends}
use Rattle.mail_frames.specs.declared.frames.Frame.{Frame}
use Rattle.mail_frames.specs.declared.frames.Frame.TheVariants as frame
use Rattle.mail_frames.specs.Spelling.{frame_bytes}
use Rattle.agent_core.proofs.Holding.{view_later}
use Rattle.agent_core.specs.Nodes.{NodeState, session_in, view_in}
use Rattle.agent_core.specs.Steps.{IsTaken, effect_in}
use Rattle.agent_core.specs.declared.faults.Step.{Step}
use Rattle.node_inputs.specs.Traces.{Event, Trace, kept}
use Rattle.node_inputs.specs.declared.ends.NodeEnd.{NodeEnd}
use Rattle.node_inputs.specs.Actions.{Action, IfThere, Nothing, Then}
use Rattle.node_inputs.specs.Inputs.{Carried, Carry, CarryOut, IsKeeping, Keep, SendFrame, frame_of, is_lost}
use Rattle.run_laws.specs.Held.{held_after}
use Rattle.run_laws.specs.Outgoing.{IsItsWork, IsObeyedKill, TellsOfHeld}
use Rattle.run_laws.proofs.Rules.{Gives, IsJoined, call_gives, each_of_gives, if_gives, nothing_gives, wants_gives}
use Rattle.run_laws.proofs.Splits.{InFirst, InSecond, only_one, split_append}
use Rattle.run_laws.proofs.Given.{IsGiven}
use Rattle.run_laws.proofs.Taking.{GivesOut, IsAsk, IsEffect, IsRule, Steps, its_effect}
use Rattle.run_laws.proofs.Tracing.{IsDone, all_done, front_kept, trace_keeps}
use Rattle.run_laws.proofs.Marks.{Follows, IsMark, Mark, Marks, MarksAll, held_joined, marks_joined, marks_rest, one_marked, step_marked}
use Rattle.model.specs.Turn.{turn_body}

-- what an output is, in the view behind the entry
abbrev IsDueOut : ℕ → View → Option Entry → Out → Type 0
IsDueOut me V made (Launch j n work) = (p : StreamJob) × (job V j ≡ Some p) × (work ≡ p.doc.work)
IsDueOut me V made (Out.Kill j n) =
    (e : Entry) × (a : ℕ) × (k : ℕ) × (made ≡ Some e) × (e.feed ≡ Events me) × (e.body ≡ Obeyed a k (Kill j))
    × (open_launch j (V (Events me)) ≡ Some n)
IsDueOut me V made (Send x (Mail f place)) = Unit {0}
IsDueOut me V made (Send x (Ack f n)) = n ≡ length (V f)

launch_due : (me : ℕ) (V : View) (made : Option Entry) (j n : ℕ) (o : Option StreamJob) → job V j ≡ o
    → AllByRecursion (IsDueOut me V made) (option_map_or (λ (p : StreamJob). Launch j n p.doc.work ∷ []) o [])
launch_due me V made j n None is = tt
launch_due me V made j n (Some p) is = ((p, is, refl), tt)

kill_due : (me : ℕ) (V : View) (e : Entry) (a k j : ℕ) (o : Option ℕ) → open_launch j (V (Events me)) ≡ o → e.feed ≡ Events me
    → e.body ≡ Obeyed a k (Kill j)
    → AllByRecursion (IsDueOut me V (Some e)) (option_map_or (λ n. Out.Kill j n ∷ []) o [])
kill_due me V e a k j None is own body = tt
kill_due me V e a k j (Some n) is own body = ((e, a, k, refl, own, body, is), tt)

body_due : (me : ℕ) (V : View) (e : Entry) (b : Body) → e.feed ≡ Events me → e.body ≡ b
    → AllByRecursion (IsDueOut me V (Some e)) (outs_of_body me V b)
unfolding outs_of_body
body_due me V e (Launched j n seen) own body = launch_due me V (Some e) j n (job V j) refl
body_due me V e (Obeyed a k (Kill j)) own body = kill_due me V e a k j (open_launch j (V (Events me))) refl own body
body_due me V e b own body = tt

mails_due : (me : ℕ) (V : View) (made : Option Entry) (m : ℕ) (ps : List (Feed × ℕ))
    → AllByRecursion (IsDueOut me V made) (map (λ (p : Feed × ℕ). Send m (Mail p.0 p.1)) ps)
mails_due me V made m [] = tt
mails_due me V made m (p ∷ ps) = (tt, mails_due me V made m ps)

all_mails_due : (me : ℕ) (V : View) (made : Option Entry) (f : ℕ → List (Feed × ℕ)) (ms : List ℕ)
    → AllByRecursion (IsDueOut me V made) (flat_map (λ m. map (λ (p : Feed × ℕ). Send m (Mail p.0 p.1)) (f m)) ms)
all_mails_due me V made f [] = tt
all_mails_due me V made f (m ∷ ms) =
    all_append (IsDueOut me V made) (map (λ (p : Feed × ℕ). Send m (Mail p.0 p.1)) (f m)) _ (mails_due me V made m (f m))
    (all_mails_due me V made f ms)

sends_due : (net : Net) (me : ℕ) (V : View) (made : Option Entry) (s : Session) → AllByRecursion (IsDueOut me V made) (sends net me V s)
unfolding sends
sends_due net me V made s =
    all_mails_due me V made (λ m. to_send net V me m (s.acked m))
    (filter (λ m. are_neighbours net me m && s.links m) (below (node_count net)))

turn_due : (net : Net) (me : ℕ) (V W : View) (s : Session) (b : Option Body)
    → AllByRecursion (IsDueOut me W (option_map (next_entry V (Events me)) b))
    (option_map_or (λ (e : Entry). outs_of_body me W e.body) (option_map (next_entry V (Events me)) b) [] ++ sends net me W s)
turn_due net me V W s None = sends_due net me W None s
turn_due net me V W s (Some b) =
    all_append (IsDueOut me W (Some (next_entry V (Events me) b))) (outs_of_body me W b) (sends net me W s)
    (body_due me W (next_entry V (Events me) b) b refl refl) (sends_due net me W (Some (next_entry V (Events me) b)) s)

ack_due : (me : ℕ) (V : View) (made : Option Entry) (x : ℕ) (f : Feed) (linked : Bool)
    → AllByRecursion (IsDueOut me V made) (if linked then Send x (Ack f (length (V f))) ∷ [] else [])
ack_due me V made x f true = (refl, tt)
ack_due me V made x f false = tt

input_due : (net u : Net) (V : View) (me : ℕ) (s r : Session) (input : Input)
    → AllByRecursion (IsDueOut me (view_with V (makes net me V s input)) (makes net me V s input))
    (outs_of u me (view_with V (makes net me V s input)) r input (makes net me V s input))
unfolding outs_of makes own_entry event_of
input_due net u V me s r (Input.Local (Turn t)) =
    turn_due u me V _ r (turn_body net V me s.live t)
input_due net u V me s r (Input.Local (Linked x)) = tt
input_due net u V me s r (Input.Local (Unlinked x)) = tt
input_due net u V me s r (Input.Local (Typed to c)) = tt
input_due net u V me s r (Input.Local (Local.Started j)) = tt
input_due net u V me s r (Input.Local (StartFailed j)) = tt
input_due net u V me s r (Input.Local (Local.Ended j rc)) = tt
input_due net u V me s r (Input.Local (Fulfil o i)) = tt
input_due net u V me s r (Input.Local (Next drafts)) = tt
input_due net u V me s r (Input.Mail from e) =
    ack_due me (view_with V (makes net me V s (Input.Mail from e))) (makes net me V s (Input.Mail from e)) from e.feed (r.links from)
input_due net u V me s r (Input.Ack from f n) = tt

effect_due : (net : Net) (me : ℕ) (V : View) (s : Session) (input : Input)
    → AllByRecursion (IsDueOut me (view_with V (effect net me V s input).made) (effect net me V s input).made) (effect net me V s input).outs
unfolding effect
effect_due net me V s input = input_due (present_net net V) _ V me s _ input

-- the outputs of a step that is taken
taken_due : (old new : NodeState) (input : Input) (step : Step) → IsTaken old input step new
    → AllByRecursion (IsDueOut old.me (view_in new) step.kept) step.outs
taken_due old new input step taken =
    let d : IsEffect old input (effect_in step new) = its_effect old new input step taken in
    let view_is : view_with (view_in old) step.kept ≡ view_in new = sym (view_later old.kept step.kept) ∙ ap view_of (sym taken.kept) in
    subst (λ (V : View). AllByRecursion (IsDueOut old.me V step.kept) step.outs) view_is
    (subst (λ (d : Effect). AllByRecursion (IsDueOut old.me (view_with (view_in old) d.made) d.made) d.outs) d.is
    (effect_due old.net old.me (view_in old) (session_in old) input))

-- what goes out, against the node behind the step
abbrev IsOut : ℕ → NodeState → Option Entry → Event → Type 0
IsOut me node made (Event.Starts call) = IsItsWork (view_in node) call
IsOut me node made (Event.Kills j n) = IsDueOut me (view_in node) made (Out.Kill j n)
IsOut me node made (Event.Sends call) = TellsOfHeld (view_in node) call.bytes
IsOut me node made event = ⊥

abbrev AreOut : ℕ → NodeState → Option Entry → Action Carried
AreOut me node made old trace end new = AllByRecursion (IsOut me node made) trace

module _ (me : ℕ) (node : NodeState) (made : Option Entry) where
  out_joined : IsJoined (AreOut me node made)
  out_joined = record { rests = λ s end free. tt; joins = λ a b c front back end h k. all_append (IsOut me node made) front back h k }

  frame_goes : (x : ℕ) (f : Frame) → TellsOfHeld (view_in node) (frame_bytes f) → Gives (SendFrame x f) (AreOut me node made)
  frame_goes x f t old trace end new h = subst (AllByRecursion (IsOut me node made)) (sym h.1) (t, tt)

  mail_tells : (f : Feed) (place : ℕ) (o : Option Body) → nth (view_in node f) place ≡ o → (g : Frame)
      → option_map (λ (body : Body). frame.Mail (entry_bytes (record { feed = f; place = place; body = body }))) o ≡ Some g
      → TellsOfHeld (view_in node) (frame_bytes g)
  mail_tells f place None is g there = cc
  mail_tells f place (Some body) is g there =
      TellsOfHeld.mail f place body is (ap frame_bytes (sym (inside there)))
    where
      inside : Some (frame.Mail (entry_bytes (record { feed = f; place = place; body = body }))) ≡ Some g
          → frame.Mail (entry_bytes (record { feed = f; place = place; body = body })) ≡ g
      inside q = cc

  packet_tells : (x : ℕ) (p : Packet) (g : Frame) → IsDueOut me (view_in node) made (Send x p) → frame_of node p ≡ Some g
      → TellsOfHeld (view_in node) (frame_bytes g)
  packet_tells x (Mail f place) g due there = mail_tells f place (nth (view_in node f) place) refl g there
  packet_tells x (Ack f n) g due there =
      TellsOfHeld.ack f (ap frame_bytes (sym (inside there) ∙ ap (λ (k : ℕ). frame.Ack f k) due))
    where
      inside : Some (frame.Ack f n) ≡ Some g → frame.Ack f n ≡ g
      inside q = cc

  packet_goes : (x : ℕ) (p : Packet) → IsDueOut me (view_in node) made (Send x p)
      → Gives (IfThere (frame_of node p) (SendFrame x) Nothing) (AreOut me node made)
  packet_goes x p due = go (frame_of node p) refl
    where
      go : (o : Option Frame) → frame_of node p ≡ o → Gives (IfThere o (SendFrame x) Nothing) (AreOut me node made)
      go None is = nothing_gives (AreOut me node made) out_joined
      go (Some g) is = frame_goes x g (packet_tells x p g due is)

  out_goes : (out : Out) → IsDueOut me (view_in node) made out → Gives (CarryOut node out) (AreOut me node made)
  out_goes (Launch j n work) due old trace end new h =
      subst (AllByRecursion (IsOut me node made)) (sym h.1) (record { its_job = due.0; there = due.1; its_work = due.2 }, tt)
  out_goes (Out.Kill j n) due old trace end new h =
      call_gives (AreOut me node made) out_joined (Event.Kills j n) (λ s. (due, tt)) old trace end new h
  out_goes (Send x p) due old trace end new h =
      if_gives (AreOut me node made) out_joined (is_lost old.lost x) _ _ (nothing_gives (AreOut me node made) out_joined)
      (wants_gives (AreOut me node made) out_joined (IfThere (frame_of node p) (SendFrame x) Nothing) (packet_goes x p due)) old trace end new h

  carry_goes : (outs : List Out) → AllByRecursion (IsDueOut me (view_in node) made) outs → Gives (Carry node outs) (AreOut me node made)
  carry_goes outs due = each_of_gives (AreOut me node made) out_joined (IsDueOut me (view_in node) made) (CarryOut node) out_goes outs due

-- one event of a step that goes out, with what was kept before it
record GoesOut (old new : NodeState) (made : Option Entry) (front : Trace) (event : Event) : Type 0 where
  kept_before : kept front ≡ option_to_list made
  is_out : IsOut old.me new made event

no_ask : (event : Event) → IsGiven event → IsAsk event → ⊥
no_ask (Event.Asks call) g a = g
no_ask event g a = absurd a

keeping_gives_none : (m : Option Entry) (trace front back : Trace) (end : Option NodeEnd) (event : Event) → IsKeeping m trace end → IsGiven event
    → trace ≡ front ++ event ∷ back → ⊥
keeping_gives_none None trace front back end event h g split = no_middle front back event (sym h.0 ∙ split)
keeping_gives_none (Some e) trace front back end event (inl h) g split =
    no_keep event g (only_one (Event.Keeps e) front back event (sym h.0 ∙ split)).is
  where
    no_keep : (x : Event) → IsGiven x → Event.Keeps e ≡ x → ⊥
    no_keep (Event.Keeps d) k same = k
    no_keep x k same = cc
keeping_gives_none (Some e) trace front back end event (inr (inl h)) g split =
    no_refusal event g (only_one (Event.Refuses e h.0) front back event (sym h.2 ∙ split)).is
  where
    no_refusal : (x : Event) → IsGiven x → Event.Refuses e h.0 ≡ x → ⊥
    no_refusal (Event.Refuses d why) k same = k
    no_refusal x k same = cc
keeping_gives_none (Some e) trace front back end event (inr (inr h)) g split = no_middle front back event (sym h.0 ∙ split)

goes_out : (input : Input) (old : NodeState) (trace : Trace) (end : Option NodeEnd) (new : NodeState) (h : Steps input old trace end new)
    (front : Trace) (event : Event) (back : Trace) → trace ≡ front ++ event ∷ back → IsGiven event → GoesOut old new h.step.kept front event
goes_out input old trace end new h front event back split given = go h.acts
  where
    due : AllByRecursion (IsDueOut old.me (view_in new) h.step.kept) h.step.outs
    due = taken_due old new input h.step h.taken

    go : Then (Keep h.step.kept) (λ o t e n. GivesOut h.step.outs o t e n) new trace end new → GoesOut old new h.step.kept front event
    go (inr e) = absurd (keeping_gives_none h.step.kept trace front back (Some e.why) event e.ends.0 given split)
    go (inl b) = at (split_append b.front b.back front back event (sym b.split ∙ split))
      where
        g : GivesOut h.step.outs b.middle b.back end new
        g = b.goes_on

        all_out : AllByRecursion (IsOut old.me new h.step.kept) g.carried
        all_out =
            carry_goes old.me new h.step.kept h.step.outs due _ g.carried end g.so_far
            (subst (λ (n : NodeState). Carry n h.step.outs _ g.carried end g.so_far) b.begins.1 g.carries)

        within : (middle : Trace) → front ≡ b.front ++ middle → InFirst g.asks g.carried middle back event ⊎ InSecond g.asks g.carried middle back event
            → GoesOut old new h.step.kept front event
        within middle is (inl f) =
            absurd (no_ask event given (all_middle IsAsk middle f.rest event (subst (AllByRecursion IsAsk) f.first g.are_asks)))
        within middle is (inr s) =
            let outs : AllByRecursion (IsOut old.me new h.step.kept) (s.middle ++ event ∷ back) =
            subst (AllByRecursion (IsOut old.me new h.step.kept)) s.second all_out in
            record {
              kept_before =
                  ap kept (is ∙ ap (λ (t : Trace). b.front ++ t) s.before)
                  ∙ trace_keeps h.step.kept (b.front ++ (g.asks ++ s.middle))
                  (front_kept h.step.kept b.front (g.asks ++ s.middle) (b.front ++ (g.asks ++ s.middle)) None refl
                  (all_left IsDone (g.asks ++ s.middle) (event ∷ back)
                  (subst (AllByRecursion IsDone)
                  (ap (λ (t : Trace). g.asks ++ t) s.second ∙ sym (append_assoc g.asks s.middle (event ∷ back)))
                  (all_done h.step.outs b.middle b.back end new g))) b.begins.0);
              is_out = all_middle (IsOut old.me new h.step.kept) s.middle back event outs;
            }

        at : InFirst b.front b.back front back event ⊎ InSecond b.front b.back front back event → GoesOut old new h.step.kept front event
        at (inl f) = absurd (keeping_gives_none h.step.kept b.front front f.rest None event b.begins.0 given f.first)
        at (inr s) = within s.middle s.before (split_append g.asks g.carried s.middle back event (sym g.split ∙ s.second))

-- what goes out at a moment of a run
abbrev pub GoesOutHeld : Mark
GoesOutHeld a front (Event.Starts call) back end = IsItsWork (held_after a front) call
GoesOutHeld a front (Event.Kills j n) back end = IsObeyedKill a front j n
GoesOutHeld a front (Event.Sends call) back end = TellsOfHeld (held_after a front) call.bytes
GoesOutHeld a front event back end = Unit {0}

lower : (a : NodeState) (front : Trace) (event : Event) (rest more : Trace) (end : Option NodeEnd)
    → GoesOutHeld a front event rest None → GoesOutHeld a front event (rest ++ more) end
lower a front (Event.Starts call) rest more end h = h
lower a front (Event.Kills j n) rest more end h = h
lower a front (Event.Sends call) rest more end h = h
lower a front event rest more end h = tt

upper : (a b : NodeState) (front more : Trace) (event : Event) (back : Trace) (end : Option NodeEnd) → Follows a front b
    → GoesOutHeld b more event back end → GoesOutHeld a (front ++ more) event back end
upper a b front more (Event.Starts call) back end f h =
    subst (λ (V : View). IsItsWork V call) (held_joined a b front more f) h
upper a b front more (Event.Kills j n) back end f h = record {
  entry = h.entry;
  before = kept front ++ h.before;
  issuer = h.issuer;
  place = h.place;
  last =
      kept-append front more ∙ ap (λ (l : List Entry). kept front ++ l) h.last
      ∙ sym (append_assoc (kept front) h.before (h.entry ∷ []));
  its_feed = h.its_feed ∙ ap Events f.me_;
  its_body = h.its_body;
  open_ =
      subst (λ (m : ℕ). open_launch j (held_after a (front ++ more) (Events m)) ≡ Some n) f.me_
      (subst (λ (V : View). open_launch j (V (Events b.me)) ≡ Some n) (held_joined a b front more f) h.open_);
}
upper a b front more (Event.Sends call) back end f h =
    subst (λ (V : View). TellsOfHeld V call.bytes) (held_joined a b front more f) h
upper a b front more event back end f h = tt

out_mark : IsMark GoesOutHeld
out_mark = record { lower = lower; upper = upper }

step_out : (input : Input) → Gives (λ o t e n. Steps input o t e n) (MarksAll GoesOutHeld)
step_out input old trace end new h = record { me_ = plain.me_; net_ = plain.net_; grows = plain.grows; each = each }
  where
    plain : Marks (λ a front event back x. Unit {0}) old trace end new
    plain = step_marked (λ a front event back x. Unit {0}) input old trace end new h (λ front event back k. tt)

    view_is : (front : Trace) → kept front ≡ option_to_list h.step.kept → view_in new ≡ held_after old front
    view_is front same = ap view_of (h.taken.kept ∙ ap (λ (l : List Entry). old.kept ++ l) (sym same))

    each : (front : Trace) (event : Event) (back : Trace) → trace ≡ front ++ event ∷ back → GoesOutHeld old front event back end
    each front (Event.Starts call) back split =
        let it : GoesOut old new h.step.kept front (Event.Starts call) =
        goes_out input old trace end new h front (Event.Starts call) back split tt in
        subst (λ (V : View). IsItsWork V call) (view_is front it.kept_before) it.is_out
    each front (Event.Kills j n) back split =
        let it : GoesOut old new h.step.kept front (Event.Kills j n) =
        goes_out input old trace end new h front (Event.Kills j n) back split tt in
        record {
          entry = it.is_out.0;
          before = [];
          issuer = it.is_out.1;
          place = it.is_out.2;
          last = it.kept_before ∙ ap option_to_list it.is_out.3;
          its_feed = it.is_out.4;
          its_body = it.is_out.5;
          open_ =
              subst (λ (V : View). open_launch j (V (Events old.me)) ≡ Some n) (view_is front it.kept_before) it.is_out.6;
        }
    each front (Event.Sends call) back split =
        let it : GoesOut old new h.step.kept front (Event.Sends call) =
        goes_out input old trace end new h front (Event.Sends call) back split tt in
        subst (λ (V : View). TellsOfHeld V call.bytes) (view_is front it.kept_before) it.is_out
    each front event back split = tt

pub out_rule : IsRule (λ i. Unit {0}) (MarksAll GoesOutHeld)
out_rule = record {
  joined = marks_joined GoesOutHeld out_mark;
  spent = λ s end input due is. marks_rest GoesOutHeld out_mark s end;
  asks = λ s call. one_marked GoesOutHeld s (Event.Asks call) refl tt;
  replies = λ s call. one_marked GoesOutHeld s (Event.Replies call) refl tt;
  steps = λ input q. step_out input;
  told = λ input t. tt;
}
