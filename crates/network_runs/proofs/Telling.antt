-- Each part of a run that hears no arrival is a story.
use Rattle.std.proofs.Common.{[], ◌++◌, ◌≡◌, ◌∙◌, ◌∷◌, ℕ, List, None, Option, Some, ap, inl, inr, refl, subst, sym}
use Rattle.std.proofs.lemmas.List.Sums.{fold-append}
use Rattle.std.specs.List.{AllByRecursion}
use Rattle.std.specs.Prelude.{fold}
use Rattle.lemmas.proofs.Lists.{all_append}
use Rattle.model.specs.Types.{Entry, Input, Launch, Out, Packet, Send, Work}
use Rattle.mail_frames.specs.declared.frames.Frame.{Frame}
use Rattle.agent_core.specs.Nodes.{NodeState}
use Rattle.node_inputs.specs.Traces.{Event, Trace}
use Rattle.node_inputs.specs.declared.ends.NodeEnd.{NodeEnd}
use Rattle.node_inputs.specs.Actions.{Action, IfThere, Nothing, Then, Wants}
use Rattle.node_inputs.specs.Inputs.{Carried, Carry, CarryOut, IsKeeping, Keep, SendFrame, SendIt, StartIt, frame_of, is_lost}
use Rattle.run_laws.proofs.Rules.{Gives, IsJoined, call_gives, each_of_gives, if_gives, nothing_gives, wants_gives}
use Rattle.run_laws.proofs.Taking.{GivesOut, IsAsk, IsRule, IsTold, Steps}
use Rattle.network_runs.specs.Happenings.{heard_from, heard_with}
use Rattle.network_runs.proofs.Stories.{CameBy, IsMinor, Story, joined}
use Rattle.network_runs.proofs.Members.{IsIn}

-- nothing arrives
abbrev pub IsNoArrival : Event → Type 0
IsNoArrival (Event.Comes a) = ⊥
IsNoArrival _ = Unit {0}

stays : (x : ℕ) (so_far : List ℕ) (trace : Trace) → AllByRecursion IsNoArrival trace → fold (heard_with x) so_far trace ≡ so_far
stays x so_far [] h = refl
stays x so_far (Event.Comes a ∷ trace) h = absurd h.0
stays x so_far (Event.Keeps e ∷ trace) h = stays x so_far trace h.1
stays x so_far (Event.Refuses e why ∷ trace) h = stays x so_far trace h.1
stays x so_far (Event.Reads t ∷ trace) h = stays x so_far trace h.1
stays x so_far (Event.Reports r ∷ trace) h = stays x so_far trace h.1
stays x so_far (Event.Looks p a ∷ trace) h = stays x so_far trace h.1
stays x so_far (Event.Starts c ∷ trace) h = stays x so_far trace h.1
stays x so_far (Event.Kills j n ∷ trace) h = stays x so_far trace h.1
stays x so_far (Event.Sends c ∷ trace) h = stays x so_far trace h.1
stays x so_far (Event.Replies c ∷ trace) h = stays x so_far trace h.1
stays x so_far (Event.Asks c ∷ trace) h = stays x so_far trace h.1

pub heard_stays : (x : ℕ) (past trace : Trace) → AllByRecursion IsNoArrival trace
    → heard_from x (past ++ trace) ≡ heard_from x past
heard_stays x past trace h =
    fold-append (heard_with x) [] past trace ∙ stays x (heard_from x past) trace h

-- what it does where this was heard is a story, and it hears nothing more
pub record TellsIt (heard : ℕ → List ℕ) (old : NodeState) (trace : Trace) (end : Option NodeEnd) (new : NodeState) : Type 0 where
  pub deaf : AllByRecursion IsNoArrival trace
  pub story : (past : Trace) → ((x : ℕ) → heard_from x past ≡ heard x) → (outs : List Out) → Story past old outs trace end new

pub tells_joined : (heard : ℕ → List ℕ) → IsJoined (λ o t e n. TellsIt heard o t e n)
tells_joined heard = record {
  rests = λ s end free. record { deaf = tt; story = λ past knows outs. Story.rests past s outs [] end s refl refl };
  joins = λ a b c front back end h k. record {
    deaf = all_append IsNoArrival front back h.deaf k.deaf;
    story = λ past knows outs.
        joined past a outs front b None back end c refl (h.story past knows outs)
        (λ given. k.story (past ++ front) (λ x. heard_stays x past front h.deaf ∙ knows x) given);
  };
}

-- an event of a node whose last step gave this out, and no arrival
abbrev pub IsOutput : NodeState → List Out → Event → Type 0
IsOutput node outs event = IsMinor node outs event × IsNoArrival event

pub minors : (past : Trace) (s : NodeState) (outs : List Out) (trace : Trace) (end : Option NodeEnd)
    → AllByRecursion (IsMinor s outs) trace → Story past s outs trace end s
minors past s outs [] end h = Story.rests past s outs [] end s refl refl
minors past s outs (event ∷ rest) end h =
    Story.passes past s outs (event ∷ rest) end s event rest refl h.0 (minors (past ++ event ∷ []) s outs rest end h.1)

pub one_output : (heard : ℕ → List ℕ) (s : NodeState) (event : Event) → ((outs : List Out) → IsMinor s outs event)
    → IsNoArrival event → TellsIt heard s (event ∷ []) None s
one_output heard s event minor silent = record {
  deaf = (silent, tt);
  story = λ past knows outs. minors past s outs (event ∷ []) None (minor outs, tt);
}

-- what is carried out
abbrev AreOutputs : NodeState → List Out → Action Carried
AreOutputs node outs old trace end new = AllByRecursion (IsOutput node outs) trace

outputs_joined : (node : NodeState) (outs : List Out) → IsJoined (AreOutputs node outs)
outputs_joined node outs = record {
  rests = λ s end free. tt;
  joins = λ a b c front back end h k. all_append (IsOutput node outs) front back h k;
}

start_is : (node : NodeState) (outs : List Out) (j n : ℕ) (work : Work) → IsIn (Launch j n work) outs
    → Gives (StartIt j n work) (AreOutputs node outs)
start_is node outs j n work among old trace end new h = subst (AllByRecursion (IsOutput node outs)) (sym h.1) ((among, tt), tt)

send_is : (node : NodeState) (outs : List Out) (x : ℕ) (p : Packet) → IsIn (Send x p) outs
    → Gives (SendIt node x p) (AreOutputs node outs)
send_is node outs x p among old trace end new h =
    if_gives P j (is_lost old.lost x) Nothing (Wants (IfThere (frame_of node p) (SendFrame x) Nothing)) (nothing_gives P j)
    (wants_gives P j (IfThere (frame_of node p) (SendFrame x) Nothing) (framed (frame_of node p) refl)) old trace end new h
  where
    P : Action Carried
    P = AreOutputs node outs

    j : IsJoined P
    j = outputs_joined node outs

    framed : (o : Option Frame) → frame_of node p ≡ o → Gives (IfThere o (SendFrame x) Nothing) P
    framed None is s t e n k = nothing_gives P j s t e n k
    framed (Some f) is s t e n k =
        subst (AllByRecursion (IsOutput node outs)) (sym k.1)
        ((record { packet = p; given = among; frame_ = f; is = is; bytes_ = refl }, tt), tt)

out_is : (node : NodeState) (outs : List Out) (out : Out) → IsIn out outs → Gives (CarryOut node out) (AreOutputs node outs)
out_is node outs (Launch j n work) among = start_is node outs j n work among
out_is node outs (Out.Kill j n) among = call_gives (AreOutputs node outs) (outputs_joined node outs) (Event.Kills j n) (λ s. ((tt, tt), tt))
out_is node outs (Send x p) among = send_is node outs x p among

all_among : {X : Type 0} (xs ys : List X) → ((x : X) → IsIn x xs → IsIn x ys) → AllByRecursion (λ x. IsIn x ys) xs
all_among [] ys h = tt
all_among (x ∷ xs) ys h = (h x (inl refl), all_among xs ys (λ y k. h y (inr k)))

carry_is : (node : NodeState) (outs : List Out) → Gives (Carry node outs) (AreOutputs node outs)
carry_is node outs =
    each_of_gives (AreOutputs node outs) (outputs_joined node outs) (λ out. IsIn out outs) (CarryOut node)
    (λ out among. out_is node outs out among) outs (all_among outs outs (λ x h. h))

asks_are : (node : NodeState) (outs : List Out) (trace : Trace) → AllByRecursion IsAsk trace → AllByRecursion (IsOutput node outs) trace
asks_are node outs [] h = tt
asks_are node outs (Event.Asks call ∷ trace) h = ((tt, tt), asks_are node outs trace h.1)
asks_are node outs (e ∷ trace) h = absurd h.0

minor_of : (node : NodeState) (outs : List Out) (trace : Trace) → AllByRecursion (IsOutput node outs) trace → AllByRecursion (IsMinor node outs) trace
minor_of node outs [] h = tt
minor_of node outs (e ∷ trace) h = (h.0.0, minor_of node outs trace h.1)

deaf_of : (node : NodeState) (outs : List Out) (trace : Trace) → AllByRecursion (IsOutput node outs) trace → AllByRecursion IsNoArrival trace
deaf_of node outs [] h = tt
deaf_of node outs (e ∷ trace) h = (h.0.1, deaf_of node outs trace h.1)

pub given_out : (node : NodeState) (outs : List Out) (trace : Trace) (end : Option NodeEnd) (new : NodeState)
    → (g : GivesOut outs node trace end new) → AllByRecursion (IsOutput node outs) trace
given_out node outs trace end new g =
    subst (AllByRecursion (IsOutput node outs)) (sym g.split)
    (all_append (IsOutput node outs) g.asks g.carried (asks_are node outs g.asks g.are_asks)
    (carry_is node outs _ g.carried end g.so_far g.carries))

came : (heard : ℕ → List ℕ) (past : Trace) (input : Input) → ((x : ℕ) → heard_from x past ≡ heard x) → CameBy heard input
    → CameBy (λ x. heard_from x past) input
came heard past input knows h = subst (λ (f : ℕ → List ℕ). CameBy f input) (λ i x. sym (knows x) i) h

-- the step of an input, up to its sends
steps_tell : (heard : ℕ → List ℕ) (input : Input) → CameBy heard input
    → Gives (λ o t e n. Steps input o t e n) (λ o t e n. TellsIt heard o t e n)
steps_tell heard input by old trace end new h = go h.acts
  where
    kept_first : (o : Option Entry) (front back : Trace) → h.step.kept ≡ o → IsKeeping o front None → trace ≡ front ++ back
        → AllByRecursion (IsOutput new h.step.outs) back → TellsIt heard old trace end new
    kept_first None front back is k split out = record {
      deaf = subst (AllByRecursion IsNoArrival) (sym split)
          (subst (λ (t : Trace). AllByRecursion IsNoArrival (t ++ back)) (sym k.0) (deaf_of new h.step.outs back out));
      story = λ past knows outs.
          Story.quiet past old outs trace end new input h.step new (came heard past input knows by) h.taken is
          (subst (λ (t : Trace). Story past new h.step.outs t end new) (sym (split ∙ ap (λ (t : Trace). t ++ back) k.0))
          (minors past new h.step.outs back end (minor_of new h.step.outs back out)));
    }
    kept_first (Some e) front back is (inl k) split out = record {
      deaf = subst (AllByRecursion IsNoArrival) (sym split)
          (subst (λ (t : Trace). AllByRecursion IsNoArrival (t ++ back)) (sym k.0) (tt, deaf_of new h.step.outs back out));
      story = λ past knows outs.
          Story.keeps past old outs trace end new input h.step new e back (split ∙ ap (λ (t : Trace). t ++ back) k.0)
          (came heard past input knows by) h.taken is
          (minors (past ++ Event.Keeps e ∷ []) new h.step.outs back end (minor_of new h.step.outs back out));
    }
    kept_first (Some e) front back is (inr (inl k)) split out = cc
    kept_first (Some e) front back is (inr (inr k)) split out = cc

    not_kept : (o : Option Entry) (why : NodeEnd) → h.step.kept ≡ o → end ≡ Some why → IsKeeping o trace (Some why)
        → TellsIt heard old trace end new
    not_kept None why is ends k = cc
    not_kept (Some e) why is ends (inl k) = cc
    not_kept (Some e) why is ends (inr (inl k)) = record {
      deaf = subst (AllByRecursion IsNoArrival) (sym k.2) (tt, tt);
      story = λ past knows outs.
          Story.refused past old outs trace end new input h.step new e k.0 k.2 (ends ∙ k.3)
          (came heard past input knows by) h.taken is;
    }
    not_kept (Some e) why is ends (inr (inr k)) = record {
      deaf = subst (AllByRecursion IsNoArrival) (sym k.0) tt;
      story = λ past knows outs. Story.spent past old outs trace end new k.0 (ends ∙ k.1);
    }

    go : Then (Keep h.step.kept) (λ o t e n. GivesOut h.step.outs o t e n) new trace end new → TellsIt heard old trace end new
    go (inl b) =
        kept_first h.step.kept b.front b.back refl b.begins.0 b.split
        (subst (λ (n : NodeState). AllByRecursion (IsOutput n h.step.outs) b.back) b.begins.1
        (given_out b.middle h.step.outs b.back end new b.goes_on))
    go (inr e) = not_kept h.step.kept e.why refl e.for_that_cause e.ends.0

told_came : (heard : ℕ → List ℕ) (input : Input) → IsTold input → CameBy heard input
told_came heard (Input.Local l) h = tt
told_came heard (Input.Mail x e) h = absurd h
told_came heard (Input.Ack x f n) h = absurd h

pub rule : (heard : ℕ → List ℕ) → IsRule (CameBy heard) (λ o t e n. TellsIt heard o t e n)
rule heard = record {
  joined = tells_joined heard;
  spent = λ s end input due is. record { deaf = tt; story = λ past knows outs. Story.rests past s outs [] end s refl refl };
  asks = λ s call. one_output heard s (Event.Asks call) (λ outs. tt) tt;
  replies = λ s call. one_output heard s (Event.Replies call) (λ outs. tt) tt;
  steps = λ input by. steps_tell heard input by;
  told = λ input h. told_came heard input h;
}
