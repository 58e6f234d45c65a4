-- What is carried out: starts, kills and sends, and launches before all sends.
use Rattle.std.proofs.Common.{[], ◌++◌, ◌≡◌, ◌∙◌, ◌∷◌, ℕ, List, None, Option, Some, ap, inl, inr, map, refl, subst, sym}
use Rattle.std.proofs.lemmas.List.Elements.{filter_map-append}
use Rattle.std.specs.List.{AllByRecursion}
use Rattle.std.specs.Prelude.{filter_map}
use Rattle.lemmas.proofs.Lists.{all_append}
use Rattle.model.specs.Types.{Launch, Out, Packet, Send, Work}
use Rattle.mail_frames.specs.declared.frames.Frame.{Frame}
use Rattle.outside.specs.Calls.{StartCall}
use Rattle.agent_core.specs.Nodes.{NodeState}
use Rattle.node_inputs.specs.Traces.{Event, Trace, starts, start_of}
use Rattle.node_inputs.specs.declared.ends.NodeEnd.{NodeEnd}
use Rattle.node_inputs.specs.Actions.{Action, IfThere, Nothing}
use Rattle.node_inputs.specs.Inputs.{Carried, Carry, CarryOut, SendFrame, SendIt, StartIt, frame_of, is_lost}
use Rattle.run_laws.specs.Launches.{launches_started}
use Rattle.run_laws.proofs.Rules.{Gives, IsJoined, call_gives, each_gives, each_of_gives, if_gives, if_there_gives, nothing_gives, wants_gives}

-- an action on what was carried so far
abbrev StartsNone : Action Carried
StartsNone old trace end new = starts trace ≡ []

starts_none_joined : IsJoined StartsNone
starts_none_joined = record {
  rests = λ s end free. refl;
  joins = λ a b c front back end h k.
      filter_map-append start_of front back
      ∙ ap (λ (l : List StartCall). l ++ starts back) h ∙ k;
}

abbrev pub IsGiven : Event → Type 0
IsGiven (Event.Starts call) = Unit {0}
IsGiven (Event.Kills j n) = Unit {0}
IsGiven (Event.Sends call) = Unit {0}
IsGiven _ = ⊥

abbrev AreGiven : Action Carried
AreGiven old trace end new = AllByRecursion IsGiven trace

given_joined : IsJoined AreGiven
given_joined = record { rests = λ s end free. tt; joins = λ a b c front back end h k. all_append IsGiven front back h k }

-- a start and a frame, event by event
start_gives : (j n : ℕ) (work : Work) → Gives (StartIt j n work) AreGiven
start_gives j n work old trace end new h = subst (AllByRecursion IsGiven) (sym h.1) (tt, tt)

frame_gives : (x : ℕ) (f : Frame) → Gives (SendFrame x f) AreGiven
frame_gives x f old trace end new h = subst (AllByRecursion IsGiven) (sym h.1) (tt, tt)

frame_starts_none : (x : ℕ) (f : Frame) → Gives (SendFrame x f) StartsNone
frame_starts_none x f old trace end new h = subst (λ (t : Trace). starts t ≡ []) (sym h.1) refl

-- a send, whatever its event is known to be
pub send_gives : (P : Action Carried) → IsJoined P → ((x : ℕ) (f : Frame) → Gives (SendFrame x f) P) → (node : NodeState) (x : ℕ) (p : Packet)
    → Gives (SendIt node x p) P
send_gives P j one node x p old trace end new h =
    if_gives P j (is_lost old.lost x) _ _ (nothing_gives P j)
    (wants_gives P j (IfThere (frame_of node p) (SendFrame x) Nothing)
    (if_there_gives P j (frame_of node p) (SendFrame x) Nothing (one x) (nothing_gives P j))) old trace end new h

out_gives : (node : NodeState) (out : Out) → Gives (CarryOut node out) AreGiven
out_gives node (Launch j n work) = start_gives j n work
out_gives node (Out.Kill j n) = call_gives AreGiven given_joined (Event.Kills j n) (λ s. (tt, tt))
out_gives node (Send x p) = send_gives AreGiven given_joined frame_gives node x p

pub carry_gives : (node : NodeState) (outs : List Out) → Gives (Carry node outs) AreGiven
carry_gives node outs = each_gives AreGiven given_joined (CarryOut node) (out_gives node) outs

-- what starts no job
abbrev pub IsNoLaunch : Out → Type 0
IsNoLaunch (Launch j n work) = ⊥
IsNoLaunch (Out.Kill j n) = Unit {0}
IsNoLaunch (Send x p) = Unit {0}

no_launch_gives : (node : NodeState) (out : Out) → IsNoLaunch out → Gives (CarryOut node out) StartsNone
no_launch_gives node (Launch j n work) h = absurd h
no_launch_gives node (Out.Kill j n) h = call_gives StartsNone starts_none_joined (Event.Kills j n) (λ s. refl)
no_launch_gives node (Send x p) h = send_gives StartsNone starts_none_joined frame_starts_none node x p

carry_starts_none : (node : NodeState) (outs : List Out) → AllByRecursion IsNoLaunch outs → Gives (Carry node outs) StartsNone
carry_starts_none node outs h =
    each_of_gives StartsNone starts_none_joined IsNoLaunch (CarryOut node) (no_launch_gives node) outs h

-- behind a send no job starts
abbrev pub LaunchesFirst : List Out → Type 0
LaunchesFirst [] = Unit {0}
LaunchesFirst (Launch j n work ∷ outs) = LaunchesFirst outs
LaunchesFirst (Out.Kill j n ∷ outs) = LaunchesFirst outs
LaunchesFirst (Send x p ∷ outs) = AllByRecursion IsNoLaunch outs

abbrev pub launch_out : Out → Option (ℕ × ℕ)
launch_out (Launch j n work) = Some (j, n)
launch_out (Out.Kill j n) = None
launch_out (Send x p) = None

pub no_launch_out : (outs : List Out) → AllByRecursion IsNoLaunch outs → filter_map launch_out outs ≡ []
no_launch_out [] h = refl
no_launch_out (Launch j n work ∷ outs) h = absurd h.0
no_launch_out (Out.Kill j n ∷ outs) h = no_launch_out outs h.1
no_launch_out (Send x p ∷ outs) h = no_launch_out outs h.1

-- so want of memory for a frame comes behind each start
pub carry_starts : (node : NodeState) (outs : List Out) → LaunchesFirst outs → (old : Carried) (trace : Trace) (end : Option NodeEnd) (new : Carried)
    → Carry node outs old trace end new → launches_started trace ≡ filter_map launch_out outs
carry_starts node [] h old trace end new a = rw a.0 refl
carry_starts node (Launch j n work ∷ outs) h old trace end new (inl b) =
    rw (b.split, b.begins.1) (ap (λ (l : List (ℕ × ℕ)). (j, n) ∷ l) (carry_starts node outs h b.middle b.back end new b.goes_on))
carry_starts node (Launch j n work ∷ outs) h old trace end new (inr e) = absurd (no_end_is_none e.ends.2)
  where
    no_end_is_none : Some e.why ≡ None → ⊥
    no_end_is_none q = cc
carry_starts node (Out.Kill j n ∷ outs) h old trace end new (inl b) =
    rw (b.split, b.begins.0) (carry_starts node outs h b.middle b.back end new b.goes_on)
carry_starts node (Out.Kill j n ∷ outs) h old trace end new (inr e) = absurd (no_end_is_none e.ends.1)
  where
    no_end_is_none : Some e.why ≡ None → ⊥
    no_end_is_none q = cc
carry_starts node (Send x p ∷ outs) h old trace end new a =
    ap (λ (l : List StartCall). map (λ (call : StartCall). (call.job, call.number)) l) (carry_starts_none node (Send x p ∷ outs) (tt, h) old trace end new a)
    ∙ sym (no_launch_out outs h)
