-- What a run does, one small move after the other: an event that changes no node, or the step of an input.
use Rattle.std.proofs.Common.{[], ◌++◌, ◌≡◌, ◌∙◌, ◌∷◌, ℕ, List, None, Option, Some, ap, append_assoc, subst, sym}
use Rattle.std.proofs.lemmas.List.{append-nil}
use Rattle.std.specs.Prelude.{Ok}
use Rattle.lemmas.proofs.Options.{none_some}
use Rattle.model.specs.Types.{Entry, Input, Launch, Out, Packet, Send}
use Rattle.outside.specs.Calls.{Sent}
use Rattle.entry_codec.specs.Entries.{entry_in}
use Rattle.mail_frames.specs.declared.frames.Frame.{Frame}
use Rattle.mail_frames.specs.declared.frames.Frame.TheVariants as frame
use Rattle.mail_frames.specs.Spelling.{frame_bytes}
use Rattle.agent_core.specs.Nodes.{NodeState}
use Rattle.agent_core.specs.Steps.{IsTaken}
use Rattle.agent_core.specs.declared.faults.Step.{Step}
use Rattle.node_inputs.specs.Traces.{Event, Trace}
use Rattle.node_inputs.specs.declared.ends.NodeEnd.{NodeEnd}
use Rattle.node_inputs.specs.declared.ends.NodeEnd.TheVariants.{NoMemory}
use Rattle.node_inputs.specs.Inputs.{frame_of}
use Rattle.network_runs.specs.Happenings.{heard_from}
use Rattle.network_runs.specs.Nights.{StandsIn}
use Rattle.network_runs.proofs.Members.{IsIn}

-- an input of the node itself, or one that stands in what was heard of a workstation
abbrev pub CameBy : (ℕ → List ℕ) → Input → Type 0
CameBy heard (Input.Local l) = Unit {0}
CameBy heard (Input.Mail x e) =
    (bytes : List ℕ) × StandsIn (heard x) (frame.Mail bytes) × (entry_in bytes ≡ Ok e)
CameBy heard (Input.Ack x f n) = StandsIn (heard x) (frame.Ack f n)

-- a frame brings a packet to a workstation
pub record Brings (node : NodeState) (outs : List Out) (call : Sent) : Type 0 where
  pub packet : Packet
  pub given : IsIn (Send call.to packet) outs
  pub frame_ : Frame
  pub is : frame_of node packet ≡ Some frame_
  pub bytes_ : call.bytes ≡ frame_bytes frame_

-- an event that keeps nothing, of a node whose last step gave this out
abbrev pub IsMinor : NodeState → List Out → Event → Type 0
IsMinor node outs (Event.Keeps e) = ⊥
IsMinor node outs (Event.Refuses e why) = ⊥
IsMinor node outs (Event.Starts call) = IsIn (Launch call.job call.number call.work) outs
IsMinor node outs (Event.Sends call) = Brings node outs call
IsMinor node outs _ = Unit {0}

pub data Story : Trace → NodeState → List Out → Trace → Option NodeEnd → NodeState → Type 0 where
  rests : (past : Trace) (s : NodeState) (outs : List Out) (trace : Trace) (end : Option NodeEnd) (new : NodeState)
      → trace ≡ [] → new ≡ s → Story past s outs trace end new
  passes : (past : Trace) (s : NodeState) (outs : List Out) (trace : Trace) (end : Option NodeEnd) (new : NodeState)
      (event : Event) (rest : Trace) → trace ≡ event ∷ rest → IsMinor s outs event
      → Story (past ++ event ∷ []) s outs rest end new → Story past s outs trace end new
  quiet : (past : Trace) (s : NodeState) (outs : List Out) (trace : Trace) (end : Option NodeEnd) (new : NodeState)
      (input : Input) (step : Step) (middle : NodeState) → CameBy (λ x. heard_from x past) input
      → IsTaken s input step middle → step.kept ≡ None → Story past middle step.outs trace end new
      → Story past s outs trace end new
  keeps : (past : Trace) (s : NodeState) (outs : List Out) (trace : Trace) (end : Option NodeEnd) (new : NodeState)
      (input : Input) (step : Step) (middle : NodeState) (e : Entry) (rest : Trace) → trace ≡ Event.Keeps e ∷ rest
      → CameBy (λ x. heard_from x past) input → IsTaken s input step middle → step.kept ≡ Some e
      → Story (past ++ Event.Keeps e ∷ []) middle step.outs rest end new → Story past s outs trace end new
  refused : (past : Trace) (s : NodeState) (outs : List Out) (trace : Trace) (end : Option NodeEnd) (new : NodeState)
      (input : Input) (step : Step) (middle : NodeState) (e : Entry) (why : NodeEnd) → trace ≡ Event.Refuses e why ∷ []
      → end ≡ Some why → CameBy (λ x. heard_from x past) input → IsTaken s input step middle → step.kept ≡ Some e
      → Story past s outs trace end new
  spent : (past : Trace) (s : NodeState) (outs : List Out) (trace : Trace) (end : Option NodeEnd) (new : NodeState)
      → trace ≡ [] → end ≡ Some NoMemory → Story past s outs trace end new

-- one stretch and another
pub joined : (past : Trace) (a : NodeState) (outs : List Out) (front : Trace) (b : NodeState) (stop : Option NodeEnd)
    (back : Trace) (end : Option NodeEnd) (c : NodeState) → stop ≡ None → Story past a outs front stop b
    → ((given : List Out) → Story (past ++ front) b given back end c) → Story past a outs (front ++ back) end c
joined past a outs front b stop back end c goes (Story.rests _ _ _ _ _ _ none same) more =
    subst (λ (t : Trace). Story past a outs (t ++ back) end c) (sym none)
    (subst (λ (s : NodeState). Story past s outs back end c) same
    (subst (λ (t : Trace). Story t b outs back end c) (ap (λ (t : Trace). past ++ t) none ∙ append-nil past) (more outs)))
joined past a outs front b stop back end c goes (Story.passes _ _ _ _ _ _ event rest split minor h) more =
    Story.passes past a outs (front ++ back) end c event (rest ++ back) (ap (λ (t : Trace). t ++ back) split) minor
    (joined (past ++ event ∷ []) a outs rest b stop back end c goes h
    (λ given. subst (λ (t : Trace). Story t b given back end c)
    (ap (λ (t : Trace). past ++ t) split ∙ sym (append_assoc past (event ∷ []) rest)) (more given)))
joined past a outs front b stop back end c goes (Story.quiet _ _ _ _ _ _ input step middle came taken none h) more =
    Story.quiet past a outs (front ++ back) end c input step middle came taken none
    (joined past middle step.outs front b stop back end c goes h more)
joined past a outs front b stop back end c goes (Story.keeps _ _ _ _ _ _ input step middle e rest split came taken is h) more =
    Story.keeps past a outs (front ++ back) end c input step middle e (rest ++ back) (ap (λ (t : Trace). t ++ back) split)
    came taken is
    (joined (past ++ Event.Keeps e ∷ []) middle step.outs rest b stop back end c goes h
    (λ given. subst (λ (t : Trace). Story t b given back end c)
    (ap (λ (t : Trace). past ++ t) split ∙ sym (append_assoc past (Event.Keeps e ∷ []) rest)) (more given)))
joined past a outs front b stop back end c goes (Story.refused _ _ _ _ _ _ input step middle e why split is came taken kept) more =
    absurd (none_some (sym goes ∙ is))
joined past a outs front b stop back end c goes (Story.spent _ _ _ _ _ _ split is) more = absurd (none_some (sym goes ∙ is))
