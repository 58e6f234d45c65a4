-- What holds of each event of a trace, by what the node held then and by what follows.
use Rattle.std.proofs.Common.{[], ◌++◌, ◌≡◌, ◌∙◌, ◌∷◌, ◌⊎◌, List, None, Option, Some, ap, append_assoc, inl, inr, refl, subst, sym}
use Rattle.std.proofs.lemmas.List.{append-nil}
use Rattle.std.specs.List.{AllByRecursion}
use Rattle.lemmas.proofs.Lists.{no_middle}
use Rattle.node_inputs.proofs.Fronts.{kept-append}
use Rattle.model.specs.Types.{Entry, Input}
use Rattle.model.specs.History.{view_of}
use Rattle.agent_core.specs.Nodes.{NodeState, view_in}
use Rattle.node_inputs.specs.Keeping.{IsRefusal}
use Rattle.node_inputs.specs.Traces.{Event, Trace, kept}
use Rattle.node_inputs.specs.declared.ends.NodeEnd.{NodeEnd}
use Rattle.node_inputs.specs.Actions.{Action}
use Rattle.run_laws.specs.Held.{held_after}
use Rattle.run_laws.proofs.Rules.{IsJoined}
use Rattle.run_laws.proofs.Splits.{InFirst, InSecond, IsFurther, IsHere, IsOnly, only_one, split_append, split_cons}
use Rattle.run_laws.proofs.Taking.{Steps}
use Rattle.run_laws.proofs.Tracing.{IsDone, StepTrace, step_keeps, step_trace}

-- the node is the same, and holds what it kept since
pub record Follows (a : NodeState) (front : Trace) (b : NodeState) : Type 0 where
  pub me_ : b.me ≡ a.me
  pub net_ : b.net ≡ a.net
  pub grows : b.kept ≡ a.kept ++ kept front

pub held_joined : (a b : NodeState) (front more : Trace) → Follows a front b
    → held_after b more ≡ held_after a (front ++ more)
held_joined a b front more h =
    ap view_of
    (ap (λ (l : List Entry). l ++ kept more) h.grows
    ∙ append_assoc a.kept (kept front) (kept more)
    ∙ ap (λ (l : List Entry). a.kept ++ l) (sym (kept-append front more)))

pub held_first : (a : NodeState) → view_in a ≡ held_after a []
held_first a = ap view_of (sym (append-nil a.kept))

-- what may hold of an event: of the node before all, the trace up to it, and the trace and the end behind it
abbrev pub Mark : Type 1
Mark = NodeState → Trace → Event → Trace → Option NodeEnd → Type 0

pub record Marks (R : Mark) (old : NodeState) (trace : Trace) (end : Option NodeEnd) (new : NodeState) : Type 0 where
  pub me_ : new.me ≡ old.me
  pub net_ : new.net ≡ old.net
  pub grows : end ≡ None → new.kept ≡ old.kept ++ kept trace
  pub each : (front : Trace) (event : Event) (back : Trace) → trace ≡ front ++ event ∷ back → R old front event back end

abbrev pub MarksAll : Mark → Action NodeState
MarksAll R old trace end new = Marks R old trace end new

-- it goes on to hold where more follows, and where more came before
pub record IsMark (R : Mark) : Type 0 where
  pub lower : (a : NodeState) (front : Trace) (event : Event) (rest more : Trace) (end : Option NodeEnd)
      → R a front event rest None → R a front event (rest ++ more) end
  pub upper : (a b : NodeState) (front more : Trace) (event : Event) (back : Trace) (end : Option NodeEnd) → Follows a front b
      → R b more event back end → R a (front ++ more) event back end

module _ (R : Mark) (m : IsMark R) where
  pub marks_rest : (s : NodeState) (end : Option NodeEnd) → Marks R s [] end s
  marks_rest s end = record {
    me_ = refl;
    net_ = refl;
    grows = λ h. sym (append-nil s.kept);
    each = λ front event back split. absurd (no_middle front back event split);
  }

  joins : (a b c : NodeState) (front back : Trace) (end : Option NodeEnd) → Marks R a front None b → Marks R b back end c
      → Marks R a (front ++ back) end c
  joins a b c front back end h k = record {
    me_ = k.me_ ∙ h.me_;
    net_ = k.net_ ∙ h.net_;
    grows = λ is.
        k.grows is ∙ ap (λ (l : List Entry). l ++ kept back) (h.grows refl) ∙ append_assoc a.kept (kept front) (kept back)
        ∙ ap (λ (l : List Entry). a.kept ++ l) (sym (kept-append front back));
    each = λ before event behind split. go before event behind (split_append front back before behind event split);
  }
    where
      go : (before : Trace) (event : Event) (behind : Trace)
          → InFirst front back before behind event ⊎ InSecond front back before behind event → R a before event behind end
      go before event behind (inl f) =
          subst (λ (t : Trace). R a before event t end) (sym f.behind)
          (m.lower a before event f.rest back end (h.each before event f.rest f.first))
      go before event behind (inr s) =
          subst (λ (t : Trace). R a t event behind end) (sym s.before)
          (m.upper a b front s.middle event behind end
          (record { me_ = h.me_; net_ = h.net_; grows = h.grows refl }) (k.each s.middle event behind s.second))

  pub marks_joined : IsJoined (MarksAll R)
  marks_joined = record { rests = λ s end rest. marks_rest s end; joins = joins }

-- one event that keeps nothing
pub one_marked : (R : Mark) (s : NodeState) (event : Event) → kept (event ∷ []) ≡ [] → R s [] event [] None → Marks R s (event ∷ []) None s
one_marked R s event none here = record {
  me_ = refl;
  net_ = refl;
  grows = λ h. sym (ap (λ (l : List Entry). s.kept ++ l) none ∙ append-nil s.kept);
  each = each;
}
  where
    each : (front : Trace) (e : Event) (back : Trace) → event ∷ [] ≡ front ++ e ∷ back → R s front e back None
    each front e back split =
        let only : IsOnly event front back e = only_one event front back e split in
        subst (λ (f : Trace). R s f e back None) (sym only.none_before)
        (subst (λ (b : Trace). R s [] e b None) (sym only.none_behind) (subst (λ (x : Event). R s [] x [] None) only.is here))

-- an event of a step: its entry, kept or refused, or one that is done behind it
pub data StepEvent (made : Option Entry) (front : Trace) (event : Event) (back : Trace) (end : Option NodeEnd) : Type 0 where
  keeps : (e : Entry) → made ≡ Some e → front ≡ [] → event ≡ Event.Keeps e → AllByRecursion IsDone back
      → StepEvent made front event back end
  refuses : (e : Entry) (why : NodeEnd) → IsRefusal why → made ≡ Some e → front ≡ [] → event ≡ Event.Refuses e why → back ≡ [] → end ≡ Some why
      → StepEvent made front event back end
  does : IsDone event → StepEvent made front event back end

one_done : (trace front back : Trace) (event : Event) → AllByRecursion IsDone trace → trace ≡ front ++ event ∷ back → IsDone event
one_done trace front back event h split = go front (subst (AllByRecursion IsDone) split h)
  where
    go : (front : Trace) → AllByRecursion IsDone (front ++ event ∷ back) → IsDone event
    go [] k = k.0
    go (d ∷ front) k = go front k.1

pub step_event : (input : Input) (old : NodeState) (trace : Trace) (end : Option NodeEnd) (new : NodeState)
    (h : Steps input old trace end new) (front : Trace) (event : Event) (back : Trace) → trace ≡ front ++ event ∷ back
    → StepEvent h.step.kept front event back end
step_event input old trace end new h front event back split = go (step_trace input old trace end new h)
  where
    go : StepTrace h.step.kept trace end → StepEvent h.step.kept front event back end
    go (StepTrace.none is done) = StepEvent.does (one_done trace front back event done split)
    go (StepTrace.one e rest is there done) = at (split_cons (Event.Keeps e) rest front back event (sym there ∙ split))
      where
        at : IsHere (Event.Keeps e) rest front back event ⊎ IsFurther (Event.Keeps e) rest front back event
            → StepEvent h.step.kept front event back end
        at (inl here) =
            StepEvent.keeps e is here.none_before (sym here.is) (subst (AllByRecursion IsDone) here.behind done)
        at (inr further) = StepEvent.does (one_done rest further.middle back event done further.second)
    go (StepTrace.refused e why is r there ends) =
        let only : IsOnly (Event.Refuses e why) front back event = only_one (Event.Refuses e why) front back event (sym there ∙ split) in
        StepEvent.refuses e why r is only.none_before (sym only.is) only.none_behind ends
    go (StepTrace.spent e is there ends) = absurd (no_middle front back event (sym there ∙ split))

-- a step, where the mark holds of its events
pub step_marked : (R : Mark) (input : Input) (old : NodeState) (trace : Trace) (end : Option NodeEnd) (new : NodeState)
    (h : Steps input old trace end new)
    → ((front : Trace) (event : Event) (back : Trace) → StepEvent h.step.kept front event back end → R old front event back end)
    → Marks R old trace end new
step_marked R input old trace end new h each = record {
  me_ = h.taken.me_;
  net_ = h.taken.net_;
  grows = grows;
  each = λ front event back split. each front event back (step_event input old trace end new h front event back split);
}
  where
    grows : end ≡ None → new.kept ≡ old.kept ++ kept trace
    grows is =
        let there : Steps input old trace None new = subst (λ (e : Option NodeEnd). Steps input old trace e new) is h in
        there.taken.kept ∙ ap (λ (l : List Entry). old.kept ++ l) (sym (step_keeps input old trace new there))
