-- What holds of each entry that is made holds of each that is kept, in what the node held then.
use Rattle.std.proofs.Common.{[], ◌++◌, ◌≡◌, ◌∙◌, ℕ, None, Option, Some, ap, inl, inr, refl, subst, sym}
use Rattle.model.specs.Types.{Entry, Input, Net}
use Rattle.model.specs.History.{View}
use Rattle.model.specs.NewEntry.{makes}
use Rattle.model.specs.PresentNet.{present_net}
use Rattle.model.specs.Sessions.{Session}
use Rattle.model.specs.Step.{Effect, effect}
use Rattle.agent_core.specs.Nodes.{NodeState, present_in, session_in, view_in}
use Rattle.agent_core.specs.Steps.{IsTaken}
use Rattle.agent_core.specs.declared.faults.Step.{Step}
use Rattle.node_inputs.specs.Traces.{Event, Trace}
use Rattle.node_inputs.specs.declared.ends.NodeEnd.{NodeEnd}
use Rattle.node_inputs.specs.declared.ends.NodeEnd.TheVariants.{NoMemory}
use Rattle.node_inputs.specs.Inputs.{Take}
use Rattle.run_laws.specs.Held.{held_after}
use Rattle.run_laws.proofs.Rules.{plain_memory, stop_gives}
use Rattle.run_laws.proofs.Taking.{IsRule, IsTold, Steps, StepsOrParts, its_effect, pass_over_gives, takes_parts, telling_gives}
use Rattle.run_laws.proofs.Marks.{Follows, IsMark, Mark, Marks, MarksAll, StepEvent, held_first, held_joined, marks_joined, marks_rest, one_marked, step_marked}

effect_made : (old : NodeState) (input : Input)
    → (effect old.net old.me (view_in old) (session_in old) input).made ≡ makes (present_in old) old.me (view_in old) (session_in old) input
unfolding effect
effect_made old input = refl

-- the entry of a step is the one that the definitions make
pub step_made : (old new : NodeState) (input : Input) (step : Step) → IsTaken old input step new
    → makes (present_in old) old.me (view_in old) (session_in old) input ≡ step.kept
step_made old new input step taken =
    sym (effect_made old input) ∙ ap (λ (d : Effect). d.made) (its_effect old new input step taken).is

-- what may hold of an entry in a view
abbrev pub Fact : Type 1
Fact = Net → ℕ → View → Entry → Type 0

-- it holds of an entry that is kept, in what the node holds then
abbrev pub OfKept : Fact → Mark
OfKept F a front (Event.Keeps e) back end = F a.net a.me (held_after a front) e
OfKept F a front event back end = Unit {0}

module _ (F : Fact) where
  moved : (a b : NodeState) (V W : View) (e : Entry) → b.net ≡ a.net → b.me ≡ a.me → V ≡ W → F b.net b.me V e → F a.net a.me W e
  moved a b V W e net_ me_ same h =
      subst (λ (n : Net). F n a.me W e) net_ (subst (λ (m : ℕ). F b.net m W e) me_ (subst (λ (U : View). F b.net b.me U e) same h))

  lower : (a : NodeState) (front : Trace) (event : Event) (rest more : Trace) (end : Option NodeEnd)
      → OfKept F a front event rest None → OfKept F a front event (rest ++ more) end
  lower a front (Event.Keeps e) rest more end h = h
  lower a front event rest more end h = tt

  upper : (a b : NodeState) (front more : Trace) (event : Event) (back : Trace) (end : Option NodeEnd) → Follows a front b
      → OfKept F b more event back end → OfKept F a (front ++ more) event back end
  upper a b front more (Event.Keeps e) back end f h =
      moved a b (held_after b more) (held_after a (front ++ more)) e f.net_ f.me_ (held_joined a b front more f) h
  upper a b front more event back end f h = tt

  pub kept_mark : IsMark (OfKept F)
  kept_mark = record { lower = lower; upper = upper }

  -- the step of an input, where it holds of the entry that is made
  pub step_keeping : (input : Input) (old : NodeState) (trace : Trace) (end : Option NodeEnd) (new : NodeState)
      → ((e : Entry) → makes (present_in old) old.me (view_in old) (session_in old) input ≡ Some e → F old.net old.me (view_in old) e)
      → Steps input old trace end new → Marks (OfKept F) old trace end new
  step_keeping input old trace end new made h = step_marked (OfKept F) input old trace end new h each
    where
      first : (d e : Entry) → Event.Keeps d ≡ Event.Keeps e → h.step.kept ≡ Some e → F old.net old.me (held_after old []) d
      first d e same is =
          subst (λ (V : View). F old.net old.me V d) (held_first old)
          (made d (step_made old new input h.step h.taken ∙ is ∙ ap Some (sym (entry_is d e same))))
        where
          entry_is : (d e : Entry) → Event.Keeps d ≡ Event.Keeps e → d ≡ e
          entry_is d e same = cc

      each : (front : Trace) (event : Event) (back : Trace) → StepEvent h.step.kept front event back end
          → OfKept F old front event back end
      each front (Event.Keeps d) back (StepEvent.keeps e is none same done) =
          subst (λ (t : Trace). F old.net old.me (held_after old t) d) (sym none) (first d e same is)
      each front (Event.Keeps d) back (StepEvent.refuses e why r is none same nothing ends) = cc
      each front (Event.Keeps d) back (StepEvent.does done) = absurd done
      each front event back k = tt

  abbrev pub IsMade : (Input → Type 0) → Type 0
  IsMade Q =
      (net : Net) (me : ℕ) (V : View) (s : Session) (input : Input) (e : Entry) → Q input
      → makes (present_net net V) me V s input ≡ Some e → F net me V e

  pub keeping_rule : (Q : Input → Type 0) → IsMade Q → ((input : Input) → IsTold input → Q input) → IsRule Q (MarksAll (OfKept F))
  keeping_rule Q made told = record {
    joined = marks_joined (OfKept F) kept_mark;
    spent = λ s end input due is. marks_rest (OfKept F) kept_mark s end;
    asks = λ s call. one_marked (OfKept F) s (Event.Asks call) refl tt;
    replies = λ s call. one_marked (OfKept F) s (Event.Replies call) refl tt;
    steps = λ input q old trace end new h.
        step_keeping input old trace end new (λ e. made old.net old.me (view_in old) (session_in old) input e q) h;
    told = told;
  }

  -- one input at a node, where it holds of the entry that the input makes there
  parts_keeping : (Q : Input → Type 0) → IsRule Q (MarksAll (OfKept F)) → (input : Input) (old : NodeState)
      → ((e : Entry) → makes (present_in old) old.me (view_in old) (session_in old) input ≡ Some e → F old.net old.me (view_in old) e)
      → (trace : Trace) (end : Option NodeEnd) (new : NodeState) → StepsOrParts input old trace end new
      → Marks (OfKept F) old trace end new
  parts_keeping Q r input old here trace end new (inl p) =
      subst (λ (x : Trace). Marks (OfKept F) old x end new) (sym p.split)
      (r.joined.joins old p.middle new p.front p.back end (step_keeping input old p.front None p.middle here p.begins)
      (telling_gives Q (MarksAll (OfKept F)) r p.became p.middle p.back end new p.goes_on))
  parts_keeping Q r input old here trace end new (inr s) = step_keeping input old trace end new here s

  pub take_keeping : (Q : Input → Type 0) → IsRule Q (MarksAll (OfKept F)) → (input : Input) (old : NodeState)
      → ((e : Entry) → makes (present_in old) old.me (view_in old) (session_in old) input ≡ Some e → F old.net old.me (view_in old) e)
      → (trace : Trace) (end : Option NodeEnd) (new : NodeState) → Take input old trace end new
      → Marks (OfKept F) old trace end new
  take_keeping Q r input old here trace end new (inl (inl h)) =
      parts_keeping Q r input old here trace end new (takes_parts input old trace end new h)
  take_keeping Q r input old here trace end new (inl (inr h)) =
      pass_over_gives Q (MarksAll (OfKept F)) r input h.0 old trace end new h.2 h.3
  take_keeping Q r input old here trace end new (inr h) =
      stop_gives (MarksAll (OfKept F)) r.joined NoMemory plain_memory old trace end new h
