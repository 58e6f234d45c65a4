-- Nothing follows an entry that was refused.
use Rattle.std.proofs.Common.{[], ◌++◌, ◌≡◌, ◌∙◌, None, Option, Some, ap, refl, subst}
use Rattle.model.specs.Types.{Entry}
use Rattle.agent_core.specs.Nodes.{NodeState}
use Rattle.node_inputs.specs.Keeping.{IsRefusal}
use Rattle.node_inputs.specs.Traces.{Event, Trace}
use Rattle.node_inputs.specs.declared.ends.NodeEnd.{NodeEnd}
use Rattle.run_laws.proofs.Taking.{IsRule}
use Rattle.run_laws.proofs.Marks.{Follows, IsMark, Mark, MarksAll, StepEvent, marks_joined, marks_rest, one_marked, step_marked}

-- a refusal is the last of all, and the end is its own
abbrev pub EndsThere : Mark
EndsThere a front (Event.Refuses e why) back end = (back ≡ []) × (end ≡ Some why) × IsRefusal why
EndsThere a front event back end = Unit {0}

lower : (a : NodeState) (front : Trace) (event : Event) (rest more : Trace) (end : Option NodeEnd)
    → EndsThere a front event rest None → EndsThere a front event (rest ++ more) end
lower a front (Event.Refuses e why) rest more end h = absurd (none_is_no_end h.1)
  where
    none_is_no_end : None ≡ Some why → ⊥
    none_is_no_end q = cc
lower a front event rest more end h = tt

upper : (a b : NodeState) (front more : Trace) (event : Event) (back : Trace) (end : Option NodeEnd) → Follows a front b
    → EndsThere b more event back end → EndsThere a (front ++ more) event back end
upper a b front more (Event.Refuses e why) back end f h = h
upper a b front more event back end f h = tt

refusal_mark : IsMark EndsThere
refusal_mark = record { lower = lower; upper = upper }

event_ends : (made : Option Entry) (old : NodeState) (end : Option NodeEnd) (front : Trace) (event : Event) (back : Trace)
    → StepEvent made front event back end → EndsThere old front event back end
event_ends made old end front (Event.Refuses d w) back (StepEvent.keeps e is none same done) = cc
event_ends made old end front (Event.Refuses d w) back (StepEvent.refuses e why r is none same nothing ends) =
    (nothing, ends ∙ ap Some (why_is same), subst IsRefusal (why_is same) r)
  where
    why_is : Event.Refuses d w ≡ Event.Refuses e why → why ≡ w
    why_is q = cc
event_ends made old end front (Event.Refuses d w) back (StepEvent.does done) = absurd done
event_ends made old end front event back k = tt

pub refusal_rule : IsRule (λ i. Unit {0}) (MarksAll EndsThere)
refusal_rule = record {
  joined = marks_joined EndsThere refusal_mark;
  spent = λ s end input due is. marks_rest EndsThere refusal_mark s end;
  asks = λ s call. one_marked EndsThere s (Event.Asks call) refl tt;
  replies = λ s call. one_marked EndsThere s (Event.Replies call) refl tt;
  steps = λ input q old trace end new h.
      step_marked EndsThere input old trace end new h (event_ends h.step.kept old end);
  told = λ input t. tt;
}
