-- The events of a step: its entry is kept first, or the run ends there.
use Rattle.std.proofs.Common.{[], ◌++◌, ◌≡◌, ◌∙◌, ◌∷◌, List, None, Option, Some, ap, inl, inr, refl, subst, sym}
use Rattle.std.specs.List.{AllByRecursion}
use Rattle.std.specs.Option.{option_to_list}
use Rattle.node_inputs.proofs.Fronts.{kept-append}
use Rattle.lemmas.proofs.Lists.{all_append, no_middle}
use Rattle.model.specs.Types.{Entry, Input, Out}
use Rattle.agent_core.specs.Nodes.{NodeState}
use Rattle.node_inputs.specs.Keeping.{IsRefusal}
use Rattle.node_inputs.specs.Traces.{Event, Trace, kept}
use Rattle.node_inputs.specs.declared.ends.NodeEnd.{NodeEnd}
use Rattle.node_inputs.specs.declared.ends.NodeEnd.TheVariants.{NoMemory}
use Rattle.node_inputs.specs.Actions.{Then}
use Rattle.node_inputs.specs.Inputs.{IsKeeping, Keep}
use Rattle.run_laws.proofs.Given.{IsGiven, carry_gives}
use Rattle.run_laws.proofs.Taking.{GivesOut, IsAsk, Steps}

-- what is done behind an entry: links are asked for, jobs start or are killed, and frames are sent
abbrev pub IsDone : Event → Type 0
IsDone (Event.Asks call) = Unit {0}
IsDone (Event.Starts call) = Unit {0}
IsDone (Event.Kills j n) = Unit {0}
IsDone (Event.Sends call) = Unit {0}
IsDone _ = ⊥

asks_are_done : (trace : Trace) → AllByRecursion IsAsk trace → AllByRecursion IsDone trace
asks_are_done [] h = tt
asks_are_done (Event.Asks call ∷ trace) h = (tt, asks_are_done trace h.1)
asks_are_done (e ∷ trace) h = absurd h.0

given_is_done : (trace : Trace) → AllByRecursion IsGiven trace → AllByRecursion IsDone trace
given_is_done [] h = tt
given_is_done (Event.Starts call ∷ trace) h = (tt, given_is_done trace h.1)
given_is_done (Event.Kills j n ∷ trace) h = (tt, given_is_done trace h.1)
given_is_done (Event.Sends call ∷ trace) h = (tt, given_is_done trace h.1)
given_is_done (e ∷ trace) h = absurd h.0

pub done_keeps_none : (trace : Trace) → AllByRecursion IsDone trace → kept trace ≡ []
done_keeps_none [] h = refl
done_keeps_none (Event.Asks call ∷ trace) h = done_keeps_none trace h.1
done_keeps_none (Event.Starts call ∷ trace) h = done_keeps_none trace h.1
done_keeps_none (Event.Kills j n ∷ trace) h = done_keeps_none trace h.1
done_keeps_none (Event.Sends call ∷ trace) h = done_keeps_none trace h.1
done_keeps_none (e ∷ trace) h = absurd h.0

-- where nothing was kept no entry stands
pub none_kept : (trace front back : Trace) (e : Entry) → kept trace ≡ [] → trace ≡ front ++ Event.Keeps e ∷ back → ⊥
none_kept trace front back e none split =
    no_middle (kept front) (kept back) e (sym none ∙ ap kept split ∙ kept-append front (Event.Keeps e ∷ back))

-- the trace of a step that makes this
pub data StepTrace (made : Option Entry) (trace : Trace) (end : Option NodeEnd) : Type 0 where
  none : made ≡ None → AllByRecursion IsDone trace → StepTrace made trace end
  one : (e : Entry) (rest : Trace) → made ≡ Some e → trace ≡ Event.Keeps e ∷ rest → AllByRecursion IsDone rest
      → StepTrace made trace end
  refused : (e : Entry) (why : NodeEnd) → made ≡ Some e → IsRefusal why → trace ≡ Event.Refuses e why ∷ []
      → end ≡ Some why → StepTrace made trace end
  spent : (e : Entry) → made ≡ Some e → trace ≡ [] → end ≡ Some NoMemory → StepTrace made trace end

why_is : {a b : NodeEnd} → Some a ≡ Some b → a ≡ b
why_is e = cc

pub front_kept : (made : Option Entry) (front rest trace : Trace) (end : Option NodeEnd) → trace ≡ front ++ rest
    → AllByRecursion IsDone rest → IsKeeping made front None → StepTrace made trace end
front_kept None front rest trace end split done h =
    StepTrace.none refl (subst (AllByRecursion IsDone) (sym (split ∙ ap (λ (t : Trace). t ++ rest) h.0)) done)
front_kept (Some e) front rest trace end split done (inl h) =
    StepTrace.one e rest refl (split ∙ ap (λ (t : Trace). t ++ rest) h.0) done
front_kept (Some e) front rest trace end split done (inr (inl h)) = cc
front_kept (Some e) front rest trace end split done (inr (inr h)) = cc

not_kept : (made : Option Entry) (trace : Trace) (end : Option NodeEnd) (why : NodeEnd) → end ≡ Some why
    → IsKeeping made trace (Some why) → StepTrace made trace end
not_kept None trace end why is h = cc
not_kept (Some e) trace end why is (inl h) = cc
not_kept (Some e) trace end why is (inr (inl h)) = StepTrace.refused e h.0 refl h.1 h.2 (is ∙ h.3)
not_kept (Some e) trace end why is (inr (inr h)) = StepTrace.spent e refl h.0 (is ∙ h.1)

pub all_done : (outs : List Out) (old : NodeState) (trace : Trace) (end : Option NodeEnd) (new : NodeState)
    (g : GivesOut outs old trace end new) → AllByRecursion IsDone (g.asks ++ g.carried)
all_done outs old trace end new g =
    all_append IsDone g.asks g.carried (asks_are_done g.asks g.are_asks)
    (given_is_done g.carried (carry_gives old outs _ g.carried end g.so_far g.carries))

pub step_trace : (input : Input) (old : NodeState) (trace : Trace) (end : Option NodeEnd) (new : NodeState)
    (h : Steps input old trace end new) → StepTrace h.step.kept trace end
step_trace input old trace end new h = go h.acts
  where
    go : Then (Keep h.step.kept) (λ o t e n. GivesOut h.step.outs o t e n) new trace end new
        → StepTrace h.step.kept trace end
    go (inl b) =
        let g : GivesOut h.step.outs b.middle b.back end new = b.goes_on in
        let done : AllByRecursion IsDone (g.asks ++ g.carried) = all_done h.step.outs b.middle b.back end new g in
        front_kept h.step.kept b.front (g.asks ++ g.carried) trace end
        (b.split ∙ ap (λ (t : Trace). b.front ++ t) g.split) done b.begins.0
    go (inr e) = not_kept h.step.kept trace end e.why e.for_that_cause e.ends.0

-- what was kept, where the run goes on
pub trace_keeps : (made : Option Entry) (trace : Trace) → StepTrace made trace None → kept trace ≡ option_to_list made
trace_keeps made trace (StepTrace.none is done) = done_keeps_none trace done ∙ sym (ap option_to_list is)
trace_keeps made trace (StepTrace.one e rest is split done) =
    ap kept split ∙ ap (λ (l : List Entry). e ∷ l) (done_keeps_none rest done) ∙ sym (ap option_to_list is)
trace_keeps made trace (StepTrace.refused e why is r split end) = cc
trace_keeps made trace (StepTrace.spent e is split end) = cc

pub step_keeps : (input : Input) (old : NodeState) (trace : Trace) (new : NodeState)
    (h : Steps input old trace None new) → kept trace ≡ option_to_list h.step.kept
step_keeps input old trace new h = trace_keeps h.step.kept trace (step_trace input old trace None new h)
