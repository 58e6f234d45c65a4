-- Each launch that is kept is started, and none else.
use Rattle.std.proofs.Common.{[], ◌++◌, ◌≡◌, ◌∙◌, ◌∷◌, ℕ, List, None, Option, Some, ◌⊎◌, ap, append_assoc, inl, inr, map, refl, subst, sym}
use Rattle.std.proofs.lemmas.List.{map-append}
use Rattle.std.proofs.lemmas.List.Elements.{filter_map-append}
use Rattle.std.specs.List.{AllByRecursion}
use Rattle.std.specs.Option.{option_to_list}
use Rattle.std.specs.Prelude.{filter_map}
use Rattle.lemmas.proofs.Lists.{all_left, no_middle}
use Rattle.node_inputs.proofs.Fronts.{kept-append}
use Rattle.model.specs.Types.{Entry, Input}
use Rattle.outside.specs.Calls.{StartCall}
use Rattle.agent_core.specs.Nodes.{NodeState}
use Rattle.node_inputs.specs.Traces.{Event, Trace, kept, start_of, starts}
use Rattle.node_inputs.specs.declared.ends.NodeEnd.{NodeEnd}
use Rattle.node_inputs.specs.Actions.{Then}
use Rattle.node_inputs.specs.Inputs.{IsKeeping, Keep}
use Rattle.run_laws.specs.Launches.{launch_of, launches_kept, launches_started}
use Rattle.run_laws.proofs.Rules.{Gives, IsJoined}
use Rattle.run_laws.proofs.Given.{carry_starts, launch_out}
use Rattle.run_laws.proofs.Splits.{InFirst, InSecond, IsFurther, IsHere, only_one, split_append, split_cons}
use Rattle.run_laws.proofs.Tracing.{IsDone, StepTrace, all_done, done_keeps_none, front_kept, step_trace, trace_keeps}
use Rattle.run_laws.proofs.Taking.{GivesOut, IsAsk, IsRule, Steps}
use Rattle.run_laws.proofs.Launching.{AreLaunches, taken_launches}

pub started-append : (a b : Trace) → launches_started (a ++ b) ≡ launches_started a ++ launches_started b
started-append a b =
    ap (λ (l : List StartCall). map (λ (call : StartCall). (call.job, call.number)) l) (filter_map-append start_of a b)
    ∙ map-append (λ (call : StartCall). (call.job, call.number)) (starts a) (starts b)

pub launches-append : (me : ℕ) (a b : Trace) → launches_kept me (a ++ b) ≡ launches_kept me a ++ launches_kept me b
launches-append me a b =
    ap (λ (l : List Entry). filter_map (launch_of me) l) (kept-append a b) ∙ filter_map-append (launch_of me) (kept a) (kept b)

-- what is asked for keeps and starts nothing
asks_start_none : (trace : Trace) → AllByRecursion IsAsk trace → launches_started trace ≡ []
asks_start_none [] h = refl
asks_start_none (Event.Asks call ∷ trace) h = asks_start_none trace h.1
asks_start_none (e ∷ trace) h = absurd h.0

keeping_starts_none : (m : Option Entry) (trace : Trace) (end : Option NodeEnd) → IsKeeping m trace end → launches_started trace ≡ []
keeping_starts_none None trace end h = rw h.0 refl
keeping_starts_none (Some e) trace end (inl h) = rw h.0 refl
keeping_starts_none (Some e) trace end (inr (inl h)) = rw h.2 refl
keeping_starts_none (Some e) trace end (inr (inr h)) = rw h.0 refl

ends_keep_none : (m : Option Entry) (trace : Trace) (why : NodeEnd) → IsKeeping m trace (Some why) → kept trace ≡ []
ends_keep_none None trace why h = cc
ends_keep_none (Some e) trace why (inl h) = cc
ends_keep_none (Some e) trace why (inr (inl h)) = rw h.2 refl
ends_keep_none (Some e) trace why (inr (inr h)) = rw h.0 refl

one_filtered : (me : ℕ) (e : Entry) → filter_map (launch_of me) (e ∷ []) ≡ option_to_list (launch_of me e)
one_filtered me e = go (launch_of me e) refl
  where
    go : (o : Option (ℕ × ℕ)) → launch_of me e ≡ o → filter_map (launch_of me) (e ∷ []) ≡ option_to_list o
    go None same = rw same refl
    go (Some x) same = rw same refl

-- at most one
none_behind : {X : Type 0} (o : Option X) (front back : List X) (x : X) → option_to_list o ≡ front ++ x ∷ back → back ≡ []
none_behind None front back x e = absurd (no_middle front back x e)
none_behind (Some y) front back x e = (only_one y front back x e).none_behind

-- the node is the same and started what it kept, and each launch was kept before it started
pub record StartsItsLaunches (old : NodeState) (trace : Trace) (end : Option NodeEnd) (new : NodeState) : Type 0 where
  pub me_ : new.me ≡ old.me
  pub started : launches_started trace ≡ launches_kept old.me trace
  pub kept_first : (front back : Trace) (call : StartCall) → trace ≡ front ++ Event.Starts call ∷ back
      → launches_kept old.me front ≡ launches_started front ++ (call.job, call.number) ∷ []

starts_rest : (s : NodeState) (end : Option NodeEnd) → StartsItsLaunches s [] end s
starts_rest s end = record {
  me_ = refl;
  started = refl;
  kept_first = λ front back call split. absurd (no_middle front back (Event.Starts call) split);
}

starts_joined : IsJoined (λ o t e n. StartsItsLaunches o t e n)
starts_joined = record { rests = λ s end rest. starts_rest s end; joins = joins }
  where
    joins : (a b c : NodeState) (front back : Trace) (end : Option NodeEnd) → StartsItsLaunches a front None b
        → StartsItsLaunches b back end c → StartsItsLaunches a (front ++ back) end c
    joins a b c front back end h k = record {
      me_ = k.me_ ∙ h.me_;
      started =
          started-append front back
          ∙ ap (λ (l : List (ℕ × ℕ)). l ++ launches_started back) h.started
          ∙ ap (λ (l : List (ℕ × ℕ)). launches_kept a.me front ++ l)
          (k.started ∙ ap (λ (m : ℕ). launches_kept m back) h.me_)
          ∙ sym (launches-append a.me front back);
      kept_first = λ before behind call split.
          go before behind call (split_append front back before behind (Event.Starts call) split);
    }
      where
        go : (before behind : Trace) (call : StartCall)
            → InFirst front back before behind (Event.Starts call) ⊎ InSecond front back before behind (Event.Starts call)
            → launches_kept a.me before ≡ launches_started before ++ (call.job, call.number) ∷ []
        go before behind call (inl f) = h.kept_first before f.rest call f.first
        go before behind call (inr s) =
            ap (launches_kept a.me) s.before
            ∙ launches-append a.me front s.middle
            ∙ ap (λ (l : List (ℕ × ℕ)). l ++ launches_kept a.me s.middle) (sym h.started)
            ∙ ap (λ (l : List (ℕ × ℕ)). launches_started front ++ l)
            (ap (λ (m : ℕ). launches_kept m s.middle) (sym h.me_) ∙ k.kept_first s.middle behind call s.second)
            ∙ sym (append_assoc (launches_started front) (launches_started s.middle) ((call.job, call.number) ∷ []))
            ∙ ap (λ (l : List (ℕ × ℕ)). l ++ (call.job, call.number) ∷ [])
            (sym (started-append front s.middle) ∙ ap launches_started (sym s.before))

-- an event that keeps and starts nothing
pub one_starts_none : (s : NodeState) (event : Event) → launches_started (event ∷ []) ≡ [] → kept (event ∷ []) ≡ []
    → StartsItsLaunches s (event ∷ []) None s
one_starts_none s event none nothing = record {
  me_ = refl;
  started = none ∙ ap (λ (l : List Entry). filter_map (launch_of s.me) l) (sym nothing);
  kept_first = λ front back call split.
      absurd (no_middle (launches_started front) (launches_started back) (call.job, call.number)
      (sym none ∙ ap launches_started split ∙ started-append front (Event.Starts call ∷ back)));
}

-- a step that keeps one entry and starts one job does so in this order
step_kept_first : (made : Option Entry) (me : ℕ) (trace : Trace) (end : Option NodeEnd) → StepTrace made trace end
    → launches_started trace ≡ launches_kept me trace → (front back : Trace) (call : StartCall)
    → trace ≡ front ++ Event.Starts call ∷ back → launches_kept me front ≡ launches_started front ++ (call.job, call.number) ∷ []
step_kept_first made me trace end t same front back call split = go t
  where
    in_order : launches_started trace ≡ launches_started front ++ (call.job, call.number) ∷ launches_started back
    in_order = ap launches_started split ∙ started-append front (Event.Starts call ∷ back)

    nothing_kept : kept trace ≡ [] → ⊥
    nothing_kept none =
        no_middle (launches_started front) (launches_started back) (call.job, call.number)
        (ap (λ (l : List Entry). filter_map (launch_of me) l) (sym none) ∙ sym same ∙ in_order)

    go : StepTrace made trace end → launches_kept me front ≡ launches_started front ++ (call.job, call.number) ∷ []
    go (StepTrace.none is done) = absurd (nothing_kept (done_keeps_none trace done))
    go (StepTrace.refused e why is r there ends) = absurd (nothing_kept (ap kept there))
    go (StepTrace.spent e is there ends) = absurd (nothing_kept (ap kept there))
    go (StepTrace.one e rest is there done) =
        at (split_cons (Event.Keeps e) rest front back (Event.Starts call) (sym there ∙ split))
      where
        whole : launches_kept me trace ≡ option_to_list (launch_of me e)
        whole =
            ap (launches_kept me) there
            ∙ ap (λ (l : List Entry). filter_map (launch_of me) (e ∷ l)) (done_keeps_none rest done)
            ∙ one_filtered me e

        last : launches_started back ≡ []
        last =
            none_behind (launch_of me e) (launches_started front) (launches_started back) (call.job, call.number)
            (sym whole ∙ sym same ∙ in_order)

        at : IsHere (Event.Keeps e) rest front back (Event.Starts call) ⊎ IsFurther (Event.Keeps e) rest front back (Event.Starts call)
            → launches_kept me front ≡ launches_started front ++ (call.job, call.number) ∷ []
        at (inl here) = absurd (clash here.is)
          where
            clash : Event.Keeps e ≡ Event.Starts call → ⊥
            clash q = cc
        at (inr further) =
            let none : kept further.middle ≡ [] = done_keeps_none further.middle
            (all_left IsDone further.middle (Event.Starts call ∷ back) (subst (AllByRecursion IsDone) further.second done)) in
            ap (launches_kept me) further.first
            ∙ ap (λ (l : List Entry). filter_map (launch_of me) (e ∷ l)) none
            ∙ one_filtered me e
            ∙ sym whole ∙ sym same ∙ in_order
            ∙ ap (λ (l : List (ℕ × ℕ)). launches_started front ++ (call.job, call.number) ∷ l) last

step_starts : (input : Input) → Gives (λ o t e n. Steps input o t e n) (λ o t e n. StartsItsLaunches o t e n)
step_starts input old trace end new h =
    record { me_ = h.taken.me_; started = same; kept_first = step_kept_first h.step.kept old.me trace end seen same }
  where
    both : AreLaunches old.me h.step.kept h.step.outs
    both = taken_launches old new input h.step h.taken

    seen : StepTrace h.step.kept trace end
    seen = step_trace input old trace end new h

    go : Then (Keep h.step.kept) (λ o t e n. GivesOut h.step.outs o t e n) new trace end new
        → launches_started trace ≡ launches_kept old.me trace
    go (inl b) =
        let g : GivesOut h.step.outs b.middle b.back end new = b.goes_on in
        let started_all : launches_started trace ≡ filter_map launch_out h.step.outs =
        ap launches_started (b.split ∙ ap (λ (t : Trace). b.front ++ t) g.split)
        ∙ started-append b.front (g.asks ++ g.carried)
        ∙ ap (λ (l : List (ℕ × ℕ)). l ++ launches_started (g.asks ++ g.carried))
        (keeping_starts_none h.step.kept b.front None b.begins.0)
        ∙ started-append g.asks g.carried
        ∙ ap (λ (l : List (ℕ × ℕ)). l ++ launches_started g.carried) (asks_start_none g.asks g.are_asks)
        ∙ carry_starts b.middle h.step.outs both.first _ g.carried end g.so_far g.carries in
        let kept_all : kept trace ≡ option_to_list h.step.kept =
        trace_keeps h.step.kept trace
        (front_kept h.step.kept b.front (g.asks ++ g.carried) trace None
        (b.split ∙ ap (λ (t : Trace). b.front ++ t) g.split) (all_done h.step.outs b.middle b.back end new g) b.begins.0) in
        started_all ∙ both.same ∙ ap (λ (l : List Entry). filter_map (launch_of old.me) l) (sym kept_all)
    go (inr e) =
        keeping_starts_none h.step.kept trace (Some e.why) e.ends.0
        ∙ ap (λ (l : List Entry). filter_map (launch_of old.me) l) (sym (ends_keep_none h.step.kept trace e.why e.ends.0))

    same : launches_started trace ≡ launches_kept old.me trace
    same = go h.acts

pub starts_rule : IsRule (λ i. Unit {0}) (λ o t e n. StartsItsLaunches o t e n)
starts_rule = record {
  joined = starts_joined;
  spent = λ s end input due is. starts_rest s end;
  asks = λ s call. one_starts_none s (Event.Asks call) refl refl;
  replies = λ s call. one_starts_none s (Event.Replies call) refl refl;
  steps = λ input q. step_starts input;
  told = λ input t. tt;
}
