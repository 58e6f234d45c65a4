-- What a node types by itself is the advice of what it held then.
use Rattle.std.proofs.Common.{[], ◌++◌, ◌≡◌, ◌∙◌, ◌∷◌, ◌⊎◌, ℕ, Bool, None, Option, Some, ap, false, inl, inr, refl, subst, sym, true}
use Rattle.std.proofs.lemmas.List.Sums.{fold-append}
use Rattle.std.specs.List.{AllByRecursion}
use Rattle.std.specs.Prelude.{fold}
use Rattle.lemmas.proofs.Lists.{all_append}
use Rattle.composer_parser.specs.declared.Defs.{Defs}
use Rattle.model.specs.Types.{Cmd, Entry, Input, Local, Net, Order, Orders, Rerun, StartFailed, Turn, Typed, Unlinked}
use Rattle.model.specs.History.{View}
use Rattle.model.specs.NewEntry.{makes, next_entry, own_entry}
use Rattle.agent_core.specs.Nodes.{NodeState, present_in, session_in, view_in}
use Rattle.recovery_watch.specs.Advice.{advice}
use Rattle.node_inputs.specs.Traces.{Event, Trace}
use Rattle.node_inputs.specs.declared.ends.NodeEnd.{NodeEnd}
use Rattle.node_inputs.specs.Actions.{Action, IfThere, Nothing}
use Rattle.node_inputs.specs.Inputs.{Take}
use Rattle.run_laws.specs.Alone.{alone_with}
use Rattle.run_laws.specs.Held.{held_after}
use Rattle.node_loop.specs.Runs.{Advise, Come, Comes, Run}
use Rattle.run_laws.proofs.Rules.{Gives, IsJoined, nothing_gives, wants_gives}
use Rattle.run_laws.proofs.Splits.{IsFurther, IsHere, split_cons}
use Rattle.run_laws.proofs.Taking.{IsRule, IsTold, Steps, take_gives}
use Rattle.run_laws.proofs.Tracing.{IsDone, StepTrace, step_trace}
use Rattle.run_laws.proofs.Marks.{Follows, Mark, Marks, MarksAll, held_joined, marks_joined, one_marked}
use Rattle.run_laws.proofs.Keeping.{Fact, OfKept, keeping_rule, take_keeping}
use Rattle.run_laws.proofs.Made.{IsNoTyped, made_order}
use Rattle.run_laws.proofs.Turning.{Lifted, arrive_gives, behind_gives, event_then, lifted_joined, on_gives, probing_gives, reports_gives, run_gives, turn_gives}
use Rattle.model.specs.Sessions.{Session}

-- an order of the node to itself is the advice
pub record IsAdvised (me : ℕ) (V : View) (e : Entry) : Type 0 where
  pub command : Cmd
  pub its_body : e.body ≡ Order command
  pub due : advice V me ≡ Some command

abbrev OwnAdvice : Fact
OwnAdvice net me V e = e.feed ≡ Orders me me → IsAdvised me V e

told_is_untyped : (input : Input) → IsTold input → IsNoTyped input
told_is_untyped (Input.Local (Local.Started j)) h = tt
told_is_untyped (Input.Local (StartFailed j)) h = tt
told_is_untyped (Input.Local (Unlinked x)) h = tt
told_is_untyped input h = absurd h

advice_rule : IsRule IsNoTyped (MarksAll (OfKept OwnAdvice))
advice_rule =
    keeping_rule OwnAdvice IsNoTyped
    (λ net me V s input e q h same. absurd (made_order net me V s input e q h same)) told_is_untyped

typed_entry : (net : Net) (me to : ℕ) (V : View) (s : Session) (c : Cmd)
    → makes net me V s (Input.Local (Typed to c)) ≡ Some (next_entry V (Orders me to) (Order c))
unfolding makes own_entry
typed_entry net me to V s c = refl

-- the advice is typed
advised_keeping : Gives Advise (MarksAll (OfKept OwnAdvice))
advised_keeping old trace end new h = go (advice (view_in old) old.me) refl h
  where
    made : (c : Cmd) → advice (view_in old) old.me ≡ Some c → (e : Entry)
        → makes (present_in old) old.me (view_in old) (session_in old) (Input.Local (Typed old.me c)) ≡ Some e
        → OwnAdvice old.net old.me (view_in old) e
    made c is e same own =
        let entry : Some (next_entry (view_in old) (Orders old.me old.me) (Order c)) ≡ Some e =
        sym (typed_entry (present_in old) old.me old.me (view_in old) (session_in old) c) ∙ same in
        record { command = c; its_body = sym (ap (λ (d : Entry). d.body) (inside entry)); due = is }
      where
        inside : {d : Entry} → Some d ≡ Some e → d ≡ e
        inside q = cc

    go : (o : Option Cmd) → advice (view_in old) old.me ≡ o
        → IfThere o (λ (c : Cmd). Take (Input.Local (Typed old.me c))) Nothing old trace end new
        → Marks (OfKept OwnAdvice) old trace end new
    go None is k = nothing_gives (MarksAll (OfKept OwnAdvice)) advice_rule.joined old trace end new k
    go (Some c) is k =
        take_keeping OwnAdvice IsNoTyped advice_rule (Input.Local (Typed old.me c)) old (made c is) trace end new k

-- behind an arrival nothing is asked of processes before the arrival is done with
abbrev IsQuiet : Event → Type 0
IsQuiet (Event.Reads t) = ⊥
IsQuiet (Event.Comes a) = ⊥
IsQuiet (Event.Reports answer) = ⊥
IsQuiet _ = Unit {0}

abbrev Quiet : Action NodeState
Quiet old trace end new = AllByRecursion IsQuiet trace

done_is_quiet : (trace : Trace) → AllByRecursion IsDone trace → AllByRecursion IsQuiet trace
done_is_quiet [] h = tt
done_is_quiet (Event.Asks call ∷ trace) h = (tt, done_is_quiet trace h.1)
done_is_quiet (Event.Starts call ∷ trace) h = (tt, done_is_quiet trace h.1)
done_is_quiet (Event.Kills j n ∷ trace) h = (tt, done_is_quiet trace h.1)
done_is_quiet (Event.Sends call ∷ trace) h = (tt, done_is_quiet trace h.1)
done_is_quiet (e ∷ trace) h = absurd h.0

step_quiet : (input : Input) → Gives (λ o t e n. Steps input o t e n) Quiet
step_quiet input old trace end new h = go (step_trace input old trace end new h)
  where
    go : StepTrace h.step.kept trace end → AllByRecursion IsQuiet trace
    go (StepTrace.none is done) = done_is_quiet trace done
    go (StepTrace.one e rest is split done) = subst (AllByRecursion IsQuiet) (sym split) (tt, done_is_quiet rest done)
    go (StepTrace.refused e why is r split ends) = subst (AllByRecursion IsQuiet) (sym split) (tt, tt)
    go (StepTrace.spent e is split ends) = subst (AllByRecursion IsQuiet) (sym split) tt

quiet_rule : IsRule (λ i. Unit {0}) Quiet
quiet_rule = record {
  joined = record { rests = λ s end rest. tt; joins = λ a b c front back end h k. all_append IsQuiet front back h k };
  spent = λ s end input due is. tt;
  asks = λ s call. (tt, tt);
  replies = λ s call. (tt, tt);
  steps = λ input q. step_quiet input;
  told = λ input t. tt;
}

not_alone : (front back : Trace) (event : Event) → AllByRecursion IsQuiet (front ++ event ∷ back) → fold alone_with false front ≡ false
not_alone [] back event h = refl
not_alone (Event.Keeps e ∷ front) back event h = not_alone front back event h.1
not_alone (Event.Refuses e why ∷ front) back event h = not_alone front back event h.1
not_alone (Event.Looks path answer ∷ front) back event h = not_alone front back event h.1
not_alone (Event.Starts call ∷ front) back event h = not_alone front back event h.1
not_alone (Event.Kills j n ∷ front) back event h = not_alone front back event h.1
not_alone (Event.Sends call ∷ front) back event h = not_alone front back event h.1
not_alone (Event.Replies call ∷ front) back event h = not_alone front back event h.1
not_alone (Event.Asks call ∷ front) back event h = not_alone front back event h.1
not_alone (e ∷ front) back event h = absurd h.0

-- by itself a node orders what is advised, whatever came before the trace
abbrev pub AloneAdvised : Mark
AloneAdvised a front (Event.Keeps e) back end =
    (before : Bool) → fold alone_with before front ≡ true → e.feed ≡ Orders a.me a.me → IsAdvised a.me (held_after a front) e
AloneAdvised a front event back end = Unit {0}

lower : (a : NodeState) (front : Trace) (event : Event) (rest more : Trace) (end : Option NodeEnd)
    → AloneAdvised a front event rest None → AloneAdvised a front event (rest ++ more) end
lower a front (Event.Keeps e) rest more end h = h
lower a front event rest more end h = tt

upper : (a b : NodeState) (front more : Trace) (event : Event) (back : Trace) (end : Option NodeEnd) → Follows a front b
    → AloneAdvised b more event back end → AloneAdvised a (front ++ more) event back end
upper a b front more (Event.Keeps e) back end f h = λ before alone own.
    let there : e.feed ≡ Orders b.me b.me = subst (λ (m : ℕ). e.feed ≡ Orders m m) (sym f.me_) own in
    let it : IsAdvised b.me (held_after b more) e =
    h (fold alone_with before front) (sym (fold-append alone_with before front more) ∙ alone) there in
    subst (λ (m : ℕ). IsAdvised m (held_after a (front ++ more)) e) f.me_
    (subst (λ (V : View). IsAdvised b.me V e) (held_joined a b front more f) it)
upper a b front more event back end f h = tt

alone_joined : IsJoined (MarksAll AloneAdvised)
alone_joined = marks_joined AloneAdvised (record { lower = lower; upper = upper })

-- what is advised without regard to what came
kept_is_advised : Gives (MarksAll (OfKept OwnAdvice)) (MarksAll AloneAdvised)
kept_is_advised old trace end new h =
    record { me_ = h.me_; net_ = h.net_; grows = h.grows; each = λ front event back split. go front event back (h.each front event back split) }
  where
    go : (front : Trace) (event : Event) (back : Trace) → OfKept OwnAdvice old front event back end
        → AloneAdvised old front event back end
    go front (Event.Keeps e) back k = λ before alone own. k own
    go front event back k = tt

-- an arrival
abbrev Any : Fact
Any net me V e = Unit {0}

any_rule : IsRule (λ i. Unit {0}) (MarksAll (OfKept Any))
any_rule = keeping_rule Any (λ i. Unit {0}) (λ net me V s input e q h. tt) (λ input t. tt)

come_alone : (defs : Defs) → Gives (Come defs) (Lifted (MarksAll AloneAdvised))
come_alone defs = wants_gives (Lifted (MarksAll AloneAdvised)) (lifted_joined (MarksAll AloneAdvised) alone_joined) _ go
  where
    go : Gives (λ old trace end new. Comes defs old trace end new) (Lifted (MarksAll AloneAdvised))
    go old trace end new h = record { me_ = all.me_; net_ = all.net_; grows = all.grows; each = each }
      where
        all : Marks (OfKept Any) old.node trace end new.node
        all =
            event_then (MarksAll (OfKept Any)) any_rule.joined (Event.Comes h.arrived) old.node h.rest trace end new.node h.split
            (one_marked (OfKept Any) old.node (Event.Comes h.arrived) refl tt)
            (arrive_gives (λ i. Unit {0}) (MarksAll (OfKept Any)) any_rule (λ input is. tt) (λ x f input is. tt) defs h.arrived old h.rest end new h.arrives)

        quiet : AllByRecursion IsQuiet h.rest
        quiet = arrive_gives (λ i. Unit {0}) Quiet quiet_rule (λ input is. tt) (λ x f input is. tt) defs h.arrived old h.rest end new h.arrives

        at : (front back : Trace) (e : Entry)
            → IsHere (Event.Comes h.arrived) h.rest front back (Event.Keeps e) ⊎ IsFurther (Event.Comes h.arrived) h.rest front back (Event.Keeps e)
            → AloneAdvised old.node front (Event.Keeps e) back end
        at front back e (inl here) = absurd (clash here.is)
          where
            clash : Event.Comes h.arrived ≡ Event.Keeps e → ⊥
            clash q = cc
        at front back e (inr further) = λ before alone own.
            absurd (clash (sym (not_alone further.middle back (Event.Keeps e) (subst (AllByRecursion IsQuiet) further.second quiet))
            ∙ subst (λ (t : Trace). fold alone_with before t ≡ true) further.first alone))
          where
            clash : false ≡ true → ⊥
            clash q = cc

        each : (front : Trace) (event : Event) (back : Trace) → trace ≡ front ++ event ∷ back → AloneAdvised old.node front event back end
        each front (Event.Keeps e) back split =
            at front back e (split_cons (Event.Comes h.arrived) h.rest front back (Event.Keeps e) (sym h.split ∙ split))
        each front event back split = tt

-- each run types by itself what is advised
pub run_advised : (defs : Defs) (turns : ℕ) → Gives (Run defs turns) (Lifted (MarksAll AloneAdvised))
run_advised defs turns =
    run_gives (Lifted P) j defs
    (turn_gives (Lifted P) j defs (λ s t. one_marked AloneAdvised s.node (Event.Reads t) refl tt) (come_alone defs)
    (behind_gives (Lifted P) j defs
    (on_gives _ P (λ old trace end new h. kept_is_advised old trace end new
    (reports_gives IsNoTyped K advice_rule (λ s answer. one_marked (OfKept OwnAdvice) s (Event.Reports answer) refl tt) (λ k rc. tt) old trace end new h)))
    (λ old trace end new h. kept_is_advised old.node trace end new.node
    (probing_gives IsNoTyped K advice_rule (λ s path answer. one_marked (OfKept OwnAdvice) s (Event.Looks path answer) refl tt) (λ place. tt) old trace end new h))
    (on_gives Advise P (λ old trace end new h. kept_is_advised old trace end new (advised_keeping old trace end new h)))
    (λ t. on_gives (Take (Input.Local (Turn t))) P
    (λ old trace end new h. kept_is_advised old trace end new (take_gives IsNoTyped K advice_rule (Input.Local (Turn t)) tt old trace end new h))))) turns
  where
    P : Action NodeState
    P = MarksAll AloneAdvised

    K : Action NodeState
    K = MarksAll (OfKept OwnAdvice)

    j : IsJoined (Lifted P)
    j = lifted_joined P alone_joined

-- an advice that is a rerun
pub rerun_is_due : (me : ℕ) (V : View) (e : Entry) (j : ℕ) → IsAdvised me V e → e.body ≡ Order (Rerun j)
    → advice V me ≡ Some (Rerun j)
rerun_is_due me V e j h body = h.due ∙ ap Some (command_is (sym h.its_body ∙ body))
  where
    command_is : Order h.command ≡ Order (Rerun j) → h.command ≡ Rerun j
    command_is q = cc
