-- What holds of each step of a node, up to its sends, holds of each input.
use Rattle.std.proofs.Common.{[], ◌++◌, ◌≡◌, ◌∙◌, ◌∷◌, ◌⊎◌, ℕ, Bool, List, None, Option, Some, ap, append_assoc, false, inl, inr, refl, subst, sym, true}
use Rattle.std.specs.List.{AllByRecursion}
use Rattle.std.specs.Prelude.{Ok}
use Rattle.lemmas.proofs.Lists.{all_append}
use Rattle.model.specs.Types.{Entry, Input, Local, Out, StartFailed, Unlinked}
use Rattle.model.specs.Words.{below}
use Rattle.model.specs.History.{View}
use Rattle.model.specs.Network.{node_count}
use Rattle.model.specs.PresentNet.{present_net}
use Rattle.model.specs.Sessions.{Session}
use Rattle.model.specs.Step.{Effect, effect, node_step, outs_of, unless_fault}
use Rattle.model.specs.StepFaults.{StepFault as ModelFault, step_fault}
use Rattle.model.specs.Types.{Net}
use Rattle.model_laws.proofs.Sends.{same_done}
use Rattle.outside.specs.Calls.{Asked, Replied}
use Rattle.agent_core.specs.Nodes.{NodeState, session_in, view_in}
use Rattle.agent_core.specs.Steps.{IsDue, IsTaken, effect_in}
use Rattle.agent_core.specs.declared.faults.Step.{Step}
use Rattle.agent_core.specs.declared.faults.StepFault.{StepFault}
use Rattle.agent_core.specs.declared.faults.StepFault.TheVariants as fault
use Rattle.node_inputs.specs.Traces.{Event, Trace}
use Rattle.node_inputs.specs.declared.ends.NodeEnd.{NodeEnd}
use Rattle.node_inputs.specs.declared.ends.NodeEnd.TheVariants.{Limit, NoMemory}
use Rattle.base_types.specs.declared.LimitName.TheVariants.{Places}
use Rattle.node_inputs.specs.Actions.{Action, Call, Each, EndsBefore, If, Nothing, Stop, Then}
use Rattle.node_inputs.specs.Inputs.{Carried, Carry, Follow, Give, IsKeeping, Keep, Lose, LoseAll, LoseIf, PassOver, Raise}
use Rattle.node_inputs.specs.Inputs.{RaiseNew, Refused, Take, TakeQuietly, TakeWith, Takes, Tell, is_lost, is_new_neighbour, nothing_carried, start_told}
use Rattle.run_laws.proofs.Rules.{Gives, IsJoined, call_gives, each_gives, if_gives, nothing_gives, then_gives, wants_gives}

abbrev pub IsAsk : Event → Type 0
IsAsk (Event.Asks call) = Unit {0}
IsAsk _ = ⊥

-- new links are asked for, and then the outputs are carried out
pub record GivesOut (outs : List Out) (old : NodeState) (trace : Trace) (end : Option NodeEnd) (new : NodeState) : Type 0 where
  pub asks : Trace
  pub carried : Trace
  pub so_far : Carried
  pub split : trace ≡ asks ++ carried
  pub are_asks : AllByRecursion IsAsk asks
  pub carries : Carry old outs nothing_carried carried end so_far
  pub same : new ≡ old

-- the step of an input up to its sends
pub record Steps (input : Input) (old : NodeState) (trace : Trace) (end : Option NodeEnd) (new : NodeState) : Type 0 where
  pub step : Step
  pub taken : IsTaken old input step new
  pub acts : Then (Keep step.kept) (λ o t e n. GivesOut step.outs o t e n) new trace end new

-- what tells the node of a start or of a lost link
abbrev pub IsTold : Input → Type 0
IsTold (Input.Local (Local.Started j)) = Unit {0}
IsTold (Input.Local (StartFailed j)) = Unit {0}
IsTold (Input.Local (Unlinked x)) = Unit {0}
IsTold _ = ⊥

-- whatever the first may do where the fault of an input is due, the second may do
abbrev pub GivesDue : Input → StepFault → Action NodeState → Action NodeState → Type 0
GivesDue input f first second =
    (old : NodeState) (trace : Trace) (end : Option NodeEnd) (new : NodeState) → IsDue old input f → first old trace end new
    → second old trace end new

-- What holds of the steps of these inputs, of links that are asked for and of replies, and of an end for a place that is
-- spent.
pub record IsRule (Q : Input → Type 0) (P : Action NodeState) : Type 0 where
  pub joined : IsJoined P
  pub spent : (s : NodeState) (end : Option NodeEnd) (input : Input) → IsDue s input fault.PlaceSpent
      → end ≡ Some (Limit Places) → P s [] end s
  pub asks : (s : NodeState) (call : Asked) → P s (Event.Asks call ∷ []) None s
  pub replies : (s : NodeState) (call : Replied) → P s (Event.Replies call ∷ []) None s
  pub steps : (input : Input) → Q input → Gives (λ o t e n. Steps input o t e n) P
  pub told : (input : Input) → IsTold input → Q input

-- the effect of a step that is taken
pub record IsEffect (old : NodeState) (input : Input) (d : Effect) : Type 0 where
  pub faultless : step_fault (present_net old.net (view_in old)) old.me (view_in old) (session_in old) input ≡ None
  pub is : effect old.net old.me (view_in old) (session_in old) input ≡ d

pub its_effect : (old new : NodeState) (input : Input) (step : Step) → IsTaken old input step new
    → IsEffect old input (effect_in step new)
unfolding node_step
its_effect old new input step taken =
    go (step_fault (present_net old.net (view_in old)) old.me (view_in old) (session_in old) input) refl taken.effect
  where
    go : (f : Option ModelFault)
        → step_fault (present_net old.net (view_in old)) old.me (view_in old) (session_in old) input ≡ f
        → unless_fault f (effect old.net old.me (view_in old) (session_in old) input) ≡ Ok (effect_in step new)
        → IsEffect old input (effect_in step new)
    go None none same =
        record { faultless = none; is = same_done (effect old.net old.me (view_in old) (session_in old) input) (effect_in step new) same }
    go (Some f) none same = cc

told_outs : (net : Net) (me : ℕ) (V : View) (s : Session) (input : Input) (made : Option Entry) → IsTold input
    → outs_of net me V s input made ≡ []
unfolding outs_of
told_outs net me V s (Input.Local (Local.Started j)) made h = refl
told_outs net me V s (Input.Local (StartFailed j)) made h = refl
told_outs net me V s (Input.Local (Unlinked x)) made h = refl
told_outs net me V s input made h = absurd h

told_effect : (net : Net) (me : ℕ) (V : View) (s : Session) (input : Input) → IsTold input
    → (effect net me V s input).outs ≡ []
unfolding effect
told_effect net me V s input h = told_outs _ me _ _ input _ h

told_gives_none : (old new : NodeState) (input : Input) (step : Step) → IsTold input → IsTaken old input step new
    → step.outs ≡ []
told_gives_none old new input step h taken =
    sym (ap (λ (d : Effect). d.outs) (its_effect old new input step taken).is)
    ∙ told_effect old.net old.me (view_in old) (session_in old) input h

-- links are asked for, and the run goes on
pub record OnlyAsks (old : NodeState) (trace : Trace) (end : Option NodeEnd) (new : NodeState) : Type 0 where
  pub are_asks : AllByRecursion IsAsk trace
  pub goes_on : end ≡ None
  pub same : new ≡ old

raise_one : (before now : NodeState) (x : ℕ) → Gives (RaiseNew before now x) (λ o t e n. OnlyAsks o t e n)
raise_one before now x = go (is_new_neighbour before now x)
  where
    go : (b : Bool) → Gives (If b (Call (Event.Asks (Asked.Raise x))) Nothing) (λ o t e n. OnlyAsks o t e n)
    go true old trace end new h =
        record { are_asks = subst (AllByRecursion IsAsk) (sym h.0) (tt, tt); goes_on = h.1; same = h.2 }
    go false old trace end new h =
        record { are_asks = subst (AllByRecursion IsAsk) (sym h.0) tt; goes_on = h.1; same = h.2 }

no_end_is_none : {why : NodeEnd} → Some why ≡ None → ⊥
no_end_is_none q = cc

raise_each : (before now : NodeState) (xs : List ℕ) → Gives (Each (RaiseNew before now) xs) (λ o t e n. OnlyAsks o t e n)
raise_each before now [] old trace end new h =
    record { are_asks = subst (AllByRecursion IsAsk) (sym h.0) tt; goes_on = h.1; same = h.2 }
raise_each before now (x ∷ xs) old trace end new (inl b) =
    let one : OnlyAsks old b.front None b.middle = raise_one before now x old b.front None b.middle b.begins in
    let rest : OnlyAsks b.middle b.back end new = raise_each before now xs b.middle b.back end new b.goes_on in
    record {
      are_asks = subst (AllByRecursion IsAsk) (sym b.split) (all_append IsAsk b.front b.back one.are_asks rest.are_asks);
      goes_on = rest.goes_on;
      same = rest.same ∙ one.same;
    }
raise_each before now (x ∷ xs) old trace end new (inr e) =
    absurd (no_end_is_none (raise_one before now x old trace (Some e.why) new e.ends).goes_on)

raise_asks : (before : NodeState) → Gives (Raise before) (λ o t e n. OnlyAsks o t e n)
raise_asks before old trace end new h =
    raise_each before old (below (node_count old.net)) old trace end new h

-- the entry is kept, and this is carried out behind it
kept_then : (input : Input) (old after : NodeState) (step : Step) (front asks carried : Trace) (end : Option NodeEnd)
    (so_far : Carried) → IsTaken old input step after → IsKeeping step.kept front None
    → AllByRecursion IsAsk asks → Carry after step.outs nothing_carried carried end so_far
    → Steps input old (front ++ (asks ++ carried)) end after
kept_then input old after step front asks carried end so_far taken kept are_asks carries = record {
  step = step;
  taken = taken;
  acts = inl (record {
    front = front;
    back = asks ++ carried;
    middle = after;
    split = refl;
    begins = (kept, refl);
    goes_on = record {
      asks = asks;
      carried = carried;
      so_far = so_far;
      split = refl;
      are_asks = are_asks;
      carries = carries;
      same = refl;
    };
  });
}

-- or it is not kept
kept_ends : (input : Input) (old after new : NodeState) (step : Step) (trace : Trace) (end : Option NodeEnd)
    → IsTaken old input step after → EndsBefore (Keep step.kept) after trace end new → Steps input old trace end new
kept_ends input old after new step trace end taken e =
    subst (λ (n : NodeState). Steps input old trace end n) (sym e.ends.1)
    (record { step = step; taken = taken; acts = inr (record { why = e.why; for_that_cause = e.for_that_cause; ends = (e.ends.0, refl) }) })

-- an input that tells of a start or of a lost link gives nothing out
quiet_steps : (input : Input) → IsTold input
    → Gives (λ o t e n. Takes (λ before step. Nothing) input o t e n) (λ o t e n. Steps input o t e n)
quiet_steps input told old trace end new h = go h.acts
  where
    none : h.step.outs ≡ []
    none = told_gives_none old h.after input h.step told h.taken

    go : Then (Keep h.step.kept) Nothing h.after trace end new → Steps input old trace end new
    go (inl b) =
        let carries : Carry h.after h.step.outs nothing_carried [] None nothing_carried =
        subst (λ (outs : List Out). Carry h.after outs nothing_carried [] None nothing_carried) (sym none)
        (refl, refl, refl) in
        let all : Steps input old (b.front ++ ([] ++ [])) None h.after =
        kept_then input old h.after h.step b.front [] [] None nothing_carried h.taken b.begins.0 tt carries in
        subst (λ (e : Option NodeEnd). Steps input old trace e new) (sym b.goes_on.1)
        (subst (λ (x : Trace). Steps input old x None new) (sym (b.split ∙ ap (λ (y : Trace). b.front ++ y) b.goes_on.0))
        (subst (λ (n : NodeState). Steps input old (b.front ++ []) None n) (sym (b.goes_on.2 ∙ b.begins.1)) all))
    go (inr e) = kept_ends input old h.after new h.step trace end h.taken e

-- an input: its step up to the sends, and then what is told of it
pub record Parts (input : Input) (old : NodeState) (trace : Trace) (end : Option NodeEnd) (new : NodeState) : Type 0 where
  pub front : Trace
  pub back : Trace
  pub middle : NodeState
  pub became : Carried
  pub split : trace ≡ front ++ back
  pub begins : Steps input old front None middle
  pub goes_on : Then (Tell became.started) (LoseAll became.lost) middle back end new

-- or its step alone, where the run ended meanwhile
abbrev pub StepsOrParts : Input → Action NodeState
StepsOrParts input old trace end new = Parts input old trace end new ⊎ Steps input old trace end new

given : (input : Input) (old after middle new : NodeState) (step : Step) (front asks trace : Trace) (end : Option NodeEnd)
    → IsTaken old input step after → IsKeeping step.kept front None → AllByRecursion IsAsk asks
    → middle ≡ after → Give step.outs middle trace end new → StepsOrParts input old (front ++ (asks ++ trace)) end new
given input old after middle new step front asks trace end taken kept are_asks same (inl g) =
    let carries : Carry after step.outs nothing_carried g.front None g.carried =
    subst (λ (n : NodeState). Carry n step.outs nothing_carried g.front None g.carried) same g.carries in
    inl (record {
      front = front ++ (asks ++ g.front);
      back = g.back;
      middle = after;
      became = g.carried;
      split =
          ap (λ (t : Trace). front ++ t) (ap (λ (t : Trace). asks ++ t) g.split ∙ sym (append_assoc asks g.front g.back))
          ∙ sym (append_assoc front (asks ++ g.front) g.back);
      begins = kept_then input old after step front asks g.front None g.carried taken kept are_asks carries;
      goes_on =
          subst (λ (n : NodeState). Then (Tell g.carried.started) (LoseAll g.carried.lost) n g.back end new) same g.follows;
    })
given input old after middle new step front asks trace end taken kept are_asks same (inr g) =
    let carries : Carry after step.outs nothing_carried trace end g.carried =
    subst (λ (e : Option NodeEnd). Carry after step.outs nothing_carried trace e g.carried) (sym g.for_want_of_memory)
    (subst (λ (n : NodeState). Carry n step.outs nothing_carried trace (Some NoMemory) g.carried) same g.carries) in
    inr (subst (λ (n : NodeState). Steps input old (front ++ (asks ++ trace)) end n) (sym (g.same ∙ same))
    (kept_then input old after step front asks trace end g.carried taken kept are_asks carries))

pub takes_parts : (input : Input) → Gives (λ o t e n. Takes Follow input o t e n) (StepsOrParts input)
takes_parts input old trace end new h = go h.acts
  where
    follow : (front back : Trace) (middle : NodeState) → IsKeeping h.step.kept front None → middle ≡ h.after
        → Follow old h.step middle back end new → StepsOrParts input old (front ++ back) end new
    follow front back middle kept same (inl c) =
        let asks : OnlyAsks middle c.front None c.middle = raise_asks old middle c.front None c.middle c.begins in
        subst (λ (t : Trace). StepsOrParts input old (front ++ t) end new) (sym c.split)
        (given input old h.after c.middle new h.step front c.front c.back end h.taken kept asks.are_asks
        (asks.same ∙ same) c.goes_on)
    follow front back middle kept same (inr e) =
        absurd (no_end_is_none (raise_asks old middle back (Some e.why) new e.ends).goes_on)

    go : Then (Keep h.step.kept) (Follow old h.step) h.after trace end new → StepsOrParts input old trace end new
    go (inl b) =
        subst (λ (t : Trace). StepsOrParts input old t end new) (sym b.split)
        (follow b.front b.back b.middle b.begins.0 b.begins.1 b.goes_on)
    go (inr e) = inr (kept_ends input old h.after new h.step trace end h.taken e)

module _ (Q : Input → Type 0) (P : Action NodeState) (r : IsRule Q P) where
  pub spent_gives : (input : Input) → GivesDue input fault.PlaceSpent (Stop (Limit Places)) P
  spent_gives input old trace end new due h =
      subst (λ (t : Trace). P old t end new) (sym h.0)
      (subst (λ (s : NodeState). P old [] end s) (sym h.2) (r.spent old end input due h.1))

  pub pass_over_gives : (input : Input) (f : StepFault) → GivesDue input f (PassOver f) P
  pass_over_gives input fault.NotInNetwork old trace end new due h = nothing_gives P r.joined old trace end new h
  pass_over_gives input fault.NotNeighbour old trace end new due h = nothing_gives P r.joined old trace end new h
  pass_over_gives input fault.NotMaster old trace end new due h = nothing_gives P r.joined old trace end new h
  pass_over_gives input fault.NoProcess old trace end new due h = nothing_gives P r.joined old trace end new h
  pass_over_gives input fault.NoDep old trace end new due h = nothing_gives P r.joined old trace end new h
  pass_over_gives input fault.PlaceSpent old trace end new due h = spent_gives input old trace end new due h
  pass_over_gives input (fault.Carry c) old trace end new due h = nothing_gives P r.joined old trace end new h
  pass_over_gives input fault.TooLong old trace end new due h = nothing_gives P r.joined old trace end new h
  pass_over_gives input fault.NoMemory old trace end new due h = nothing_gives P r.joined old trace end new h

  pub refused_gives : (follows : StepFault → Action NodeState) (input : Input)
      → ((f : StepFault) → GivesDue input f (follows f) P) → Gives (Refused follows input) P
  refused_gives follows input f old trace end new h = f h.0 old trace end new h.2 h.3

  take_with_gives : (follows : NodeState → Step → Action NodeState) (input : Input)
      → Gives (λ o t e n. Takes follows input o t e n) P → Gives (TakeWith follows input) P
  take_with_gives follows input f = wants_gives P r.joined _ go
    where
      go : Gives (λ old trace end new. Takes follows input old trace end new ⊎ Refused PassOver input old trace end new) P
      go old trace end new (inl h) = f old trace end new h
      go old trace end new (inr h) = refused_gives PassOver input (pass_over_gives input) old trace end new h

  quiet_gives : (input : Input) → IsTold input → Gives (TakeQuietly input) P
  quiet_gives input t =
      take_with_gives (λ before step. Nothing) input
      (λ old trace end new h. r.steps input (r.told input t) old trace end new (quiet_steps input t old trace end new h))

  pub lose_gives : (x : ℕ) → Gives (Lose x) P
  lose_gives x =
      then_gives P r.joined (Call (Event.Asks (Asked.Close x))) (TakeQuietly (Input.Local (Unlinked x)))
      (call_gives P r.joined (Event.Asks (Asked.Close x)) (λ s. r.asks s (Asked.Close x)))
      (quiet_gives (Input.Local (Unlinked x)) tt)

  lose_if_gives : (lost : List ℕ) (x : ℕ) → Gives (LoseIf lost x) P
  lose_if_gives lost x = if_gives P r.joined (is_lost lost x) (Lose x) Nothing (lose_gives x) (nothing_gives P r.joined)

  lose_all_gives : (lost : List ℕ) → Gives (LoseAll lost) P
  lose_all_gives lost old trace end new h =
      each_gives P r.joined (LoseIf lost) (lose_if_gives lost) (below (node_count old.net)) old trace end new h

  start_is_told : (j : ℕ) (b : Bool) → IsTold (start_told (j, b))
  start_is_told j true = tt
  start_is_told j false = tt

  tell_gives : (start : Option (ℕ × Bool)) → Gives (Tell start) P
  tell_gives None = nothing_gives P r.joined
  tell_gives (Some start) = quiet_gives (start_told start) (start_is_told start.0 start.1)

  -- what is told of an input
  pub telling_gives : (became : Carried) → Gives (Then (Tell became.started) (LoseAll became.lost)) P
  telling_gives became =
      then_gives P r.joined (Tell became.started) (LoseAll became.lost) (tell_gives became.started) (lose_all_gives became.lost)

  pub takes_gives : (input : Input) → Q input → Gives (λ o t e n. Takes Follow input o t e n) P
  takes_gives input q old trace end new h = go (takes_parts input old trace end new h)
    where
      go : StepsOrParts input old trace end new → P old trace end new
      go (inl p) =
          subst (λ (t : Trace). P old t end new) (sym p.split)
          (r.joined.joins old p.middle new p.front p.back end (r.steps input q old p.front None p.middle p.begins)
          (telling_gives p.became p.middle p.back end new p.goes_on))
      go (inr s) = r.steps input q old trace end new s

  pub take_gives : (input : Input) → Q input → Gives (Take input) P
  take_gives input q = take_with_gives Follow input (takes_gives input q)
