-- What an answer to a client says of a stretch of a run.
use Rattle.std.proofs.Common.{[], ◌++◌, ◌≡◌, ◌≢◌, ◌⊎◌, ◌∙◌, ◌∷◌, ℕ, Bool, Err, false, true, List, None, Ok, Option, Result, Some, inl, inr, refl, subst, sym}
use Rattle.model.specs.Types.{Cmd, Input, Next, StreamDraft}
use Rattle.agent_core.specs.Nodes.{NodeState, present_in, view_in}
use Rattle.agent_core.specs.declared.faults.StepFault.{StepFault}
use Rattle.agent_core.specs.declared.faults.StepFault.TheVariants as fault
use Rattle.conman_orders.specs.Orders.{due_order}
use Rattle.conman_orders.specs.declared.orders.ResolveFault.{ResolveFault}
use Rattle.conman_syntax.specs.declared.lines.Line.{Line}
use Rattle.outside.specs.Kept.{Bodies}
use Rattle.node_inputs.specs.Traces.{Event, Trace}
use Rattle.node_inputs.specs.declared.ends.NodeEnd.{NodeEnd}
use Rattle.node_inputs.specs.Actions.{Action, Call, From, If, Nothing, Then, Wants}
use Rattle.node_inputs.specs.Doings.{Does}
use Rattle.node_inputs.specs.Inputs.{Follow, PassOver, Take, Takes}
use Rattle.node_inputs.specs.Stepping.{TakesTelling}
use Rattle.node_inputs.specs.Tellings.{Told}
use Rattle.node_inputs.proofs.Doing.{did_as, did_then}
use Rattle.conman_orders.specs.Names.{workstation}
use Rattle.conman_syntax.specs.Rows.{due_line}
use Rattle.conman_syntax.specs.declared.faults.CommandFault.{CommandFault}
use Rattle.outside.specs.Calls.{Asked}
use Rattle.conman_syntax.specs.declared.lines.Line.TheVariants as line
use Rattle.node_lines.specs.Lines.{Obey}
use Rattle.node_lines.specs.Lines.{Answer, AnswerBy, AnswerFault, AskLink, AskOf, Order, OrderBy, PlanBy, PlanDay, Refuse, Say, Serve, plan_refusal, plan_text, step_refusal}
use Rattle.calendars.specs.Dates.{last_day}
use Rattle.composer_parser.specs.declared.Defs.{Defs}
use Rattle.node_replies.specs.Replies.{refused_line}
use Rattle.node_replies.specs.declared.replies.Refusal.TheVariants as refusal
use Rattle.plan_builder.specs.Drafts.{AreDrafts}
use Rattle.plan_builder.specs.Limits.{plan_fault}
use Rattle.plan_builder.specs.declared.faults.PlanFault.{PlanFault}
use Rattle.plan_builder.specs.declared.faults.PlanFault.TheVariants as no_plan
use Rattle.std.specs.Prelude.{◌==◌, nat_le}

-- a fault that ends the run is answered by its end alone
ends_alone : (f : StepFault) (old : NodeState) (trace : Trace) (why : NodeEnd) (new : NodeState)
    → PassOver f old trace (Some why) new → AnswerFault f old trace (Some why) new
ends_alone fault.PlaceSpent old trace why new h = h
ends_alone fault.NotInNetwork old trace why new h = cc
ends_alone fault.NotNeighbour old trace why new h = cc
ends_alone fault.NotMaster old trace why new h = cc
ends_alone fault.NoProcess old trace why new h = cc
ends_alone fault.NoDep old trace why new h = cc
ends_alone (fault.Carry c) old trace why new h = cc
ends_alone fault.TooLong old trace why new h = cc
ends_alone fault.NoMemory old trace why new h = cc

-- any other is answered
answered : (f : StepFault) (old : NodeState) (trace : Trace) (end : Option NodeEnd) (new : NodeState) → f ≢ fault.PlaceSpent
    → Refuse (step_refusal f) old trace end new → AnswerFault f old trace end new
answered fault.NotInNetwork old trace end new k h = h
answered fault.NotNeighbour old trace end new k h = h
answered fault.NotMaster old trace end new k h = h
answered fault.NoProcess old trace end new k h = h
answered fault.NoDep old trace end new k h = h
answered fault.PlaceSpent old trace end new k h = absurd (k refl)
answered (fault.Carry c) old trace end new k h = h
answered fault.TooLong old trace end new k h = h
answered fault.NoMemory old trace end new k h = h

-- the run ended while an input of a client was taken
pub served_end : (input : Input) (text : NodeState → List ℕ) (old : NodeState) (trace : Trace) (why : NodeEnd) (new : NodeState)
    → Take input old trace (Some why) new → Serve input text old trace (Some why) new
served_end input text old trace why new (inl (inl taken)) =
    inl (inl (inr (record { why = why; for_that_cause = refl; ends = taken })))
served_end input text old trace why new (inl (inr refused)) =
    inl (inr (refused.0, refused.1, refused.2, ends_alone refused.0 old trace why new refused.3))
served_end input text old trace why new (inr stopped) = inr stopped

-- an input of a client was refused, and why was told
back_alone : (f : StepFault) (input : Input) (old new : NodeState) (front back trace : Trace) (end : Option NodeEnd) (middle : NodeState)
    → trace ≡ front ++ back → Nothing old front None middle → Refuse (step_refusal f) middle back end new
    → Refuse (step_refusal f) old trace end new
back_alone f input old new front back trace end middle split first second =
    subst (λ (t : Trace). Refuse (step_refusal f) old t end new) (sym (split_ front first.0 split))
    (subst (λ (m : NodeState). Refuse (step_refusal f) m back end new) first.2 second)
  where
    split_ : (front : Trace) → front ≡ [] → trace ≡ front ++ back → trace ≡ back
    split_ [] e h = h
    split_ (x ∷ xs) e h = cc

pub served_refused : (f : StepFault) (input : Input) (text : NodeState → List ℕ) (old : NodeState) (trace : Trace) (end : Option NodeEnd) (new : NodeState)
    → Then (TakesTelling input (Ok (Some f))) (Refuse (step_refusal f)) old trace end new → Serve input text old trace end new
served_refused f input text old trace end new (inl both) =
    inl (inr (
      f,
      both.begins.0,
      both.begins.2,
      answered f old trace end new both.begins.1 (back_alone f input old new both.front both.back trace end both.middle both.split both.begins.3 both.goes_on),
    ))
served_refused f input text old trace end new (inr stopped) = cc

-- an input of a client was taken, and this is said of the node after it
pub served : {K : Type 0} {kept_in : K → Option Bodies} {size faults moment : K → ℕ} {may_leave : K → Bodies → Type 0} {left_since : K → ℕ → Bodies → Type 0} {opens_since : K → ℕ → ℕ → Type 0}
    {old middle new : NodeState} {keeper between later : K} {told meanwhile now : Told} {end : Option NodeEnd} (input : Input) (text : NodeState → List ℕ)
    → Does kept_in size faults moment may_leave left_since opens_since (λ o t e n. Takes Follow input o t e n) old middle keeper between told meanwhile None
    → Does kept_in size faults moment may_leave left_since opens_since (Say (text middle)) middle new between later meanwhile now end
    → Does kept_in size faults moment may_leave left_since opens_since (Serve input text) old new keeper later told now end
served {middle = middle} {new = new} {end = end} input text a b =
    did_as (λ trace h. inl (inl h)) (did_then a (did_as {second = From (λ (n : NodeState). Say (text n))} (λ trace h. h) b))

-- the plan of a day, by what is asked before it
abbrev InTime : Defs → ℕ → Action NodeState
InTime defs day = If (nat_le day last_day) (Wants (PlanBy defs day (plan_fault defs day))) (Say (refused_line refusal.OutOfRange))

pub not_master : (defs : Defs) (day : ℕ) (node : NodeState) (trace : Trace) (end : Option NodeEnd) (new : NodeState) → (node.me == 0) ≡ false
    → Say (refused_line refusal.NotMaster) node trace end new → PlanDay defs day node trace end new
not_master defs day node trace end new e h =
    subst (λ (b : Bool). If b (InTime defs day) (Say (refused_line refusal.NotMaster)) node trace end new) (sym e) h

pub too_late : (defs : Defs) (day : ℕ) (node : NodeState) (trace : Trace) (end : Option NodeEnd) (new : NodeState) → (node.me == 0) ≡ true
    → nat_le day last_day ≡ false → Say (refused_line refusal.OutOfRange) node trace end new → PlanDay defs day node trace end new
too_late defs day node trace end new e late h =
    subst (λ (b : Bool). If b (InTime defs day) (Say (refused_line refusal.NotMaster)) node trace end new) (sym e)
    (subst (λ (b : Bool). If b (Wants (PlanBy defs day (plan_fault defs day))) (Say (refused_line refusal.OutOfRange)) node trace end new) (sym late) h)

pub in_time : (defs : Defs) (day : ℕ) (node : NodeState) (trace : Trace) (end : Option NodeEnd) (new : NodeState) → (node.me == 0) ≡ true
    → nat_le day last_day ≡ true → Wants (PlanBy defs day (plan_fault defs day)) node trace end new → PlanDay defs day node trace end new
in_time defs day node trace end new e fits h =
    subst (λ (b : Bool). If b (InTime defs day) (Say (refused_line refusal.NotMaster)) node trace end new) (sym e)
    (subst (λ (b : Bool). If b (Wants (PlanBy defs day (plan_fault defs day))) (Say (refused_line refusal.OutOfRange)) node trace end new) (sym fits) h)

-- the day has drafts, or this fault
pub with_drafts : (defs : Defs) (day : ℕ) (drafts : List StreamDraft) (node : NodeState) (trace : Trace) (end : Option NodeEnd) (new : NodeState)
    → plan_fault defs day ≡ None → AreDrafts defs day drafts → Serve (Input.Local (Next drafts)) plan_text node trace end new
    → Wants (PlanBy defs day (plan_fault defs day)) node trace end new
with_drafts defs day drafts node trace end new none are h =
    inl (subst (λ (o : Option PlanFault). PlanBy defs day o node trace end new) (sym none) (drafts, are, h))

pub without_drafts : (defs : Defs) (day : ℕ) (f : PlanFault) (node : NodeState) (trace : Trace) (end : Option NodeEnd) (new : NodeState)
    → plan_fault defs day ≡ Some f → Refuse (plan_refusal f) node trace end new → Wants (PlanBy defs day (plan_fault defs day)) node trace end new
without_drafts defs day f node trace end new is h =
    inl (subst (λ (o : Option PlanFault). PlanBy defs day o node trace end new) (sym is) h)

-- where drafts were given there is no fault
pub no_fault : {A : Type 0} (r : Result A PlanFault) (a : A) (o : Option PlanFault) → ((f : PlanFault) → o ≡ Some f → (r ≡ Err f) ⊎ (r ≡ Err no_plan.NoMemory))
    → r ≡ Ok a → o ≡ None
no_fault r a None h e = refl
no_fault r a (Some f) h e = elim (h f refl) [ inl k ↦ apart f (sym e ∙ k) | inr k ↦ apart no_plan.NoMemory (sym e ∙ k) ]
  where
    apart : (g : PlanFault) → Ok a ≡ Err g → Some f ≡ None
    apart g k = cc

-- what a link is asked for, by the workstation of the name
pub asks_unknown : (call : ℕ → Asked) (text : NodeState → ℕ → List ℕ) (name : List ℕ) (node : NodeState) (trace : Trace) (end : Option NodeEnd) (new : NodeState)
    → workstation node.net name ≡ None → Say (refused_line refusal.UnknownName) node trace end new → AskLink call text name node trace end new
asks_unknown call text name node trace end new e h =
    subst (λ (o : Option ℕ). AskOf call (text node) node.me o node trace end new) (sym e) h

pub asks_itself : (call : ℕ → Asked) (text : NodeState → ℕ → List ℕ) (name : List ℕ) (w : ℕ) (node : NodeState) (trace : Trace) (end : Option NodeEnd) (new : NodeState)
    → workstation node.net name ≡ Some w → (w == node.me) ≡ true → Say (refused_line refusal.NotNeighbour) node trace end new
    → AskLink call text name node trace end new
asks_itself call text name w node trace end new e f h =
    subst (λ (o : Option ℕ). AskOf call (text node) node.me o node trace end new) (sym e)
    (subst (λ (b : Bool). If b (Say (refused_line refusal.NotNeighbour)) (Then (Call (Event.Asks (call w))) (Say (text node w))) node trace end new) (sym f) h)

pub asks_other : (call : ℕ → Asked) (text : NodeState → ℕ → List ℕ) (name : List ℕ) (w : ℕ) (node : NodeState) (trace : Trace) (end : Option NodeEnd) (new : NodeState)
    → workstation node.net name ≡ Some w → (w == node.me) ≡ false → Then (Call (Event.Asks (call w))) (Say (text node w)) node trace end new
    → AskLink call text name node trace end new
asks_other call text name w node trace end new e f h =
    subst (λ (o : Option ℕ). AskOf call (text node) node.me o node trace end new) (sym e)
    (subst (λ (b : Bool). If b (Say (refused_line refusal.NotNeighbour)) (Then (Call (Event.Asks (call w))) (Say (text node w))) node trace end new) (sym f) h)

-- what a text is, and what follows
pub answers : (defs : Defs) (text : List ℕ) (r : Result Line CommandFault) (node : NodeState) (trace : Trace) (end : Option NodeEnd) (new : NodeState)
    → due_line text ≡ r → AnswerBy defs r node trace end new → Answer defs text node trace end new
answers defs text r node trace end new e h =
    inl (subst (λ (q : Result Line CommandFault). AnswerBy defs q node trace end new) (sym e) h)

-- what a line gives is known
pub ordered : (line : Line) (r : Result (ℕ × Cmd) ResolveFault) (old : NodeState) (trace : Trace) (end : Option NodeEnd) (new : NodeState)
    → due_order (present_in old) (view_in old) old.me line ≡ r → OrderBy r old trace end new → Order line old trace end new
ordered line r old trace end new e h =
    inl (subst (λ (q : Result (ℕ × Cmd) ResolveFault). OrderBy q old trace end new) (sym e) h)

-- a line that gives a command is typed at the node
pub typed_at_node : (defs : Defs) (l : Line) (old : NodeState) (trace : Trace) (end : Option NodeEnd) (new : NodeState)
    → ((p : Option (List ℕ)) → l ≡ line.ShowJobs p → ⊥) → ((p : Option (List ℕ)) → l ≡ line.ShowSchedules p → ⊥) → ((p : Option (List ℕ)) → l ≡ line.ShowCpus p → ⊥)
    → ((p : Option (List ℕ)) → l ≡ line.ShowPrompts p → ⊥) → ((p : Option (List ℕ)) → l ≡ line.ShowResources p → ⊥)
    → ((n : List ℕ) → l ≡ line.Link n → ⊥) → ((n : List ℕ) → l ≡ line.Unlink n → ⊥) → (l ≡ line.Shutdown → ⊥) → ((n : ℕ) → l ≡ line.JNextPlan n → ⊥)
    → Order l old trace end new → Obey defs l old trace end new
typed_at_node defs (line.AddDep r d) old trace end new h1 h2 h3 h4 h5 h6 h7 h8 h9 k = k
typed_at_node defs (line.DelDep r d) old trace end new h1 h2 h3 h4 h5 h6 h7 h8 h9 k = k
typed_at_node defs (line.Release r) old trace end new h1 h2 h3 h4 h5 h6 h7 h8 h9 k = k
typed_at_node defs (line.AltPri r p) old trace end new h1 h2 h3 h4 h5 h6 h7 h8 h9 k = k
typed_at_node defs (line.Cancel r) old trace end new h1 h2 h3 h4 h5 h6 h7 h8 h9 k = k
typed_at_node defs (line.Confirm r) old trace end new h1 h2 h3 h4 h5 h6 h7 h8 h9 k = k
typed_at_node defs (line.Kill r) old trace end new h1 h2 h3 h4 h5 h6 h7 h8 h9 k = k
typed_at_node defs (line.Rerun r) old trace end new h1 h2 h3 h4 h5 h6 h7 h8 h9 k = k
typed_at_node defs (line.Fence ws p) old trace end new h1 h2 h3 h4 h5 h6 h7 h8 h9 k = k
typed_at_node defs (line.CpuLimit ws n) old trace end new h1 h2 h3 h4 h5 h6 h7 h8 h9 k = k
typed_at_node defs (line.StreamLimit r n) old trace end new h1 h2 h3 h4 h5 h6 h7 h8 h9 k = k
typed_at_node defs (line.Resource ws name n) old trace end new h1 h2 h3 h4 h5 h6 h7 h8 h9 k = k
typed_at_node defs (line.ReplyGlobal name answer) old trace end new h1 h2 h3 h4 h5 h6 h7 h8 h9 k = k
typed_at_node defs (line.ReplyOwn r i answer) old trace end new h1 h2 h3 h4 h5 h6 h7 h8 h9 k = k
typed_at_node defs (line.Start ws) old trace end new h1 h2 h3 h4 h5 h6 h7 h8 h9 k = k
typed_at_node defs (line.Stop ws) old trace end new h1 h2 h3 h4 h5 h6 h7 h8 h9 k = k
typed_at_node defs (line.Submit ws text alias priority) old trace end new h1 h2 h3 h4 h5 h6 h7 h8 h9 k = k
typed_at_node defs (line.SwitchMgr domain ws) old trace end new h1 h2 h3 h4 h5 h6 h7 h8 h9 k = k
typed_at_node defs (line.ShowJobs p) old trace end new h1 h2 h3 h4 h5 h6 h7 h8 h9 k = absurd (h1 p refl)
typed_at_node defs (line.ShowSchedules p) old trace end new h1 h2 h3 h4 h5 h6 h7 h8 h9 k = absurd (h2 p refl)
typed_at_node defs (line.ShowCpus p) old trace end new h1 h2 h3 h4 h5 h6 h7 h8 h9 k = absurd (h3 p refl)
typed_at_node defs (line.ShowPrompts p) old trace end new h1 h2 h3 h4 h5 h6 h7 h8 h9 k = absurd (h4 p refl)
typed_at_node defs (line.ShowResources p) old trace end new h1 h2 h3 h4 h5 h6 h7 h8 h9 k = absurd (h5 p refl)
typed_at_node defs (line.Link n) old trace end new h1 h2 h3 h4 h5 h6 h7 h8 h9 k = absurd (h6 n refl)
typed_at_node defs (line.Unlink n) old trace end new h1 h2 h3 h4 h5 h6 h7 h8 h9 k = absurd (h7 n refl)
typed_at_node defs line.Shutdown old trace end new h1 h2 h3 h4 h5 h6 h7 h8 h9 k = absurd (h8 refl)
typed_at_node defs (line.JNextPlan n) old trace end new h1 h2 h3 h4 h5 h6 h7 h8 h9 k = absurd (h9 n refl)
