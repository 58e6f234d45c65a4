-- Stretches of a run put together.
use Rattle.std.proofs.Common.{[], ◌++◌, ◌≡◌, ◌∙◌, ◌∷◌, ℕ, Bool, Err, List, None, Ok, Option, Result, Some, ap, inl, inr, refl, subst, sym}
use Rattle.model.specs.Types.{Entry}
use Rattle.agent_core.specs.Nodes.{NodeState}
use Rattle.outside.specs.Kept.{Bodies}
use Rattle.node_inputs.specs.Keeping.{IsReady, KeptBy, Lasts}
use Rattle.node_inputs.specs.Traces.{Event, Trace, refusals, tried}
use Rattle.node_inputs.specs.declared.ends.NodeEnd.{NodeEnd}
use Rattle.node_inputs.specs.declared.ends.NodeEnd.TheVariants.{NoMemory}
use Rattle.node_inputs.proofs.Fronts.{none_kept, refusals-append, tried-append}
use Rattle.node_inputs.proofs.Joining.{both_last}
use Rattle.node_inputs.proofs.Lasting.{nothing_lasts}
use Rattle.node_inputs.specs.Actions.{Action, Call, Nothing, Stop, Then, Wants}
use Rattle.node_inputs.specs.Doings.{Does, DoesOutside, end_of}
use Rattle.node_inputs.specs.Inputs.{Keep}
use Rattle.node_inputs.specs.Tellings.{Tells, Told}
use Rattle.node_inputs.proofs.Telling.{keeping_told, nothing_told, refusing_told, tells_both}

-- without a keeper
pub out_as : {S T : Type 0} {first : Action S} {second : Action T} {old new : S} {older newer : T} {told now : Told} {end after : Option NodeEnd}
    → ((trace : Trace) → first old trace end new → second older trace after newer) → DoesOutside first old new told now end
    → DoesOutside second older newer told now after
out_as f a = record { trace = a.trace; acts = f a.trace a.acts; tells = a.tells; none_tried = a.none_tried }

-- the same where the answer of a call is this
pub out_answer : {S A : Type 0} {act : Action S} {old new : S} {told now : Told} (r : Result A NodeEnd) (end : Option NodeEnd)
    → end_of r ≡ end → DoesOutside act old new told now end → DoesOutside act old new told now (end_of r)
out_answer {act = act} {old} {new} {told} {now} r end is a =
    subst (λ (e : Option NodeEnd). DoesOutside act old new told now e) (sym is) a

pub out_nothing : {S : Type 0} (s : S) (told : Told) → DoesOutside Nothing s s told told None
out_nothing s told = record { trace = []; acts = (refl, refl, refl); tells = nothing_told told; none_tried = refl }

pub out_stop : {S : Type 0} (why : NodeEnd) (s : S) (told : Told) → DoesOutside (Stop why) s s told told (Some why)
out_stop why s told = record { trace = []; acts = (refl, refl, refl); tells = nothing_told told; none_tried = refl }

pub out_call : {S : Type 0} (event : Event) (s : S) {told now : Told} → tried (event ∷ []) ≡ [] → Tells (event ∷ []) told now
    → DoesOutside (Call event) s s told now None
out_call event s none tells = record { trace = event ∷ []; acts = (refl, refl, refl); tells = tells; none_tried = none }

pub out_then : {S : Type 0} {first second : Action S} {old middle new : S} {told between now : Told} {end : Option NodeEnd}
    → DoesOutside first old middle told between None → DoesOutside second middle new between now end
    → DoesOutside (Then first second) old new told now end
out_then {S} {first} {second} {old} {middle} {new} {told} {between} {now} {end} a b = record {
  trace = a.trace ++ b.trace;
  acts = inl (record { front = a.trace; back = b.trace; middle = middle; split = refl; begins = a.acts; goes_on = b.acts });
  tells = tells_both a.trace b.trace told between now a.tells b.tells;
  none_tried =
      tried-append a.trace b.trace ∙ ap (λ (l : List Entry). l ++ tried b.trace) a.none_tried ∙ b.none_tried;
}

pub out_end : {S : Type 0} {first : Action S} (second : Action S) {old new : S} {told now : Told} {why : NodeEnd}
    → DoesOutside first old new told now (Some why) → DoesOutside (Then first second) old new told now (Some why)
out_end second {why = why} a = out_as (λ trace h. inr (record { why = why; for_that_cause = refl; ends = h })) a

pub out_wants : {S : Type 0} {act : Action S} {old new : S} {told now : Told} {end : Option NodeEnd}
    → DoesOutside act old new told now end → DoesOutside (Wants act) old new told now end
out_wants a = out_as (λ trace h. inl h) a

pub out_of_memory : {S : Type 0} (act : Action S) (s : S) (told : Told) → DoesOutside (Wants act) s s told told (Some NoMemory)
out_of_memory act s told = out_as (λ trace h. inr h) (out_stop NoMemory s told)

module _ {K : Type 0} {kept_in : K → Option Bodies} {size faults moment : K → ℕ} {may_leave : K → Bodies → Type 0} {left_since : K → ℕ → Bodies → Type 0} {opens_since : K → ℕ → ℕ → Type 0} where
  pub did_as : {S T : Type 0} {first : Action S} {second : Action T} {old new : S} {older newer : T} {keeper later : K} {told now : Told} {end : Option NodeEnd}
      → ((trace : Trace) → first old trace end new → second older trace end newer)
      → Does kept_in size faults moment may_leave left_since opens_since first old new keeper later told now end
      → Does kept_in size faults moment may_leave left_since opens_since second older newer keeper later told now end
  did_as f a = record { trace = a.trace; acts = f a.trace a.acts; lasts = a.lasts; tells = a.tells; goes_on = a.goes_on }

  -- what asks no keeper leaves it as it is
  pub did_outside : (spent : K → Bool) {S : Type 0} {act : Action S} {old new : S} (keeper : K) {told now : Told} {end : Option NodeEnd}
      → IsReady kept_in spent may_leave keeper → DoesOutside act old new told now end
      → Does kept_in size faults moment may_leave left_since opens_since act old new keeper keeper told now end
  did_outside spent keeper ready a = record {
    trace = a.trace;
    acts = a.acts;
    lasts = nothing_lasts kept_in size faults moment may_leave left_since opens_since spent a.trace a.none_tried keeper ready;
    tells = a.tells;
    goes_on = λ h. (none_kept a.trace a.none_tried).1;
  }

  pub did_then : {S : Type 0} {first second : Action S} {old middle new : S} {keeper between later : K} {told meanwhile now : Told} {end : Option NodeEnd}
      → Does kept_in size faults moment may_leave left_since opens_since first old middle keeper between told meanwhile None
      → Does kept_in size faults moment may_leave left_since opens_since second middle new between later meanwhile now end
      → Does kept_in size faults moment may_leave left_since opens_since (Then first second) old new keeper later told now end
  did_then {S} {first} {second} {old} {middle} {new} {keeper} {between} {later} {told} {meanwhile} {now} {end} a b = record {
    trace = a.trace ++ b.trace;
    acts = inl (record { front = a.trace; back = b.trace; middle = middle; split = refl; begins = a.acts; goes_on = b.acts });
    lasts =
        both_last a.trace b.trace (a.goes_on refl) kept_in size faults moment may_leave left_since opens_since keeper between later a.lasts
        b.lasts;
    tells = tells_both a.trace b.trace told meanwhile now a.tells b.tells;
    goes_on = λ h.
        refusals-append a.trace b.trace ∙ ap (λ (l : List (Entry × NodeEnd)). l ++ refusals b.trace) (a.goes_on refl)
        ∙ b.goes_on h;
  }

  pub did_end : {S : Type 0} {first : Action S} (second : Action S) {old new : S} {keeper later : K} {told now : Told} {why : NodeEnd}
      → Does kept_in size faults moment may_leave left_since opens_since first old new keeper later told now (Some why)
      → Does kept_in size faults moment may_leave left_since opens_since (Then first second) old new keeper later told now (Some why)
  did_end second {why = why} a = did_as (λ trace h. inr (record { why = why; for_that_cause = refl; ends = h })) a

  pub did_wants : {S : Type 0} {act : Action S} {old new : S} {keeper later : K} {told now : Told} {end : Option NodeEnd}
      → Does kept_in size faults moment may_leave left_since opens_since act old new keeper later told now end
      → Does kept_in size faults moment may_leave left_since opens_since (Wants act) old new keeper later told now end
  did_wants a = did_as (λ trace h. inl h) a

  -- an entry is kept, or is not
  pub did_keep : (e : Entry) (result : Result (Unit {0}) NodeEnd) (node : NodeState) (keeper later : K) (told : Told)
      → (trace : Trace) × KeptBy e trace result × Lasts kept_in size faults moment may_leave left_since opens_since trace keeper later
      → Does kept_in size faults moment may_leave left_since opens_since (Keep (Some e)) node node keeper later told told (end_of result)
  did_keep e (Ok done) node keeper later told (trace, is, lasts) = record {
    trace = trace;
    acts = (inl (is, refl), refl);
    lasts = lasts;
    tells = subst (λ (t : Trace). Tells t told told) (sym is) (keeping_told e told);
    goes_on = λ h. ap refusals is;
  }
  did_keep e (Err why) node keeper later told (trace, inl none, lasts) = record {
    trace = trace;
    acts = (inr (inr (none.1, ap Some none.0)), refl);
    lasts = lasts;
    tells = subst (λ (t : Trace). Tells t told told) (sym none.1) (nothing_told told);
    goes_on = λ h. cc;
  }
  did_keep e (Err why) node keeper later told (trace, inr refused, lasts) = record {
    trace = trace;
    acts = (inr (inl (why, refused.0, refused.1, refl)), refl);
    lasts = lasts;
    tells = subst (λ (t : Trace). Tells t told told) (sym refused.1) (refusing_told e why told);
    goes_on = λ h. cc;
  }

-- what is left completes the whole
abbrev pub Completing : {S K : Type 0} (kept_in : K → Option Bodies) (size faults moment : K → ℕ) (may_leave : K → Bodies → Type 0)
    (left_since : K → ℕ → Bodies → Type 0) (opens_since : K → ℕ → ℕ → Type 0) (left whole : Action S) (here old : S)
    (at_keeper keeper : K) (at_told told : Told) → Type 0
Completing {S} {K} kept_in size faults moment may_leave left_since opens_since left whole here old at_keeper keeper at_told told =
    (new : S) (later : K) (now : Told) (end : Option NodeEnd)
    → Does kept_in size faults moment may_leave left_since opens_since left here new at_keeper later at_told now end
    → Does kept_in size faults moment may_leave left_since opens_since whole old new keeper later told now end

abbrev pub CompletingOutside : {S : Type 0} (left whole : Action S) (here old : S) (at_told told : Told) → Type 0
CompletingOutside {S} left whole here old at_told told =
    (new : S) (now : Told) (end : Option NodeEnd) → DoesOutside left here new at_told now end
    → DoesOutside whole old new told now end
