-- An end for a refusal comes with an entry that was refused, and with one alone.
use Rattle.std.proofs.Common.{[], ◌++◌, ◌≡◌, ◌∙◌, ◌∷◌, ℕ, List, None, Option, Some, ap, inl, inr, refl, subst, sym}
use Rattle.std.specs.List.{AllByRecursion}
use Rattle.base_types.specs.declared.LimitName.TheVariants.{Places}
use Rattle.node_inputs.proofs.Fronts.{refusals-append}
use Rattle.model.specs.Types.{Entry, Input, Launch, Out, Send, Work}
use Rattle.agent_core.specs.Nodes.{NodeState}
use Rattle.mail_frames.specs.declared.frames.Frame.{Frame}
use Rattle.node_inputs.specs.Keeping.{IsRefusal}
use Rattle.node_inputs.specs.Traces.{Event, Trace, refusals}
use Rattle.node_inputs.specs.declared.ends.NodeEnd.{NodeEnd}
use Rattle.node_inputs.specs.declared.ends.NodeEnd.TheVariants.{Limit, NoMemory}
use Rattle.node_inputs.specs.Actions.{Action, Then}
use Rattle.node_inputs.specs.Inputs.{Carried, Carry, CarryOut, IsKeeping, Keep, SendFrame, StartIt}
use Rattle.run_laws.proofs.Given.{send_gives}
use Rattle.run_laws.proofs.Rules.{EndsFree, Gives, IsJoined, IsRest, call_gives, each_gives, free_end, free_memory, free_none, free_places, rest_none}
use Rattle.run_laws.proofs.Taking.{GivesOut, IsRule, Steps}
use Rattle.run_laws.proofs.Tracing.{IsDone, all_done}

-- where it ends for a refusal one entry was refused, for this end, and else none
pub record IsForced (old : NodeState) (trace : Trace) (end : Option NodeEnd) (new : NodeState) : Type 0 where
  pub quiet : EndsFree end → refusals trace ≡ []
  pub forced : (why : NodeEnd) → end ≡ Some why → IsRefusal why → (e : Entry) × (refusals trace ≡ (e, why) ∷ [])

front_quiet : (a b : Trace) → refusals a ≡ [] → refusals (a ++ b) ≡ refusals b
front_quiet a b none = refusals-append a b ∙ ap (λ (l : List (Entry × NodeEnd)). l ++ refusals b) none

-- nothing is refused, and the end is for no refusal
unforced : (old new : NodeState) (trace : Trace) (end : Option NodeEnd) → refusals trace ≡ [] → EndsFree end
    → IsForced old trace end new
unforced old new trace end none free =
    record { quiet = λ same. none; forced = λ why is r. absurd (free why is r) }

forced_joined : IsJoined (λ o t e n. IsForced o t e n)
forced_joined = record {
  rests = λ s end rest. unforced s s [] end refl rest.free;
  joins = λ a b c front back end h k. record {
    quiet = λ free. front_quiet front back (h.quiet (free_none None refl)) ∙ k.quiet free;
    forced = λ why is r.
        let f = k.forced why is r in (f.0, front_quiet front back (h.quiet (free_none None refl)) ∙ f.1);
  };
}

pub one_unforced : (s : NodeState) (event : Event) → refusals (event ∷ []) ≡ [] → IsForced s (event ∷ []) None s
one_unforced s event none = unforced s s (event ∷ []) None none (free_none None refl)

-- outputs end a run for no refusal and for no limit
abbrev FreeEnd : Action Carried
FreeEnd old trace end new = IsRest end

free_joined : IsJoined FreeEnd
free_joined = record { rests = λ s end rest. rest; joins = λ a b c front back end h k. k }

start_free : (j n : ℕ) (work : Work) → Gives (StartIt j n work) FreeEnd
start_free j n work old trace end new h = rest_none end h.2

frame_free : (x : ℕ) (f : Frame) → Gives (SendFrame x f) FreeEnd
frame_free x f old trace end new h = rest_none end h.2

out_free : (node : NodeState) (out : Out) → Gives (CarryOut node out) FreeEnd
out_free node (Launch j n work) = start_free j n work
out_free node (Out.Kill j n) = call_gives FreeEnd free_joined (Event.Kills j n) (λ s. rest_none None refl)
out_free node (Send x p) = send_gives FreeEnd free_joined frame_free node x p

pub carry_free : (node : NodeState) (outs : List Out) → Gives (Carry node outs) FreeEnd
carry_free node outs = each_gives FreeEnd free_joined (CarryOut node) (out_free node) outs

done_refuses_none : (trace : Trace) → AllByRecursion IsDone trace → refusals trace ≡ []
done_refuses_none [] h = refl
done_refuses_none (Event.Asks call ∷ trace) h = done_refuses_none trace h.1
done_refuses_none (Event.Starts call ∷ trace) h = done_refuses_none trace h.1
done_refuses_none (Event.Kills j n ∷ trace) h = done_refuses_none trace h.1
done_refuses_none (Event.Sends call ∷ trace) h = done_refuses_none trace h.1
done_refuses_none (e ∷ trace) h = absurd h.0

none_is_no_end : {why : NodeEnd} → None ≡ Some why → ⊥
none_is_no_end q = cc

why_is : {a b : NodeEnd} → Some a ≡ Some b → a ≡ b
why_is q = cc

-- the entry of a step is kept and the run goes on, or it ends for its refusal or for want of memory
kept_refuses_none : (made : Option Entry) (trace : Trace) → IsKeeping made trace None → refusals trace ≡ []
kept_refuses_none None trace h = ap refusals h.0
kept_refuses_none (Some e) trace (inl h) = ap refusals h.0
kept_refuses_none (Some e) trace (inr (inl h)) = absurd (none_is_no_end h.3)
kept_refuses_none (Some e) trace (inr (inr h)) = absurd (none_is_no_end h.1)

keeping_forced : (made : Option Entry) (old new : NodeState) (trace : Trace) (end : Option NodeEnd) (why : NodeEnd)
    → end ≡ Some why → IsKeeping made trace (Some why) → IsForced old trace end new
keeping_forced None old new trace end why is h = absurd (none_is_no_end (sym h.1))
keeping_forced (Some e) old new trace end why is (inl h) = absurd (none_is_no_end (sym h.1))
keeping_forced (Some e) old new trace end why is (inr (inl h)) = record {
  quiet = λ free. absurd (free h.0 (is ∙ h.3) h.1);
  forced = λ other also r.
      let same : h.0 ≡ other = why_is (sym h.3 ∙ sym is ∙ also) in
      (e, ap refusals h.2 ∙ ap (λ (w : NodeEnd). (e, w) ∷ []) same);
}
keeping_forced (Some e) old new trace end why is (inr (inr h)) = record {
  quiet = λ free. ap refusals h.0;
  forced = λ other also r.
      let same : other ≡ NoMemory = why_is (sym also ∙ is ∙ h.1) in absurd (free_memory (subst IsRefusal same r));
}

step_forced : (input : Input) → Gives (λ o t e n. Steps input o t e n) (λ o t e n. IsForced o t e n)
step_forced input old trace end new h = go h.acts
  where
    go : Then (Keep h.step.kept) (λ o t e n. GivesOut h.step.outs o t e n) new trace end new → IsForced old trace end new
    go (inl b) =
        let g : GivesOut h.step.outs b.middle b.back end new = b.goes_on in
        let behind : refusals b.back ≡ [] =
        ap refusals g.split ∙ done_refuses_none (g.asks ++ g.carried) (all_done h.step.outs b.middle b.back end new g) in
        unforced old new trace end
        (ap refusals b.split ∙ front_quiet b.front b.back (kept_refuses_none h.step.kept b.front b.begins.0) ∙ behind)
        (carry_free b.middle h.step.outs _ g.carried end g.so_far g.carries).free
    go (inr e) = keeping_forced h.step.kept old new trace end e.why e.for_that_cause e.ends.0

pub forced_rule : IsRule (λ i. Unit {0}) (λ o t e n. IsForced o t e n)
forced_rule = record {
  joined = forced_joined;
  spent = λ s end input due is. unforced s s [] end refl (free_end end (Limit Places) is free_places);
  asks = λ s call. one_unforced s (Event.Asks call) refl;
  replies = λ s call. one_unforced s (Event.Replies call) refl;
  steps = λ input q. step_forced input;
  told = λ input t. tt;
}
