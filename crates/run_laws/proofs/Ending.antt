-- At its end a node holds what it kept, and at most the entry in hand besides.
use Rattle.std.proofs.Common.{[], ◌++◌, ◌≡◌, ◌∙◌, ◌∷◌, List, None, Option, Some, ap, append_assoc, refl, subst, sym}
use Rattle.std.proofs.lemmas.List.{append-nil}
use Rattle.std.specs.Option.{option_to_list}
use Rattle.node_inputs.proofs.Fronts.{kept-append}
use Rattle.model.specs.Types.{Entry, Input}
use Rattle.agent_core.specs.Nodes.{NodeState}
use Rattle.node_inputs.specs.Traces.{Event, Trace, kept}
use Rattle.node_inputs.specs.declared.ends.NodeEnd.{NodeEnd}
use Rattle.run_laws.specs.Held.{IsInHand}
use Rattle.run_laws.proofs.Rules.{Gives, IsJoined}
use Rattle.run_laws.proofs.Taking.{IsRule, Steps}
use Rattle.run_laws.proofs.Tracing.{StepTrace, done_keeps_none, step_trace}

-- what it holds beside what it kept, which is nothing where the run goes on
pub record HoldsWhatItKept (old : NodeState) (trace : Trace) (end : Option NodeEnd) (new : NodeState) : Type 0 where
  pub in_hand : Option Entry
  pub holds : new.kept ≡ (old.kept ++ kept trace) ++ option_to_list in_hand
  pub its_end : (e : Entry) → in_hand ≡ Some e → IsInHand trace end e

nothing_in_hand : (old new : NodeState) (trace : Trace) (end : Option NodeEnd) → new.kept ≡ old.kept ++ kept trace
    → HoldsWhatItKept old trace end new
nothing_in_hand old new trace end same = record {
  in_hand = None;
  holds = same ∙ sym (append-nil (old.kept ++ kept trace));
  its_end = λ e h. absurd (clash h);
}
  where
    clash : {e : Entry} → None ≡ Some e → ⊥
    clash q = cc

pub one_holds : (s : NodeState) (event : Event) → kept (event ∷ []) ≡ [] → HoldsWhatItKept s (event ∷ []) None s
one_holds s event none =
    nothing_in_hand s s (event ∷ []) None (sym (ap (λ (l : List Entry). s.kept ++ l) none ∙ append-nil s.kept))

-- where the run goes on nothing is in hand
goes_on : (old : NodeState) (trace : Trace) (new : NodeState) → HoldsWhatItKept old trace None new → new.kept ≡ old.kept ++ kept trace
goes_on old trace new h = go h.in_hand h.holds h.its_end
  where
    go : (o : Option Entry) → new.kept ≡ (old.kept ++ kept trace) ++ option_to_list o
        → ((e : Entry) → o ≡ Some e → IsInHand trace None e) → new.kept ≡ old.kept ++ kept trace
    go None holds ends = holds ∙ append-nil (old.kept ++ kept trace)
    go (Some e) holds ends = absurd (never (ends e refl))
      where
        never : IsInHand trace None e → ⊥
        never (IsInHand.refused front why split is) = cc
        never (IsInHand.spent is) = cc

more_before : (front back : Trace) (end : Option NodeEnd) (e : Entry) → IsInHand back end e → IsInHand (front ++ back) end e
more_before front back end e (IsInHand.refused before why split is) =
    IsInHand.refused (front ++ before) why
    (ap (λ (t : Trace). front ++ t) split ∙ sym (append_assoc front before (Event.Refuses e why ∷ []))) is
more_before front back end e (IsInHand.spent is) = IsInHand.spent is

holds_joined : IsJoined (λ o t e n. HoldsWhatItKept o t e n)
holds_joined = record {
  rests = λ s end rest. nothing_in_hand s s [] end (sym (append-nil s.kept));
  joins = λ a b c front back end h k. record {
    in_hand = k.in_hand;
    holds =
        k.holds
        ∙ ap (λ (l : List Entry). l ++ option_to_list k.in_hand)
        (ap (λ (l : List Entry). l ++ kept back) (goes_on a front b h) ∙ append_assoc a.kept (kept front) (kept back)
        ∙ ap (λ (l : List Entry). a.kept ++ l) (sym (kept-append front back)));
    its_end = λ e is. more_before front back end e (k.its_end e is);
  };
}

step_holds : (input : Input) → Gives (λ o t e n. Steps input o t e n) (λ o t e n. HoldsWhatItKept o t e n)
step_holds input old trace end new h = go (step_trace input old trace end new h)
  where
    entry_is : {d e : Entry} → Some d ≡ Some e → d ≡ e
    entry_is q = cc

    held : (m : Option Entry) → h.step.kept ≡ m → new.kept ≡ old.kept ++ option_to_list m
    held m is = h.taken.kept ∙ ap (λ (o : Option Entry). old.kept ++ option_to_list o) is

    unkept : (d : Entry) → h.step.kept ≡ Some d → kept trace ≡ [] → IsInHand trace end d → HoldsWhatItKept old trace end new
    unkept d is none ends = record {
      in_hand = Some d;
      holds =
          held (Some d) is
          ∙ ap (λ (l : List Entry). l ++ d ∷ [])
          (sym (ap (λ (l : List Entry). old.kept ++ l) none ∙ append-nil old.kept));
      its_end = λ e same. subst (IsInHand trace end) (entry_is same) ends;
    }

    go : StepTrace h.step.kept trace end → HoldsWhatItKept old trace end new
    go (StepTrace.none is done) =
        nothing_in_hand old new trace end
        (held None is ∙ ap (λ (l : List Entry). old.kept ++ l) (sym (done_keeps_none trace done)))
    go (StepTrace.one d rest is split done) =
        nothing_in_hand old new trace end
        (held (Some d) is ∙ ap (λ (l : List Entry). old.kept ++ l)
        (sym (ap kept split ∙ ap (λ (l : List Entry). d ∷ l) (done_keeps_none rest done))))
    go (StepTrace.refused d why is r split ends) = unkept d is (ap kept split) (IsInHand.refused [] why split ends)
    go (StepTrace.spent d is split ends) = unkept d is (ap kept split) (IsInHand.spent ends)

pub holds_rule : IsRule (λ i. Unit {0}) (λ o t e n. HoldsWhatItKept o t e n)
holds_rule = record {
  joined = holds_joined;
  spent = λ s end input due is. nothing_in_hand s s [] end (sym (append-nil s.kept));
  asks = λ s call. one_holds s (Event.Asks call) refl;
  replies = λ s call. one_holds s (Event.Replies call) refl;
  steps = λ input q. step_holds input;
  told = λ input t. tt;
}
