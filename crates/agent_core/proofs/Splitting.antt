-- A step by its clauses.
use Rattle.std.proofs.Common.{◌≡◌, Err, Ok, Result, subst}
use Rattle.std.specs.Option.{option_to_list}
use Rattle.std.specs.Prelude.{◌++◌, IfErr, IfOk, OnErr}
use Rattle.model.specs.Types.{Input}
use Rattle.agent_core.specs.Nodes.{NodeState}
use Rattle.agent_core.specs.Steps.{IsDue, IsStep, effect_in, step_at}
use Rattle.agent_core.specs.declared.faults.Step.{Step}
use Rattle.agent_core.specs.declared.faults.StepFault.{StepFault}

-- from a state that is the old one
pub as_old : (old mid new : NodeState) (i : Input) (r : Result Step StepFault) → mid ≡ old → IsStep mid i r new
    → IsStep old i r new
as_old old mid new i r e h = subst (λ (n : NodeState). IsStep n i r new) e h

taken_of : (old new : NodeState) (i : Input) (r : Result Step StepFault) → IsStep old i r new
    → IfOk r (λ s. step_at old i ≡ Ok (effect_in s new))
taken_of old new i (Ok s) h = h.effect
taken_of old new i (Err f) h = tt

kept_of : (old new : NodeState) (i : Input) (r : Result Step StepFault) → IsStep old i r new
    → IfOk r (λ s. new.kept ≡ old.kept ++ option_to_list s.kept)
kept_of old new i (Ok s) h = h.kept
kept_of old new i (Err f) h = tt

refused_of : (old new : NodeState) (i : Input) (r : Result Step StepFault) → IsStep old i r new
    → IfErr r (λ f. IsDue old i f)
refused_of old new i (Ok s) h = tt
refused_of old new i (Err f) h = h.0

same_of : (old new : NodeState) (i : Input) (r : Result Step StepFault) → IsStep old i r new → OnErr r (new ≡ old)
same_of old new i (Ok s) h = tt
same_of old new i (Err f) h = h.1

net_of : (old new : NodeState) (i : Input) (r : Result Step StepFault) → IsStep old i r new → new.net ≡ old.net
net_of old new i (Ok s) h = h.net_
net_of old new i (Err f) h = λ k. (h.1 k).net

me_of : (old new : NodeState) (i : Input) (r : Result Step StepFault) → IsStep old i r new → new.me ≡ old.me
me_of old new i (Ok s) h = h.me_
me_of old new i (Err f) h = λ k. (h.1 k).me

module _ (old mid new : NodeState) (i : Input) (r : Result Step StepFault) (e : mid ≡ old) (h : IsStep mid i r new)
  where
    pub told_taken : IfOk r (λ s. step_at old i ≡ Ok (effect_in s new))
    told_taken = taken_of old new i r (as_old old mid new i r e h)

    pub told_kept : IfOk r (λ s. new.kept ≡ old.kept ++ option_to_list s.kept)
    told_kept = kept_of old new i r (as_old old mid new i r e h)

    pub told_refused : IfErr r (λ f. IsDue old i f)
    told_refused = refused_of old new i r (as_old old mid new i r e h)

    pub told_same : OnErr r (new ≡ old)
    told_same = same_of old new i r (as_old old mid new i r e h)

    pub told_net : new.net ≡ old.net
    told_net = net_of old new i r (as_old old mid new i r e h)

    pub told_me : new.me ≡ old.me
    told_me = me_of old new i r (as_old old mid new i r e h)
