-- A run ends for a limit where the file is full, or where an input meets a place that is spent.
use Rattle.std.proofs.Common.{[], ◌≡◌, ◌∙◌, ◌∷◌, None, Option, Some, inl, inr, sym}
use Rattle.base_types.specs.declared.LimitName.{LimitName}
use Rattle.base_types.specs.declared.LimitName.TheVariants.{File, Places}
use Rattle.model.specs.Types.{Entry, Input}
use Rattle.agent_core.specs.Nodes.{NodeState}
use Rattle.node_inputs.specs.Keeping.{IsRefusal}
use Rattle.node_inputs.specs.Traces.{Event, Trace}
use Rattle.node_inputs.specs.declared.ends.NodeEnd.{NodeEnd}
use Rattle.node_inputs.specs.declared.ends.NodeEnd.TheVariants.{DiskFault, Limit, NoMemory}
use Rattle.node_inputs.specs.Actions.{Action, Then}
use Rattle.node_inputs.specs.Inputs.{IsKeeping, Keep}
use Rattle.run_laws.specs.Limits.{IsMet}
use Rattle.run_laws.proofs.Forcing.{carry_free}
use Rattle.run_laws.proofs.Rules.{Gives, IsJoined}
use Rattle.run_laws.proofs.Taking.{GivesOut, IsRule, Steps}

-- where it ends for a limit, this limit was met
abbrev pub MeetsIt : Action NodeState
MeetsIt old trace end new = (name : LimitName) → end ≡ Some (Limit name) → IsMet new name

pub goes_on : {name : LimitName} {A : Type 0} → None ≡ Some (Limit name) → A
goes_on q = cc

memory : {name : LimitName} {A : Type 0} → Some NoMemory ≡ Some (Limit name) → A
memory q = cc

name_is : {a b : LimitName} → Some (Limit a) ≡ Some (Limit b) → b ≡ a
name_is q = cc

meets_joined : IsJoined MeetsIt
meets_joined = record { rests = λ s end rest name is. absurd (rest.no_limit name is); joins = λ a b c front back end h k. k }

-- an entry is refused for the disk, or for a full file
refused_for : (why : NodeEnd) (name : LimitName) (new : NodeState) → IsRefusal why → Some why ≡ Some (Limit name) → IsMet new name
refused_for why name new (inl disk) is = cc
refused_for why name new (inr full) is = inl cc

keeping_meets : (made : Option Entry) (trace : Trace) (end : Option NodeEnd) (new : NodeState) → IsKeeping made trace end
    → (name : LimitName) → end ≡ Some (Limit name) → IsMet new name
keeping_meets None trace end new h name is = goes_on (sym h.1 ∙ is)
keeping_meets (Some e) trace end new (inl h) name is = goes_on (sym h.1 ∙ is)
keeping_meets (Some e) trace end new (inr (inl h)) name is = refused_for h.0 name new h.1 (sym h.3 ∙ is)
keeping_meets (Some e) trace end new (inr (inr h)) name is = memory (sym h.1 ∙ is)

step_meets : (input : Input) → Gives (λ o t e n. Steps input o t e n) MeetsIt
step_meets input old trace end new h = go h.acts
  where
    go : Then (Keep h.step.kept) (λ o t e n. GivesOut h.step.outs o t e n) new trace end new → MeetsIt old trace end new
    go (inl b) name is =
        let g : GivesOut h.step.outs b.middle b.back end new = b.goes_on in
        absurd ((carry_free b.middle h.step.outs _ g.carried end g.so_far g.carries).no_limit name is)
    go (inr e) name is = keeping_meets h.step.kept trace (Some e.why) new e.ends.0 name (sym e.for_that_cause ∙ is)

pub meets_rule : IsRule (λ i. Unit {0}) MeetsIt
meets_rule = record {
  joined = meets_joined;
  spent = λ s end input due is name also. inr (name_is (sym is ∙ also), input, due);
  asks = λ s call name is. goes_on is;
  replies = λ s call name is. goes_on is;
  steps = λ input q. step_meets input;
  told = λ input t. tt;
}
