-- What a run may do: from a state, a trace, the end if it ended the run, and the state after it.
use Rattle.std.specs.Prelude.{[], ◌++◌, ◌∷◌, ◌≡◌, ◌⊎◌, Bool, List, None, Option, Some, false, true}
use Rattle.node_inputs.specs.Traces.{Event, Trace}
use Rattle.node_inputs.specs.declared.ends.NodeEnd.{NodeEnd}
use Rattle.node_inputs.specs.declared.ends.NodeEnd.TheVariants.{NoMemory}

abbrev pub Action : Type 0 → Type 1
Action S = S → Trace → Option NodeEnd → S → Type 0

-- nothing happens
abbrev pub Nothing : {S : Type 0} → Action S
Nothing old trace end new = (trace ≡ []) × (end ≡ None) × (new ≡ old)

-- the run ends
abbrev pub Stop : {S : Type 0} → NodeEnd → Action S
Stop why old trace end new = (trace ≡ []) × (end ≡ Some why) × (new ≡ old)

-- one call, and nothing else changes
abbrev pub Call : {S : Type 0} → Event → Action S
Call event old trace end new = (trace ≡ event ∷ []) × (end ≡ None) × (new ≡ old)

-- the state becomes this
abbrev pub Becomes : {S : Type 0} → S → Action S
Becomes next old trace end new = (trace ≡ []) × (end ≡ None) × (new ≡ next)

-- one action and then another
pub record Both {S : Type 0} (first second : Action S) (old : S) (trace : Trace) (end : Option NodeEnd) (new : S) : Type 0 where
  pub front : Trace
  pub back : Trace
  pub middle : S
  pub split : trace ≡ front ++ back
  pub begins : first old front None middle
  pub goes_on : second middle back end new

-- the first of two ends the run
pub record EndsBefore {S : Type 0} (first : Action S) (old : S) (trace : Trace) (end : Option NodeEnd) (new : S) : Type 0 where
  pub why : NodeEnd
  pub for_that_cause : end ≡ Some why
  pub ends : first old trace (Some why) new

-- one action and then another, unless the first ends the run
abbrev pub Then : {S : Type 0} → Action S → Action S → Action S
Then first second old trace end new = Both first second old trace end new ⊎ EndsBefore first old trace end new

-- one after the other
abbrev pub Each : {S X : Type 0} → (X → Action S) → List X → Action S
Each act [] = Nothing
Each act (x ∷ xs) = Then (act x) (Each act xs)

-- it may end for want of memory before it begins
abbrev pub Wants : {S : Type 0} → Action S → Action S
Wants act old trace end new = act old trace end new ⊎ Stop NoMemory old trace end new

-- what the state as it stands decides
abbrev pub From : {S : Type 0} → (S → Action S) → Action S
From act old = act old old

abbrev pub If : {S : Type 0} → Bool → Action S → Action S → Action S
If true first second = first
If false first second = second

abbrev pub IfThere : {S X : Type 0} → Option X → (X → Action S) → Action S → Action S
IfThere None act otherwise = otherwise
IfThere (Some x) act otherwise = act x
