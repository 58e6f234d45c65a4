-- Choices whose condition is known.
use Rattle.std.proofs.Common.{◌≡◌, ◌<◌, ℕ, Bool, List, None, Option, Some, false, get_or, refl, subst, sym, true}
use Rattle.std.specs.Prelude.{◌&&◌, not}
use Rattle.model.specs.Network.{are_neighbours, node_count}
use Rattle.agent_core.specs.Nodes.{NodeState, present_in}
use Rattle.outside.specs.Kept.{Bodies}
use Rattle.node_inputs.specs.Traces.{Trace}
use Rattle.node_inputs.specs.declared.ends.NodeEnd.{NodeEnd}
use Rattle.node_inputs.specs.Actions.{Action, If, IfThere}
use Rattle.node_inputs.specs.Doings.{Does, DoesOutside}
use Rattle.node_inputs.specs.Inputs.{is_new_neighbour}
use Rattle.node_inputs.specs.Stepping.{TellNeighbours}
use Rattle.node_inputs.specs.Tellings.{Told}
use Rattle.node_inputs.proofs.Doing.{did_as, out_as}

if_true : {S : Type 0} (b : Bool) (first second : Action S) {old new : S} (trace : Trace) {end : Option NodeEnd} → b ≡ true
    → first old trace end new → If b first second old trace end new
if_true true first second trace e h = h
if_true false first second trace e h = cc

if_false : {S : Type 0} (b : Bool) (first second : Action S) {old new : S} (trace : Trace) {end : Option NodeEnd} → b ≡ false
    → second old trace end new → If b first second old trace end new
if_false true first second trace e h = cc
if_false false first second trace e h = h

pub out_if_true : {S : Type 0} {first : Action S} (second : Action S) {old new : S} {told now : Told} {end : Option NodeEnd} (b : Bool)
    → b ≡ true → DoesOutside first old new told now end → DoesOutside (If b first second) old new told now end
out_if_true {first = first} second b e a = out_as (λ trace h. if_true b first second trace e h) a

pub out_if_false : {S : Type 0} (first : Action S) {second : Action S} {old new : S} {told now : Told} {end : Option NodeEnd} (b : Bool)
    → b ≡ false → DoesOutside second old new told now end → DoesOutside (If b first second) old new told now end
out_if_false first {second} b e a = out_as (λ trace h. if_false b first second trace e h) a

there_is : {S X : Type 0} (o : Option X) (x : X) (act : X → Action S) (otherwise : Action S) {old new : S} (trace : Trace) {end : Option NodeEnd}
    → o ≡ Some x → act x old trace end new → IfThere o act otherwise old trace end new
there_is {X = X} o x act otherwise {old} {new} trace {end} e h =
    subst (λ (p : Option X). IfThere p act otherwise old trace end new) (sym e) h

there_is_none : {S X : Type 0} (o : Option X) (act : X → Action S) (otherwise : Action S) {old new : S} (trace : Trace) {end : Option NodeEnd}
    → o ≡ None → otherwise old trace end new → IfThere o act otherwise old trace end new
there_is_none {X = X} o act otherwise {old} {new} trace {end} e h =
    subst (λ (p : Option X). IfThere p act otherwise old trace end new) (sym e) h

pub out_there : {S X : Type 0} (o : Option X) (x : X) (act : X → Action S) (otherwise : Action S) {old new : S} {told now : Told} {end : Option NodeEnd}
    → o ≡ Some x → DoesOutside (act x) old new told now end → DoesOutside (IfThere o act otherwise) old new told now end
out_there o x act otherwise e a = out_as (λ trace h. there_is o x act otherwise trace e h) a

pub out_not_there : {S X : Type 0} (o : Option X) (act : X → Action S) (otherwise : Action S) {old new : S} {told now : Told} {end : Option NodeEnd}
    → o ≡ None → DoesOutside otherwise old new told now end → DoesOutside (IfThere o act otherwise) old new told now end
out_not_there o act otherwise e a = out_as (λ trace h. there_is_none o act otherwise trace e h) a

module _ {K : Type 0} {kept_in : K → Option Bodies} {size faults moment : K → ℕ} {may_leave : K → Bodies → Type 0} {left_since : K → ℕ → Bodies → Type 0} {opens_since : K → ℕ → ℕ → Type 0} where
  pub did_if_true : {S : Type 0} {first : Action S} (second : Action S) {old new : S} {keeper later : K} {told now : Told} {end : Option NodeEnd} (b : Bool)
      → b ≡ true → Does kept_in size faults moment may_leave left_since opens_since first old new keeper later told now end
      → Does kept_in size faults moment may_leave left_since opens_since (If b first second) old new keeper later told now end
  did_if_true {first = first} second b e a = did_as (λ trace h. if_true b first second trace e h) a

  pub did_if_false : {S : Type 0} (first : Action S) {second : Action S} {old new : S} {keeper later : K} {told now : Told} {end : Option NodeEnd} (b : Bool)
      → b ≡ false → Does kept_in size faults moment may_leave left_since opens_since second old new keeper later told now end
      → Does kept_in size faults moment may_leave left_since opens_since (If b first second) old new keeper later told now end
  did_if_false first {second} b e a = did_as (λ trace h. if_false b first second trace e h) a

  pub did_there : {S X : Type 0} (o : Option X) (x : X) (act : X → Action S) (otherwise : Action S) {old new : S} {keeper later : K} {told now : Told} {end : Option NodeEnd}
      → o ≡ Some x → Does kept_in size faults moment may_leave left_since opens_since (act x) old new keeper later told now end
      → Does kept_in size faults moment may_leave left_since opens_since (IfThere o act otherwise) old new keeper later told now end
  did_there o x act otherwise e a = did_as (λ trace h. there_is o x act otherwise trace e h) a

  pub did_not_there : {S X : Type 0} (o : Option X) (act : X → Action S) (otherwise : Action S) {old new : S} {keeper later : K} {told now : Told} {end : Option NodeEnd}
      → o ≡ None → Does kept_in size faults moment may_leave left_since opens_since otherwise old new keeper later told now end
      → Does kept_in size faults moment may_leave left_since opens_since (IfThere o act otherwise) old new keeper later told now end
  did_not_there o act otherwise e a = did_as (λ trace h. there_is_none o act otherwise trace e h) a

-- who is a new neighbour, by what the flags told
and_both : (a b : Bool) → a ≡ true → b ≡ false → (a && not b) ≡ true
and_both true false e f = refl
and_both false b e f = cc
and_both true true e f = cc

and_known : (a b : Bool) → b ≡ true → (a && not b) ≡ false
and_known true true e = refl
and_known false b e = refl
and_known true false e = cc

and_none : (a b : Bool) → a ≡ false → (a && not b) ≡ false
and_none false b e = refl
and_none true b e = cc

pub is_new : (old now : NodeState) (flags : List Bool) (x : ℕ) → TellNeighbours old flags → x < node_count old.net
    → are_neighbours (present_in now) now.me x ≡ true → get_or flags x false ≡ false → is_new_neighbour old now x ≡ true
is_new old now flags x told inside e f =
    and_both (are_neighbours (present_in now) now.me x) (are_neighbours (present_in old) old.me x) e (subst (λ (b : Bool). b ≡ false) (told.each x inside) f)

pub is_known : (old now : NodeState) (flags : List Bool) (x : ℕ) → TellNeighbours old flags → x < node_count old.net
    → get_or flags x false ≡ true → is_new_neighbour old now x ≡ false
is_known old now flags x told inside f =
    and_known (are_neighbours (present_in now) now.me x) (are_neighbours (present_in old) old.me x) (subst (λ (b : Bool). b ≡ true) (told.each x inside) f)

pub is_none_now : (old now : NodeState) (x : ℕ) → are_neighbours (present_in now) now.me x ≡ false → is_new_neighbour old now x ≡ false
is_none_now old now x e = and_none (are_neighbours (present_in now) now.me x) (are_neighbours (present_in old) old.me x) e
