-- Which test of its node the fault of a step comes from.
use Rattle.std.proofs.Common.{◌≡◌, ◌&&◌, ℕ, Bool, [], ◌∷◌, Option, None, Some, ap, eqb, false, not, refl, subst, true}
use Rattle.std.specs.Bool.{then_some}
use Rattle.std.specs.List.{list_all}
use Rattle.std.specs.Option.{option_or}
use Rattle.std.specs.Prelude.{Err, Ok, Result, nat_lt, option_map}
use Rattle.lemmas.proofs.Options.{none_some, some_same}
use Rattle.model.specs.Types.{Crash, CrashDeliver, CrashTake, Deliver, Input, LimitName, Local, Net, Take, WorldStep}
use Rattle.model.specs.Words.{first_of_these, some_is}
use Rattle.model.specs.Network.{node_count}
use Rattle.model.specs.History.{View}
use Rattle.model.specs.Sessions.{Session}
use Rattle.model.specs.NewEntry.{makes}
use Rattle.model.specs.StepFaults.{CarryFault, StepFault, is_next, is_place_spent, is_too_long, lacks_dep, lacks_process}
use Rattle.model.specs.StepFaults.{plan_fault, step_fault}
use Rattle.model.specs.Step.{Effect, node_step, unless_fault}
use Rattle.model.specs.Workstations.{peer_of, ws_in}
use Rattle.model.specs.World.{Origin, StepRefused, World, apply_effect, as_refusal, cut_short, delivery, mark_delivered}
use Rattle.model.specs.World.{node_effect, reached_limit, result_map, step, view_at, within_limits}
use Rattle.model_laws.proofs.Steps.{here, nothing, step_of}

-- what a fault tells of the tests of names, of the master and of the place, and of the plan's own
abbrev pub Tells : (named master spent : Bool) → Option CarryFault → StepFault → Type 0
Tells named master spent plan StepFault.NotInNetwork = named ≡ true
Tells named master spent plan StepFault.NotMaster = master ≡ true
Tells named master spent plan StepFault.PlaceSpent = spent ≡ true
Tells named master spent plan (StepFault.Carry f) = (master ≡ false) × (plan ≡ Some f)
Tells named master spent plan _ = Unit {0}

tells : (a b c d e f : Bool) (p : Option CarryFault) (t : Bool) (g : StepFault)
    → option_or
    (first_of_these
    ((a, StepFault.NotInNetwork) ∷ (b, StepFault.NotNeighbour) ∷ (c, StepFault.NotMaster) ∷ (d, StepFault.NoProcess)
    ∷ (e, StepFault.NoDep) ∷ (f, StepFault.PlaceSpent) ∷ []))
    (option_or (option_map StepFault.Carry p) (then_some t StepFault.TooLong)) ≡ Some g
    → Tells a c f p g
tells true b c d e f p t g h = subst (Tells true c f p) (some_same StepFault.NotInNetwork g h) refl
tells false true c d e f p t g h = subst (Tells false c f p) (some_same StepFault.NotNeighbour g h) tt
tells false false true d e f p t g h = subst (Tells false true f p) (some_same StepFault.NotMaster g h) refl
tells false false false true e f p t g h = subst (Tells false false f p) (some_same StepFault.NoProcess g h) tt
tells false false false false true f p t g h = subst (Tells false false f p) (some_same StepFault.NoDep g h) tt
tells false false false false false true p t g h =
    subst (Tells false false true p) (some_same StepFault.PlaceSpent g h) refl
tells false false false false false false (Some q) t g h =
    subst (Tells false false false (Some q)) (some_same (StepFault.Carry q) g h) (refl, refl)
tells false false false false false false None true g h =
    subst (Tells false false false None) (some_same StepFault.TooLong g h) tt
tells false false false false false false None false g h = absurd (none_some h)

pub fault_tells : (u : Net) (w : ℕ) (V : View) (s : Session) (i : Input) (g : StepFault) → step_fault u w V s i ≡ Some g
    → Tells (not (list_all (λ v. nat_lt v (node_count u)) (w ∷ ws_in i))) (is_next i && not (eqb w 0))
    (is_place_spent V (makes u w V s i)) (plan_fault u V i) g
unfolding step_fault
fault_tells u w V s i g h =
    tells (not (list_all (λ v. nat_lt v (node_count u)) (w ∷ ws_in i))) (some_is (peer_of i) w)
    (is_next i && not (eqb w 0)) (lacks_process s.live i) (lacks_dep w V i) (is_place_spent V (makes u w V s i))
    (plan_fault u V i) (is_too_long (makes u w V s i)) g h

-- the input of a step, and the node whose input it is
pub data IsInputOf (x : World) : WorldStep → ℕ → Input → Type 0 where
  own : (w : ℕ) (l : Local) → IsInputOf x (Take w l) w (Input.Local l)
  own_cut : (w : ℕ) (l : Local) (kept : Bool) → IsInputOf x (CrashTake w l kept) w (Input.Local l)
  came : (a b k : ℕ) (i : Input) → delivery x a b k ≡ Some i → IsInputOf x (Deliver a b k) b i
  came_cut : (a b k : ℕ) (kept : Bool) (i : Input) → delivery x a b k ≡ Some i
      → IsInputOf x (CrashDeliver a b k kept) b i

-- a step with a fault has an input with this fault
pub record Faulty (net : Net) (x : World) (s : WorldStep) (g : StepFault) : Type 0 where
  pub node : ℕ
  pub input : Input
  pub is_its : IsInputOf x s node input
  pub fault : step_fault (here net x node) node (view_at x node) (x.sessions node) input ≡ Some g

fault_is : (f : Effect → World) (o : Option LimitName) (r : Option StepFault) (d : Effect) (g : StepFault)
    → result_map f (within_limits o (as_refusal (unless_fault r d))) ≡ Err (StepRefused.Step g) → r ≡ Some g
fault_is f None None d g e = cc
fault_is f None (Some h) d g e = ap Some (same e)
  where
    same : ◌≡◌ {A = Result World StepRefused} (Err (StepRefused.Step h)) (Err (StepRefused.Step g)) → h ≡ g
    same e = cc
fault_is f (Some l) r d g e = cc

no_crash : (y : World) (o : Option LimitName) (g : StepFault) → within_limits o (Ok y) ≡ Err (StepRefused.Step g) → ⊥
no_crash y None g e = cc
no_crash y (Some l) g e = cc

at_node : (net : Net) (x : World) (w : ℕ) (f : Effect → World) (i : Input) (g : StepFault)
    → result_map f (node_effect net x w (Some i)) ≡ Err (StepRefused.Step g)
    → step_fault (here net x w) w (view_at x w) (x.sessions w) i ≡ Some g
unfolding node_effect node_step
at_node net x w f i g e =
    fault_is f (reached_limit x) (step_fault (here net x w) w (view_at x w) (x.sessions w) i) (step_of net x w i) g e

at_input : (net : Net) (x : World) (w : ℕ) (f : Effect → World) (o : Option Input) (g : StepFault)
    → result_map f (node_effect net x w o) ≡ Err (StepRefused.Step g)
    → (i : Input) × (o ≡ Some i) × (step_fault (here net x w) w (view_at x w) (x.sessions w) i ≡ Some g)
unfolding node_effect
at_input net x w f None g e = cc
at_input net x w f (Some i) g e = (i, refl, at_node net x w f i g e)

pub faulty : (net : Net) (x : World) (s : WorldStep) (g : StepFault) → step net x s ≡ Err (StepRefused.Step g)
    → Faulty net x s g
unfolding step
faulty net x (Take w l) g e =
    record {
      node = w;
      input = Input.Local l;
      is_its = own w l;
      fault = at_node net x w (apply_effect x w Origin.Own) (Input.Local l) g e;
    }
faulty net x (Deliver a b k) g e =
    let t = at_input net x b (λ d. mark_delivered (apply_effect x b Origin.Mailed d) a b k) (delivery x a b k) g e in
    record { node = b; input = t.0; is_its = came a b k t.0 t.1; fault = t.2 }
faulty net x (Crash w) g e = absurd (no_crash (apply_effect x w Origin.Own nothing) (reached_limit x) g e)
faulty net x (CrashTake w l kept) g e =
    record {
      node = w;
      input = Input.Local l;
      is_its = own_cut w l kept;
      fault = at_node net x w (λ d. apply_effect x w Origin.Own (cut_short kept d)) (Input.Local l) g e;
    }
faulty net x (CrashDeliver a b k kept) g e =
    let t = at_input net x b (λ d. mark_delivered (apply_effect x b Origin.Mailed (cut_short kept d)) a b k)
    (delivery x a b k) g e in
    record { node = b; input = t.0; is_its = came_cut a b k kept t.0 t.1; fault = t.2 }
