-- Steps of the program's world are steps without limits, so its rounds come to rest.
use Rattle.std.proofs.Common.{◌≡◌, ℕ, zero, suc, ◌+◌, ◌<◌, ◌≤◌, true, ◌⊎◌, inl, inr, List, [], ◌∷◌, ◌++◌, Option, Some, None}
use Rattle.std.proofs.Common.{refl, ap, subst, sym, ◌∙◌, arith}
use Rattle.std.specs.List.{AllByRecursion}
use Rattle.std.specs.Prelude.{Err, Ok, Result}
use Rattle.lemmas.proofs.Lists.{all_append}
use Rattle.model.specs.Types.{Deliver, Input, LimitName, Net, Take, Turn, WorldStep}
use Rattle.model.specs.FreeSteps.{TakenAs, free_step, recounted}
use Rattle.model.specs.Network.{IsTree, node_count}
use Rattle.model.specs.Invariant.{Invariant}
use Rattle.model.specs.StepFaults as model_faults
use Rattle.model.specs.Step.{Effect, node_step}
use Rattle.model.specs.World as model
use Rattle.model.specs.World.{Origin, World, apply_effect, as_refusal, delivery, empty_world, mark_delivered, node_effect, packet_input, reached_limit, result_map, run, step, view_at, within_limits}
use Rattle.model_laws.proofs.FreeRuns.{nothing_reached, taken_free}
use Rattle.model_laws.proofs.Keeps.{always_invariant}
use Rattle.rest_laws.specs.Gains.{gained}
use Rattle.rest_laws.specs.Leads.{next_packet}
use Rattle.rest_laws.specs.Left.{bound_of, keeps_to}
use Rattle.rest_laws.specs.Rest.{IsAtRest}
use Rattle.rest_laws.specs.Rounds.{AreLinked, AreTaken, IsOpenRound, is_of_round}
use Rattle.rest_laws.specs.ToRest.{names_inside}
use Rattle.rest_laws.proofs.Busy.{gained_more}
use Rattle.rest_laws.proofs.Done as works
use Rattle.rest_laws.proofs.Gains.{gains}
use Rattle.rest_laws.proofs.Named.{named_run}
use Rattle.rest_laws.proofs.Rises.{run_rises}
use Rattle.rest_laws.proofs.Rounds.{open_taken, taken_append}
use Rattle.carry_forward.specs.declared.CarryFault.TheVariants as carry
use Rattle.agent_core.specs.declared.StepFault.TheVariants as fault
use Rattle.network_world.specs.Standing.{IsRefusalDue, StandsFor}
use Rattle.network_world.specs.Stations.{WorldState}
use Rattle.network_world.specs.declared.refusals.StepRefused.{StepRefused}
use Rattle.network_world.specs.declared.refusals.StepRefused.TheVariants.{Limit, NoMemory, NoPacket, Step}
use Rattle.nights_at_rest.specs.Worlds.{AreSteps, AreWorldRounds, IsLimited, IsWorldAtRest, IsWorldRound, WorldsRestBut}
use Rattle.nights_at_rest.proofs.Few.{few_left}

-- a step that is taken without limits is refused for a limit alone
limited : (o : Option LimitName) (q : Result Effect model_faults.StepFault) (f g : Effect → World) (y : World)
    (r : model.StepRefused) → result_map f (within_limits None (as_refusal q)) ≡ Ok y
    → result_map g (within_limits o (as_refusal q)) ≡ Err r → (l : LimitName) × (r ≡ model.StepRefused.Limit l) × (o ≡ Some l)
limited None (Ok d) f g y r e k = cc
limited None (Err h) f g y r e k = cc
limited (Some l) q f g y r e k = (l, cc, refl)

limited_by : (net : Net) (x : World) (b : ℕ) (o : Option Input) (f g : Effect → World) (y : World) (r : model.StepRefused)
    → result_map f (node_effect net (recounted x) b o) ≡ Ok y → result_map g (node_effect net x b o) ≡ Err r
    → (l : LimitName) × (r ≡ model.StepRefused.Limit l) × (reached_limit x ≡ Some l)
unfolding node_effect
limited_by net x b None f g y r e k = cc
limited_by net x b (Some i) f g y r e k =
    limited (reached_limit x) (node_step net b (view_at x b) (x.sessions b) i) f g y r (none_first (node_step net b (view_at x b) (x.sessions b) i) e) k
  where
    none_first : (q : Result Effect model_faults.StepFault)
        → result_map f (within_limits (reached_limit (recounted x)) (as_refusal q)) ≡ Ok y
        → result_map f (within_limits None (as_refusal q)) ≡ Ok y
    none_first q h =
        subst (λ (o : Option LimitName). result_map f (within_limits o (as_refusal q)) ≡ Ok y)
        (nothing_reached x) h

pub limit_alone : (net : Net) (x y : World) (st : WorldStep) (r : model.StepRefused) → is_of_round st ≡ true
    → free_step net x st ≡ Ok y → step net x st ≡ Err r
    → (l : LimitName) × (r ≡ model.StepRefused.Limit l) × (reached_limit x ≡ Some l)
unfolding free_step step packet_input
limit_alone net x y (Take w (Turn t)) r of e k =
    limited_by net x w (Some (Input.Local (Turn t))) (apply_effect (recounted x) w Origin.Own) (apply_effect x w Origin.Own) y r e k
limit_alone net x y (Deliver a b n) r of e k =
    limited_by net x b (delivery x a b n) (λ d. mark_delivered (apply_effect (recounted x) b Origin.Mailed d) a b n)
    (λ d. mark_delivered (apply_effect x b Origin.Mailed d) a b n) y r e k
limit_alone net x y _ r of e k = cc

module _ (s : WorldState) (x y : World) (st : WorldStep) (stands : StandsFor s x) (of : is_of_round st ≡ true)
    (e : free_step s.net x st ≡ Ok y) where
  not_for : (g : model_faults.StepFault) → step s.net x st ≡ Err (model.StepRefused.Step g) → ⊥
  not_for g k = clash (limit_alone s.net x y st (model.StepRefused.Step g) of e k).1
    where
      clash : {l : LimitName} → model.StepRefused.Step g ≡ model.StepRefused.Limit l → ⊥
      clash q = cc

  pub only_limits : (r : StepRefused) → IsRefusalDue s st r → IsLimited x r
  only_limits NoMemory due = inl refl
  only_limits NoPacket due = absurd (clash (limit_alone s.net x y st model.StepRefused.NoPacket of e (due x stands)).1)
    where
      clash : {l : LimitName} → model.StepRefused.NoPacket ≡ model.StepRefused.Limit l → ⊥
      clash q = cc
  only_limits (Limit l) due =
      let h = limit_alone s.net x y st (model.StepRefused.Limit l) of e (due x stands) in
      inr (l, refl, h.2 ∙ ap Some (sym (same h.1)))
    where
      same : {m : LimitName} → model.StepRefused.Limit l ≡ model.StepRefused.Limit m → l ≡ m
      same q = cc
  only_limits (Step fault.NotInNetwork) due = absurd (not_for model_faults.StepFault.NotInNetwork (due x stands))
  only_limits (Step fault.NotNeighbour) due = absurd (not_for model_faults.StepFault.NotNeighbour (due x stands))
  only_limits (Step fault.NotMaster) due = absurd (not_for model_faults.StepFault.NotMaster (due x stands))
  only_limits (Step fault.NoProcess) due = absurd (not_for model_faults.StepFault.NoProcess (due x stands))
  only_limits (Step fault.NoDep) due = absurd (not_for model_faults.StepFault.NoDep (due x stands))
  only_limits (Step fault.PlaceSpent) due = absurd (not_for model_faults.StepFault.PlaceSpent (due x stands))
  only_limits (Step (fault.Carry carry.RunsSpent)) due =
      absurd (not_for (model_faults.StepFault.Carry model_faults.CarryFault.RunsSpent) (due x stands))
  only_limits (Step (fault.Carry carry.NumbersSpent)) due =
      absurd (not_for (model_faults.StepFault.Carry model_faults.CarryFault.NumbersSpent) (due x stands))
  only_limits (Step (fault.Carry (carry.PlanFull most))) due =
      absurd (not_for (model_faults.StepFault.Carry (model_faults.CarryFault.PlanFull most)) (due x stands))
  only_limits (Step (fault.Carry carry.NoMemory)) due = absurd due
  only_limits (Step fault.TooLong) due = absurd (not_for model_faults.StepFault.TooLong (due x stands))
  only_limits (Step fault.NoMemory) due = absurd due

-- the same world, but for what it counts
abbrev pub Alike : World → World → Type 0
Alike z y = recounted z ≡ recounted y

-- steps from such a world lead to such a world
pub record Shifted (net : Net) (z : World) (steps : List WorldStep) (y : World) : Type 0 where
  pub end_ : World
  pub taken : AreTaken net z steps end_
  pub alike : Alike end_ y

pub shifted : (net : Net) (steps : List WorldStep) (x y z : World) → AreTaken net x steps y → Alike z x → Shifted net z steps y
unfolding free_step
shifted net [] x y z taken alike = record { end_ = z; taken = refl; alike = alike ∙ ap recounted taken }
shifted net (st ∷ steps) x y z taken alike = record {
  end_ = y;
  taken = (taken.0, ap (λ (w : World). step net w st) alike ∙ taken.1, taken.2);
  alike = refl;
}

-- steps of the program's world, from a world for which it stands
pub record Chain (net : Net) (x : World) (steps : List WorldStep) (t : WorldState) : Type 0 where
  pub there : World
  pub stands : StandsFor t there
  pub net_ : t.net ≡ net
  pub free : Shifted net x steps there

pub chain : (net : Net) (steps : List WorldStep) (s t : WorldState) (x : World) → s.net ≡ net → StandsFor s x
    → AreSteps steps s t → Chain net x steps t
chain net [] s t x e stands h = record {
  there = x;
  stands = subst (λ (u : WorldState). StandsFor u x) (sym h) stands;
  net_ = ap (λ (u : WorldState). u.net) h ∙ e;
  free = record { end_ = x; taken = refl; alike = refl };
}
chain net (st ∷ steps) s t x e stands h =
    let one = h.1.leads x stands in
    let free : TakenAs (free_step net x st) one.0 =
    taken_free net x one.0 st (subst (λ (N : Net). step N x st ≡ Ok one.0) e one.1) in
    let rest : Chain net one.0 steps t = chain net steps h.0 t one.0 (h.1.net_ ∙ e) one.2 h.2 in
    let moved : Shifted net free.later steps rest.free.end_ =
    shifted net steps one.0 rest.free.end_ free.later rest.free.taken free.same in
    record {
      there = rest.there;
      stands = rest.stands;
      net_ = rest.net_;
      free = record {
        end_ = moved.end_;
        taken = (free.later, free.taken, moved.taken);
        alike = moved.alike ∙ rest.free.alike;
      };
    }

pub same_packets : (z y : World) → Alike z y → (a b : ℕ) → next_packet z a b ≡ next_packet y a b
same_packets z y alike a b = ap (λ (w : World). next_packet w a b) alike

pub same_gained : (net : Net) (z y : World) → Alike z y → gained net z ≡ gained net y
unfolding gained
same_gained net z y alike = ap (gained net) alike

-- a round of the program's world is an open one of the world without limits
pub record Rounded (net : Net) (reads : ℕ → ℕ) (x : World) (t : WorldState) : Type 0 where
  pub steps : List WorldStep
  pub end_ : World
  pub round : IsOpenRound net reads x steps end_
  pub keep : AllByRecursion (λ st. keeps_to (λ w. reads w ∷ []) st ≡ true) steps
  pub there : World
  pub stands : StandsFor t there
  pub net_ : t.net ≡ net
  pub alike : Alike end_ there

pub rounded : (net : Net) (reads : ℕ → ℕ) (s t : WorldState) (x : World) → s.net ≡ net → StandsFor s x
    → IsWorldRound reads s t → Rounded net reads x t
rounded net reads s t x e stands r =
    let one : Chain net x r.turning r.turned = chain net r.turning s r.turned x e stands r.to_turned in
    let two : Chain net one.there r.arriving r.arrived =
    chain net r.arriving r.turned r.arrived one.there one.net_ one.stands r.to_arrived in
    let three : Chain net two.there r.answering t =
    chain net r.answering r.arrived t two.there two.net_ two.stands r.to_end in
    let a : Shifted net one.free.end_ r.arriving two.free.end_ =
    shifted net r.arriving one.there two.free.end_ one.free.end_ two.free.taken one.free.alike in
    let b : Shifted net a.end_ r.answering three.free.end_ =
    shifted net r.answering two.there three.free.end_ a.end_ three.free.taken (a.alike ∙ two.free.alike) in
    record {
      steps = (r.turning ++ r.arriving) ++ r.answering;
      end_ = b.end_;
      round = record {
        turning = r.turning;
        turned = one.free.end_;
        arriving = r.arriving;
        arrived = a.end_;
        answering = r.answering;
        split = refl;
        to_turned = one.free.taken;
        to_arrived = a.taken;
        to_end = b.taken;
        each = r.each;
        turns = λ n n_in. r.turns n (subst (λ (N : Net). n < node_count N) (sym e) n_in);
        sent = λ v w k low high.
            r.sent x one.there stands one.stands v w k low
            (subst (λ (m : ℕ). k < m) (same_packets one.free.end_ one.there one.free.alike v w) high);
        answers = λ v w k low high.
            r.answers x two.there stands two.stands v w k low
            (subst (λ (m : ℕ). k < m) (same_packets a.end_ two.there (a.alike ∙ two.free.alike) v w) high);
      };
      keep = r.keep;
      there = three.there;
      stands = three.stands;
      net_ = three.net_;
      alike = b.alike ∙ three.free.alike;
    }

-- a world for which it stands meets the invariant, and names workstations of the network alone
pub meets : (s : WorldState) (x : World) → StandsFor s x → Invariant s.net x
meets s x stands =
    subst (λ (y : World). Invariant s.net y) (sym stands.reached.by_them) (always_invariant s.net stands.reached.steps)

pub names : (s : WorldState) (x : World) → StandsFor s x → names_inside s.net x ≡ true
names s x stands =
    subst (λ (y : World). names_inside s.net y ≡ true) (sym stands.reached.by_them) (named_run s.net stands.reached.steps)

-- from the world in which they are counted these steps have led here
rest_from : (net : Net) (reads : ℕ → ℕ) (first : World) → IsTree net → Invariant net first → (k n : ℕ)
    (steps : List WorldStep) (z x : World) (s t : WorldState) → AllByRecursion (λ st. keeps_to (λ w. reads w ∷ []) st ≡ true) steps
    → AreTaken net first steps z → Alike z x → s.net ≡ net → StandsFor s x
    → bound_of net (λ w. reads w ∷ []) first ≤ gained net x + n → (r : AreWorldRounds reads k s t)
    → WorldsRestBut n reads k s t r
rest_from net reads first tree inv zero n steps z x s t keep taken alike e stands low r = tt
rest_from net reads first tree inv (suc k) n steps z x s t keep taken alike e stands low r =
    go (λ n low. rest_from net reads first tree inv k n (steps ++ one.steps) on.end_ one.there r.0 t all_keep all_taken
    (on.alike ∙ one.alike) one.net_ one.stands low r.2) n low
    (gains net reads x one.end_ one.steps tree here linked one.round)
  where
    one : Rounded net reads x r.0
    one = rounded net reads s r.0 x e stands r.1

    here : Invariant net x
    here = subst (λ (N : Net). Invariant N x) e (meets s x stands)

    linked : AreLinked net x
    linked = subst (λ (N : Net). AreLinked N x) e (r.1.linked x stands)

    on : Shifted net z one.steps one.end_
    on = shifted net one.steps x one.end_ z (open_taken net reads x one.end_ one.steps one.round) alike

    all_taken : AreTaken net first (steps ++ one.steps) on.end_
    all_taken = taken_append net steps one.steps first z on.end_ taken on.taken

    all_keep : AllByRecursion (λ st. keeps_to (λ w. reads w ∷ []) st ≡ true) (steps ++ one.steps)
    all_keep = all_append (λ st. keeps_to (λ w. reads w ∷ []) st ≡ true) steps one.steps keep one.keep

    same : gained net one.end_ ≡ gained net one.there
    same = same_gained net one.end_ one.there one.alike

    more : gained net x ≤ gained net one.end_
    more =
        gained_more net x one.end_
        (run_rises net one.steps x one.end_ one.round.each (open_taken net reads x one.end_ one.steps one.round))

    most : gained net one.there ≤ bound_of net (λ w. reads w ∷ []) first
    most =
        let few : gained net on.end_ ≤ bound_of net (λ w. reads w ∷ []) first =
        few_left net (λ w. reads w ∷ []) (steps ++ one.steps) first on.end_ inv all_keep all_taken in
        omega (arith, few, same_gained net on.end_ one.there (on.alike ∙ one.alike))

    rested : IsAtRest net reads x → IsWorldAtRest reads s
    rested rest =
        let there : IsAtRest s.net reads x = subst (λ (N : Net). IsAtRest N reads x) (sym e) rest in (
          x,
          stands,
          there,
          works.done s.net reads x (subst IsTree (sym e) tree) (meets s x stands) there,
        )

    go : ((n : ℕ) → bound_of net (λ w. reads w ∷ []) first ≤ gained net one.there + n → WorldsRestBut n reads k r.0 t r.2)
        → (n : ℕ) → bound_of net (λ w. reads w ∷ []) first ≤ gained net x + n
        → (gained net x < gained net one.end_) ⊎ IsAtRest net reads x → WorldsRestBut n reads (suc k) s t r
    go later zero low (inl gain) = absurd (omega (arith, low, gain, same, most))
    go later (suc n) low (inl gain) = inr (later n (omega (arith, low, gain, same)))
    go later zero low (inr rest) = (rested rest, later zero (omega (arith, low, more, same)))
    go later (suc n) low (inr rest) = inl (rested rest, later (suc n) (omega (arith, low, more, same)))

pub worlds_rest : (reads : ℕ → ℕ) (k n : ℕ) (s t : WorldState) (x : World) → IsTree s.net → StandsFor s x
    → bound_of s.net (λ w. reads w ∷ []) x ≤ gained s.net x + n → (r : AreWorldRounds reads k s t)
    → WorldsRestBut n reads k s t r
worlds_rest reads k n s t x tree stands low r =
    rest_from s.net reads x tree (meets s x stands) k n [] x x s t tt refl refl refl stands low r
