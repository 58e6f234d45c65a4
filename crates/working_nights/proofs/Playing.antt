-- Rounds of the program's world in which things may be told are such rounds of the definitions, so they come to rest.
use Rattle.std.proofs.Common.{◌≡◌, ℕ, zero, suc, ◌+◌, ◌<◌, ◌≤◌, true, ◌⊎◌, inl, inr, List, [], ◌∷◌, ◌++◌, refl, subst, sym, ◌∙◌, arith}
use Rattle.std.specs.List.{AllByRecursion}
use Rattle.lemmas.proofs.Lists.{all_append}
use Rattle.model.specs.Types.{Net, WorldStep}
use Rattle.model.specs.Network.{IsTree, node_count}
use Rattle.model.specs.Invariant.{Invariant}
use Rattle.model.specs.World.{World}
use Rattle.rest_laws.specs.Gains.{gained}
use Rattle.rest_laws.specs.Rest.{IsAtRest}
use Rattle.rest_laws.specs.Rounds.{AreLinked, AreTaken}
use Rattle.rest_laws.proofs.Busy.{gained_more}
use Rattle.rest_laws.proofs.Done as works
use Rattle.rest_laws.proofs.Rounds.{taken_append}
use Rattle.network_world.specs.Standing.{StandsFor}
use Rattle.network_world.specs.Stations.{WorldState}
use Rattle.nights_at_rest.specs.Worlds.{IsWorldAtRest}
use Rattle.nights_at_rest.proofs.Playing.{Alike, Chain, Shifted, chain, meets, same_gained, same_packets, shifted}
use Rattle.launches_at_rest.specs.Told.{IsWorkingRound, works_at}
use Rattle.launches_at_rest.specs.Tells.{work_bound}
use Rattle.launches_at_rest.proofs.Gaining.{work_gains, work_taken, works_rise}
use Rattle.launches_at_rest.proofs.Resting.{few_gained}
use Rattle.working_nights.specs.Worlds.{AreWorldWorks, IsWorldWork, WorksRestBut}

-- a round of the program's world is one of the world without limits
record Worked (net : Net) (reads : ℕ → ℕ) (x : World) (t : WorldState) : Type 0 where
  pub steps : List WorldStep
  pub end_ : World
  pub round : IsWorkingRound net reads x steps end_
  pub keep : AllByRecursion (λ st. works_at (λ w. reads w ∷ []) st ≡ true) steps
  pub there : World
  pub stands : StandsFor t there
  pub net_ : t.net ≡ net
  pub alike : Alike end_ there

worked : (net : Net) (reads : ℕ → ℕ) (s t : WorldState) (x : World) → s.net ≡ net → StandsFor s x
    → IsWorldWork reads s t → Worked net reads x t
worked net reads s t x e stands r =
    let one : Chain net x r.turning r.turned = chain net r.turning s r.turned x e stands r.to_turned in
    let two : Chain net one.there r.arriving r.arrived =
    chain net r.arriving r.turned r.arrived one.there one.net_ one.stands r.to_arrived in
    let three : Chain net two.there r.answering t =
    chain net r.answering r.arrived t two.there two.net_ two.stands r.to_end in
    let a : Shifted net one.free.end_ r.arriving two.free.end_ =
    shifted net r.arriving one.there two.free.end_ one.free.end_ two.free.taken one.free.alike in
    let b : Shifted net a.end_ r.answering three.free.end_ =
    shifted net r.answering two.there three.free.end_ a.end_ three.free.taken (a.alike ∙ two.free.alike) in
    record {
      steps = (r.turning ++ r.arriving) ++ r.answering;
      end_ = b.end_;
      round = record {
        turning = r.turning;
        turned = one.free.end_;
        arriving = r.arriving;
        arrived = a.end_;
        answering = r.answering;
        split = refl;
        to_turned = one.free.taken;
        to_arrived = a.taken;
        to_end = b.taken;
        each = r.each;
        turns = λ n n_in. r.turns n (subst (λ (N : Net). n < node_count N) (sym e) n_in);
        sent = λ v w k low high.
            r.sent x one.there stands one.stands v w k low
            (subst (λ (m : ℕ). k < m) (same_packets one.free.end_ one.there one.free.alike v w) high);
        answers = λ v w k low high.
            r.answers x two.there stands two.stands v w k low
            (subst (λ (m : ℕ). k < m) (same_packets a.end_ two.there (a.alike ∙ two.free.alike) v w) high);
      };
      keep = r.keep;
      there = three.there;
      stands = three.stands;
      net_ = three.net_;
      alike = b.alike ∙ three.free.alike;
    }

-- from the world in which they are counted these steps have led here
works_from : (net : Net) (reads : ℕ → ℕ) (first : World) → IsTree net → Invariant net first → (k n : ℕ)
    (steps : List WorldStep) (z x : World) (s t : WorldState) → AllByRecursion (λ st. works_at (λ w. reads w ∷ []) st ≡ true) steps
    → AreTaken net first steps z → Alike z x → s.net ≡ net → StandsFor s x
    → work_bound net (λ w. reads w ∷ []) first ≤ gained net x + n → (r : AreWorldWorks reads k s t)
    → WorksRestBut n reads k s t r
works_from net reads first tree inv zero n steps z x s t keep taken alike e stands low r = tt
works_from net reads first tree inv (suc k) n steps z x s t keep taken alike e stands low r =
    go (λ n low. works_from net reads first tree inv k n (steps ++ one.steps) on.end_ one.there r.0 t all_keep all_taken
    (on.alike ∙ one.alike) one.net_ one.stands low r.2) n low
    (work_gains net reads x one.end_ one.steps tree here linked one.round)
  where
    one : Worked net reads x r.0
    one = worked net reads s r.0 x e stands r.1

    here : Invariant net x
    here = subst (λ (N : Net). Invariant N x) e (meets s x stands)

    linked : AreLinked net x
    linked = subst (λ (N : Net). AreLinked N x) e (r.1.linked x stands)

    on : Shifted net z one.steps one.end_
    on = shifted net one.steps x one.end_ z (work_taken net reads x one.end_ one.steps one.round) alike

    all_taken : AreTaken net first (steps ++ one.steps) on.end_
    all_taken = taken_append net steps one.steps first z on.end_ taken on.taken

    all_keep : AllByRecursion (λ st. works_at (λ w. reads w ∷ []) st ≡ true) (steps ++ one.steps)
    all_keep = all_append (λ st. works_at (λ w. reads w ∷ []) st ≡ true) steps one.steps keep one.keep

    same : gained net one.end_ ≡ gained net one.there
    same = same_gained net one.end_ one.there one.alike

    more : gained net x ≤ gained net one.end_
    more =
        gained_more net x one.end_
        (works_rise net one.steps x one.end_ one.round.each (work_taken net reads x one.end_ one.steps one.round))

    most : gained net one.there ≤ work_bound net (λ w. reads w ∷ []) first
    most =
        let few : gained net on.end_ ≤ work_bound net (λ w. reads w ∷ []) first =
        few_gained net (λ w. reads w ∷ []) first tree inv on.end_
        (record { steps = steps ++ one.steps; keep = all_keep; taken = all_taken }) in
        omega (arith, few, same_gained net on.end_ one.there (on.alike ∙ one.alike))

    rested : IsAtRest net reads x → IsWorldAtRest reads s
    rested rest =
        let there : IsAtRest s.net reads x = subst (λ (N : Net). IsAtRest N reads x) (sym e) rest in (
          x,
          stands,
          there,
          works.done s.net reads x (subst IsTree (sym e) tree) (meets s x stands) there,
        )

    go : ((n : ℕ) → work_bound net (λ w. reads w ∷ []) first ≤ gained net one.there + n → WorksRestBut n reads k r.0 t r.2)
        → (n : ℕ) → work_bound net (λ w. reads w ∷ []) first ≤ gained net x + n
        → (gained net x < gained net one.end_) ⊎ IsAtRest net reads x → WorksRestBut n reads (suc k) s t r
    go later zero low (inl gain) = absurd (omega (arith, low, gain, same, most))
    go later (suc n) low (inl gain) = inr (later n (omega (arith, low, gain, same)))
    go later zero low (inr rest) = (rested rest, later zero (omega (arith, low, more, same)))
    go later (suc n) low (inr rest) = inl (rested rest, later (suc n) (omega (arith, low, more, same)))

pub worlds_work : (reads : ℕ → ℕ) (k n : ℕ) (s t : WorldState) (x : World) → IsTree s.net → StandsFor s x
    → work_bound s.net (λ w. reads w ∷ []) x ≤ gained s.net x + n → (r : AreWorldWorks reads k s t)
    → WorksRestBut n reads k s t r
worlds_work reads k n s t x tree stands low r =
    works_from s.net reads x tree (meets s x stands) k n [] x x s t tt refl refl refl stands low r
