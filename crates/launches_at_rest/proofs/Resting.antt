-- Of whatever rounds come, in which processes start and end and files are found, all but a few begin at rest.
use Rattle.std.proofs.Common.{◌≡◌, ℕ, zero, suc, ◌+◌, ◌*◌, ◌<◌, ◌≤◌, true, ◌⊎◌, inl, inr, List, [], ◌++◌, refl, arith}
use Rattle.std.specs.List.{AllByRecursion}
use Rattle.lemmas.proofs.Booleans.{or_made_left}
use Rattle.lemmas.proofs.Lists.{all_append, all_such}
use Rattle.model.specs.Types.{Net, WorldStep}
use Rattle.model.specs.Network.{IsTree, node_count}
use Rattle.model.specs.Invariant.{Invariant}
use Rattle.model.specs.World.{World}
use Rattle.rest_laws.specs.Gains.{gained}
use Rattle.rest_laws.specs.Left.{caps_of, entries, keeps_to, left}
use Rattle.rest_laws.specs.Rounds.{AreTaken}
use Rattle.rest_laws.specs.ToRest.{AreLinkedUp, later}
use Rattle.rest_laws.proofs.Bounds.{all_linking, covered, most_is, times_low}
use Rattle.rest_laws.proofs.Busy.{gained_more, links_rise}
use Rattle.rest_laws.proofs.Done as works
use Rattle.rest_laws.proofs.Gains.{at_most, kept_run}
use Rattle.rest_laws.proofs.Rounds.{taken_append}
use Rattle.launches_at_rest.specs.Rounds.{AreWorkingRounds, IsRested, IsWorkFrom, WorkRestsBut}
use Rattle.launches_at_rest.specs.Tells.{tells_left, work_bound}
use Rattle.launches_at_rest.specs.Told.{is_told, works_at}
use Rattle.launches_at_rest.proofs.Gaining.{work_gains, work_taken, works_rise}
use Rattle.launches_at_rest.proofs.Keeping.{WorkKeeps, steps_work}

-- steps of work at these readings lead from x to y
pub record WorkReaches (net : Net) (readings : ℕ → List ℕ) (x y : World) : Type 0 where
  pub steps : List WorldStep
  pub keep : AllByRecursion (λ s. works_at readings s ≡ true) steps
  pub taken : AreTaken net x steps y

pub work_on : (net : Net) (readings : ℕ → List ℕ) (x y z : World) → WorkReaches net readings x y → WorkReaches net readings y z
    → WorkReaches net readings x z
work_on net readings x y z h k =
    record {
      steps = h.steps ++ k.steps;
      keep = all_append (λ s. works_at readings s ≡ true) h.steps k.steps h.keep k.keep;
      taken = taken_append net h.steps k.steps x y z h.taken k.taken;
    }

pub links_work : (net : Net) (readings : ℕ → List ℕ) (x y : World) → AreLinkedUp net x y → WorkReaches net readings x y
links_work net readings x y up =
    record {
      steps = up.links;
      keep =
          all_such (λ s. keeps_to readings s ≡ true) (λ s. works_at readings s ≡ true) up.links
          (λ s k. or_made_left (keeps_to readings s) (is_told s) k) (all_linking readings up.links up.linking);
      taken = up.come_up;
    }

module _ (net : Net) (readings : ℕ → List ℕ) (x : World) (tree : IsTree net) (inv : Invariant net x) where
  pub few_gained : (y : World) → WorkReaches net readings x y → gained net y ≤ work_bound net readings x
  unfolding work_bound
  few_gained y h =
      let here : Invariant net y = kept_run net h.steps x y inv h.taken in
      let keep : WorkKeeps net (caps_of net x) readings x y =
      steps_work net (caps_of net x) readings h.steps x y inv (covered net x) h.keep h.taken in
      omega (
        arith,
        at_most net y here,
        most_is net y,
        times_low (node_count net + node_count net * node_count net) (entries net y)
            (entries net x + (left net (caps_of net x) readings x + tells_left net (caps_of net x) x))
            (omega (arith, keep.bound)),
      )

  -- one round of them
  module _ (clocks : ℕ → ℕ → ℕ) (y z : World) (h : WorkReaches net readings x y)
      (r : IsWorkFrom net readings (clocks 0) y z) where
    begins : WorkReaches net readings x r.begin
    begins = work_on net readings x y r.begin h (links_work net readings y r.begin r.up)

    ends : WorkReaches net readings x z
    ends =
        work_on net readings x r.begin z begins
        (record { steps = r.steps; keep = r.keep; taken = work_taken net (clocks 0) r.begin z r.steps r.round })

    risen : gained net y ≤ gained net r.begin
    risen = gained_more net y r.begin (links_rise net r.up.links y r.begin r.up.linking r.up.come_up)

    none_lost : gained net y ≤ gained net z
    none_lost =
        omega (
          arith,
          risen,
          gained_more net r.begin z
              (works_rise net r.steps r.begin z r.round.each (work_taken net (clocks 0) r.begin z r.steps r.round)),
        )

    begin_inv : Invariant net r.begin
    begin_inv = kept_run net begins.steps x r.begin inv begins.taken

    gained_or_rest : (gained net y < gained net z) ⊎ IsRested net (clocks 0) r.begin
    gained_or_rest =
        elim (work_gains net (clocks 0) r.begin z r.steps tree begin_inv r.up.linked r.round) [
          | inl k ↦ inl (omega (arith, k, risen))
          | inr k ↦ inr (k, works.done net (clocks 0) r.begin tree begin_inv k)
        ]

  rests : (n : ℕ) (clocks : ℕ → ℕ → ℕ) (k : ℕ) (y z : World) → WorkReaches net readings x y
      → (r : AreWorkingRounds net readings clocks k y z) → work_bound net readings x ≤ gained net y + n
      → WorkRestsBut n net readings clocks k y z r
  rests zero clocks zero y z h r low = tt
  rests (suc n) clocks zero y z h r low = tt
  rests zero clocks (suc k) y z h r low =
      go (gained_or_rest clocks y r.0 h r.1)
      (rests zero (later clocks) k r.0 z (ends clocks y r.0 h r.1) r.2
      (omega (arith, low, none_lost clocks y r.0 h r.1)))
    where
      go : ((gained net y < gained net r.0) ⊎ IsRested net (clocks 0) r.1.begin)
          → WorkRestsBut zero net readings (later clocks) k r.0 z r.2
          → IsRested net (clocks 0) r.1.begin × WorkRestsBut zero net readings (later clocks) k r.0 z r.2
      go (inl gain) more = absurd (omega (arith, low, gain, few_gained r.0 (ends clocks y r.0 h r.1)))
      go (inr rest) more = (rest, more)
  rests (suc n) clocks (suc k) y z h r low =
      go (gained_or_rest clocks y r.0 h r.1)
      (λ gain. rests n (later clocks) k r.0 z (ends clocks y r.0 h r.1) r.2 (omega (arith, low, gain)))
      (rests (suc n) (later clocks) k r.0 z (ends clocks y r.0 h r.1) r.2
      (omega (arith, low, none_lost clocks y r.0 h r.1)))
    where
      go : ((gained net y < gained net r.0) ⊎ IsRested net (clocks 0) r.1.begin)
          → (gained net y < gained net r.0 → WorkRestsBut n net readings (later clocks) k r.0 z r.2)
          → WorkRestsBut (suc n) net readings (later clocks) k r.0 z r.2
          → (IsRested net (clocks 0) r.1.begin × WorkRestsBut (suc n) net readings (later clocks) k r.0 z r.2)
          ⊎ WorkRestsBut n net readings (later clocks) k r.0 z r.2
      go (inl gain) fewer more = inr (fewer gain)
      go (inr rest) fewer more = inl (rest, more)

  pub all_work_rests : (n : ℕ) (clocks : ℕ → ℕ → ℕ) (k : ℕ) (z : World) (r : AreWorkingRounds net readings clocks k x z)
      → work_bound net readings x ≤ gained net x + n → WorkRestsBut n net readings clocks k x z r
  all_work_rests n clocks k z r low =
      rests n clocks k x z (record { steps = []; keep = tt; taken = refl }) r low
