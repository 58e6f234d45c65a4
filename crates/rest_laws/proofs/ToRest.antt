-- Where there is always one more round, rounds come to rest.
use Rattle.std.proofs.Common.{◌≡◌, ℕ, zero, suc, ◌+◌, ◌*◌, ◌<◌, ◌≤◌, true, ◌⊎◌, inl, inr, List, [], ◌++◌, refl}
use Rattle.std.proofs.Common.{arith}
use Rattle.lemmas.proofs.Lists.{all_append}
use Rattle.model.specs.Types.{Net}
use Rattle.model.specs.Network.{IsTree, node_count}
use Rattle.model.specs.World.{World}
use Rattle.model.specs.Invariant.{Invariant}
use Rattle.rest_laws.specs.Gains.{gained}
use Rattle.rest_laws.specs.Left.{bound_of, caps_of, entries, keeps_to, left}
use Rattle.rest_laws.specs.Rest.{IsAtRest}
use Rattle.rest_laws.specs.ToRest.{AlwaysRounds, AreAmong, AreLinkedUp, AreRounds, BeginAtRestBut, ComesToRest, IsRoundFrom}
use Rattle.rest_laws.specs.ToRest.{Reaches, later}
use Rattle.rest_laws.proofs.Bounds.{all_linking, covered, most_is, times_low}
use Rattle.rest_laws.proofs.Busy.{gained_more, links_rise}
use Rattle.rest_laws.proofs.Done.{done}
use Rattle.rest_laws.proofs.Gains.{at_most, gains, kept_run}
use Rattle.rest_laws.proofs.Lefts.{Keeps, steps_keep}
use Rattle.rest_laws.proofs.Rises.{run_rises}
use Rattle.rest_laws.proofs.Rounds.{open_taken, taken_append}

pub reaches_on : (net : Net) (readings : ℕ → List ℕ) (x y z : World) → Reaches net readings x y → Reaches net readings y z
    → Reaches net readings x z
reaches_on net readings x y z h k =
    record {
      steps = h.steps ++ k.steps;
      keep = all_append (λ s. keeps_to readings s ≡ true) h.steps k.steps h.keep k.keep;
      taken = taken_append net h.steps k.steps x y z h.taken k.taken;
    }

module _ (net : Net) (readings : ℕ → List ℕ) (x : World) (tree : IsTree net) (inv : Invariant net x) where
  bounded : (y : World) → Reaches net readings x y → gained net y ≤ bound_of net readings x
  unfolding bound_of
  bounded y h =
      let here : Invariant net y = kept_run net h.steps x y inv h.taken in
      let keep : Keeps net (caps_of net x) readings x y =
      steps_keep net (caps_of net x) readings h.steps x y inv (covered net x) h.keep h.taken in
      omega (
        arith,
        at_most net y here,
        most_is net y,
        times_low (node_count net + node_count net * node_count net) (entries net y)
            (entries net x + left net (caps_of net x) readings x) (omega (arith, keep.bound)),
      )

  record Comes (clocks : ℕ → ℕ → ℕ) (y : World) : Type 0 where
    count : ℕ
    few : gained net y + count ≤ bound_of net readings x
    end_ : World
    rounds : AreRounds net readings clocks count y end_
    rest : IsAtRest net (clocks count) end_
    there : Reaches net readings x end_

  links_reach : (y z : World) → Reaches net readings x y → AreLinkedUp net y z → Reaches net readings x z
  links_reach y z h up =
      reaches_on net readings x y z h
      (record { steps = up.links; keep = all_linking readings up.links up.linking; taken = up.come_up })

  -- from y one round leads to z: y comes to rest at once, or z has gained
  module _ (clocks : ℕ → ℕ → ℕ) (y z : World) (h : Reaches net readings x y)
      (r : IsRoundFrom net readings (clocks 0) y z) where
    begins : Reaches net readings x r.begin
    begins = links_reach y r.begin h r.up

    ends : Reaches net readings x z
    ends =
        reaches_on net readings x r.begin z begins
        (record { steps = r.steps; keep = r.keep; taken = open_taken net (clocks 0) r.begin z r.steps r.round })

    risen : gained net y ≤ gained net r.begin
    risen = gained_more net y r.begin (links_rise net r.up.links y r.begin r.up.linking r.up.come_up)

    none_lost : gained net y ≤ gained net z
    none_lost =
        omega (
          arith,
          risen,
          gained_more net r.begin z
              (run_rises net r.steps r.begin z r.round.each (open_taken net (clocks 0) r.begin z r.steps r.round)),
        )

    gained_or_rest : (gained net y < gained net z) ⊎ IsAtRest net (clocks 0) r.begin
    gained_or_rest =
        go (gains net (clocks 0) r.begin z r.steps tree (kept_run net begins.steps x r.begin inv begins.taken) r.up.linked
        r.round)
      where
        go : ((gained net r.begin < gained net z) ⊎ IsAtRest net (clocks 0) r.begin)
            → (gained net y < gained net z) ⊎ IsAtRest net (clocks 0) r.begin
        go (inl k) = inl (omega (arith, k, risen))
        go (inr k) = inr k

    at_once : IsAtRest net (clocks 0) r.begin → Comes clocks y
    at_once k =
        record {
          count = 0;
          few = omega (arith, bounded y h);
          end_ = r.begin;
          rounds = r.up;
          rest = k;
          there = begins;
        }

    after_one : gained net y < gained net z → Comes (later clocks) z → Comes clocks y
    after_one k c =
        record {
          count = suc c.count;
          few = omega (arith, k, c.few);
          end_ = c.end_;
          rounds = (z, r, c.rounds);
          rest = c.rest;
          there = c.there;
        }

  comes : AlwaysRounds net readings x → (fuel : ℕ) (clocks : ℕ → ℕ → ℕ) → ((k : ℕ) → AreAmong readings (clocks k))
      → (y : World) → Reaches net readings x y → bound_of net readings x ≤ gained net y + fuel → Comes clocks y
  comes always zero clocks among y h low =
      by_one (always y h (clocks 0) (among 0))
    where
      by_one : ((z : World) × IsRoundFrom net readings (clocks 0) y z) → Comes clocks y
      by_one n = go (gained_or_rest clocks y n.0 h n.1)
        where
          go : ((gained net y < gained net n.0) ⊎ IsAtRest net (clocks 0) n.1.begin) → Comes clocks y
          go (inl k) = absurd (omega (arith, low, k, bounded n.0 (ends clocks y n.0 h n.1)))
          go (inr k) = at_once clocks y n.0 h n.1 k
  comes always (suc fuel) clocks among y h low =
      by_one (always y h (clocks 0) (among 0)) (λ z there more. comes always fuel (later clocks) (λ k. among (suc k)) z there
      (omega (arith, low, more)))
    where
      by_one : ((z : World) × IsRoundFrom net readings (clocks 0) y z)
          → ((z : World) → Reaches net readings x z → gained net y < gained net z → Comes (later clocks) z) → Comes clocks y
      by_one n then_ = go (gained_or_rest clocks y n.0 h n.1)
        where
          go : ((gained net y < gained net n.0) ⊎ IsAtRest net (clocks 0) n.1.begin) → Comes clocks y
          go (inl k) = after_one clocks y n.0 h n.1 k (then_ n.0 (ends clocks y n.0 h n.1) k)
          go (inr k) = at_once clocks y n.0 h n.1 k

  pub to_rest : (clocks : ℕ → ℕ → ℕ) → ((k : ℕ) → AreAmong readings (clocks k)) → AlwaysRounds net readings x
      → ComesToRest net readings clocks x
  to_rest clocks among always =
      let self : Reaches net readings x x = record { steps = []; keep = tt; taken = refl } in
      let c : Comes clocks x = comes always (bound_of net readings x) clocks among x self (omega arith) in
      record {
        count = c.count;
        few = c.few;
        end_ = c.end_;
        rounds = c.rounds;
        rest = c.rest;
        work = done net (clocks c.count) c.end_ tree (kept_run net c.there.steps x c.end_ inv c.there.taken) c.rest;
      }

  -- whatever rounds come: all but those that gain begin at rest
  gain_or_rest : (n : ℕ) (clocks : ℕ → ℕ → ℕ) (k : ℕ) (y z : World) → Reaches net readings x y
      → (r : AreRounds net readings clocks k y z) → bound_of net readings x ≤ gained net y + n
      → BeginAtRestBut n net readings clocks k y z r
  gain_or_rest zero clocks zero y z h r low = tt
  gain_or_rest (suc n) clocks zero y z h r low = tt
  gain_or_rest zero clocks (suc k) y z h r low =
      go (gained_or_rest clocks y r.0 h r.1)
      (gain_or_rest zero (later clocks) k r.0 z (ends clocks y r.0 h r.1) r.2
      (omega (arith, low, none_lost clocks y r.0 h r.1)))
    where
      go : ((gained net y < gained net r.0) ⊎ IsAtRest net (clocks 0) r.1.begin)
          → BeginAtRestBut zero net readings (later clocks) k r.0 z r.2
          → IsAtRest net (clocks 0) r.1.begin × BeginAtRestBut zero net readings (later clocks) k r.0 z r.2
      go (inl gain) more = absurd (omega (arith, low, gain, bounded r.0 (ends clocks y r.0 h r.1)))
      go (inr rest) more = (rest, more)
  gain_or_rest (suc n) clocks (suc k) y z h r low =
      go (gained_or_rest clocks y r.0 h r.1)
      (λ gain. gain_or_rest n (later clocks) k r.0 z (ends clocks y r.0 h r.1) r.2 (omega (arith, low, gain)))
      (gain_or_rest (suc n) (later clocks) k r.0 z (ends clocks y r.0 h r.1) r.2
      (omega (arith, low, none_lost clocks y r.0 h r.1)))
    where
      go : ((gained net y < gained net r.0) ⊎ IsAtRest net (clocks 0) r.1.begin)
          → (gained net y < gained net r.0 → BeginAtRestBut n net readings (later clocks) k r.0 z r.2)
          → BeginAtRestBut (suc n) net readings (later clocks) k r.0 z r.2
          → (IsAtRest net (clocks 0) r.1.begin × BeginAtRestBut (suc n) net readings (later clocks) k r.0 z r.2)
          ⊎ BeginAtRestBut n net readings (later clocks) k r.0 z r.2
      go (inl gain) fewer more = inr (fewer gain)
      go (inr rest) fewer more = inl (rest, more)

  pub all_rest_but : (n : ℕ) (clocks : ℕ → ℕ → ℕ) (k : ℕ) (z : World) (r : AreRounds net readings clocks k x z)
      → bound_of net readings x ≤ gained net x + n → BeginAtRestBut n net readings clocks k x z r
  all_rest_but n clocks k z r low =
      gain_or_rest n clocks k x z (record { steps = []; keep = tt; taken = refl }) r low
