-- Busy rounds are at most so many, read from the world in which they begin.
use Rattle.std.proofs.Common.{◌≡◌, ℕ, zero, suc, ◌+◌, ◌*◌, ◌≤◌, true, List, [], ◌∷◌, refl, ap}
use Rattle.std.proofs.Common.{subst, ◌∙◌, arith}
use Rattle.std.specs.List.{AllByRecursion}
use Rattle.model.specs.Types.{Feed, Linked, Net, Take, WorldStep}
use Rattle.model.specs.Words.{below, numbers_from}
use Rattle.model.specs.Network.{IsTree, node_count}
use Rattle.model.specs.Forwarding.{feeds}
use Rattle.model.specs.World.{World}
use Rattle.model.specs.Invariant.{Invariant}
use Rattle.rest_laws.specs.Gains.{gained, most, sum_over}
use Rattle.rest_laws.specs.Left.{AreBusyRoundsAt, Caps, Covers, caps_of, entries, bound_of, keeps_to, left}
use Rattle.rest_laws.specs.Rest.{count_of}
use Rattle.rest_laws.specs.Rounds.{AreBusyRounds, IsBusyRound, is_linking}
use Rattle.rest_laws.proofs.Busy.{few_busy}
use Rattle.rest_laws.proofs.Gains.{kept_run}
use Rattle.rest_laws.proofs.Lefts.{Keeps, steps_keep}
use Rattle.rest_laws.proofs.Rounds.{open_taken}

sum_over_sum : {X : Type 0} (f g : X → ℕ) (xs : List X) → sum_over (λ x. f x + g x) xs ≡ sum_over f xs + sum_over g xs
sum_over_sum f g [] = refl
sum_over_sum f g (x ∷ xs) = omega (arith, sum_over_sum f g xs)

sum_over_zero : {X : Type 0} (xs : List X) → sum_over (λ (x : X). 0) xs ≡ 0
sum_over_zero [] = refl
sum_over_zero (x ∷ xs) = omega (arith, sum_over_zero xs)

sum_over_const : (c s n : ℕ) → sum_over (λ (m : ℕ). c) (numbers_from s n) ≡ n * c
sum_over_const c s zero = grind arith
sum_over_const c s (suc n) = grind (arith, sum_over_const c (s + 1) n)

-- what each has where everybody holds so many entries, and knows of everybody that it does
abbrev share : Net → ℕ → ℕ
share net c =
    sum_over (λ (w : ℕ). c + sum_over (λ (m : ℕ). c) (below (node_count net))) (below (node_count net))

share_is : (net : Net) (c : ℕ) → share net c ≡ (node_count net + node_count net * node_count net) * c
share_is net c =
    ap (λ (k : ℕ). sum_over (λ (w : ℕ). c + k) (below (node_count net))) (sum_over_const c 0 (node_count net))
    ∙ sum_over_const (c + node_count net * c) 0 (node_count net) ∙ product (node_count net) c
  where
    product : (n c : ℕ) → n * (c + n * c) ≡ (n + n * n) * c
    product n c = grind arith

pub most_is : (net : Net) (x : World) → most net x ≡ (node_count net + node_count net * node_count net) * entries net x
unfolding most entries
most_is net x = go (feeds net)
  where
    n : ℕ
    n = node_count net

    go : (fs : List Feed)
        → sum_over (λ f. sum_over (λ (w : ℕ). count_of x f + sum_over (λ (m : ℕ). count_of x f) (below (node_count net))) (below (node_count net))) fs
        ≡ (node_count net + node_count net * node_count net) * sum_over (count_of x) fs
    go [] = grind arith
    go (f ∷ fs) = ap (λ (k : ℕ). k + sum_over (λ f. share net (count_of x f)) fs) (share_is net (count_of x f))
        ∙ ap (λ (k : ℕ). (n + n * n) * count_of x f + k) (go fs) ∙ spread (n + n * n) (count_of x f) (sum_over (count_of x) fs)
      where
        spread : (a b c : ℕ) → a * b + a * c ≡ a * (b + c)
        spread a b c = grind arith

pub times_low : (a b c : ℕ) → b ≤ c → a * b ≤ a * c
times_low zero b c h = grind arith
times_low (suc a) b c h = let k : a * b ≤ a * c = times_low a b c h in grind (arith, h, k)

linking_keeps : (readings : ℕ → List ℕ) (s : WorldStep) → is_linking s ≡ true → keeps_to readings s ≡ true
linking_keeps readings (Take w (Linked v)) h = refl
linking_keeps readings _ h = cc

pub all_linking : (readings : ℕ → List ℕ) (steps : List WorldStep) → AllByRecursion (λ s. is_linking s ≡ true) steps
    → AllByRecursion (λ s. keeps_to readings s ≡ true) steps
all_linking readings [] h = tt
all_linking readings (s ∷ steps) h = (linking_keeps readings s h.0, all_linking readings steps h.1)

pub keeps_on : (net : Net) (caps : ℕ → Caps) (readings : ℕ → List ℕ) (x y z : World) → Keeps net caps readings x y
    → Keeps net caps readings y z → Keeps net caps readings x z
keeps_on net caps readings x y z h k = record { bound = omega (arith, h.bound, k.bound); covers = k.covers }

round_keeps : (net : Net) (caps : ℕ → Caps) (readings : ℕ → List ℕ) (x y : World) → Invariant net x → Covers net caps x
    → (r : IsBusyRound net x y) → AllByRecursion (λ s. keeps_to readings s ≡ true) r.steps → Keeps net caps readings x y
round_keeps net caps readings x y inv covers r each =
    let first : Keeps net caps readings x r.begin =
    steps_keep net caps readings r.links x r.begin inv covers (all_linking readings r.links r.linking) r.come_up in
    keeps_on net caps readings x r.begin y first
    (steps_keep net caps readings r.steps r.begin y (kept_run net r.links x r.begin inv r.come_up) first.covers each
    (open_taken net r.readings r.begin y r.steps r.round))

rounds_keep : (net : Net) (caps : ℕ → Caps) (readings : ℕ → List ℕ) (k : ℕ) (x z : World) → Invariant net x → Covers net caps x
    → AreBusyRoundsAt net readings k x z → AreBusyRounds net k x z × Keeps net caps readings x z
rounds_keep net caps readings zero x z inv covers r =
    (r, subst (Keeps net caps readings x) r (record { bound = omega arith; covers = covers }))
rounds_keep net caps readings (suc k) x z inv covers r =
    let one : Keeps net caps readings x r.0 = round_keeps net caps readings x r.0 inv covers r.1 r.2 in
    let here : Invariant net r.0 =
    kept_run net r.1.steps r.1.begin r.0 (kept_run net r.1.links x r.1.begin inv r.1.come_up)
    (open_taken net r.1.readings r.1.begin r.0 r.1.steps r.1.round) in
    let rest : AreBusyRounds net k r.0 z × Keeps net caps readings r.0 z =
    rounds_keep net caps readings k r.0 z here one.covers r.3 in
    ((r.0, r.1, rest.0), keeps_on net caps readings x r.0 z one rest.1)

pub covered : (net : Net) (x : World) → Covers net (caps_of net x) x
unfolding caps_of
covered net x = record { streams = λ w. omega arith; jobs_ = λ w. omega arith; deps_ = λ w o. omega arith }

pub few_at : (net : Net) (readings : ℕ → List ℕ) (k : ℕ) (x z : World) → IsTree net → Invariant net x
    → AreBusyRoundsAt net readings k x z → gained net x + k ≤ bound_of net readings x
unfolding bound_of
few_at net readings k x z tree inv r =
    let h : AreBusyRounds net k x z × Keeps net (caps_of net x) readings x z =
    rounds_keep net (caps_of net x) readings k x z inv (covered net x) r in
    omega (
      arith,
      few_busy net k x z tree inv h.0,
      most_is net z,
      times_low (node_count net + node_count net * node_count net) (entries net z)
          (entries net x + left net (caps_of net x) readings x) (omega (arith, h.1.bound)),
    )
