-- All rounds but a few begin at rest.
use Rattle.std.proofs.Common.{◌≡◌, ℕ, zero, suc, ◌+◌, ◌*◌, ◌<◌, ◌≤◌, true, ◌⊎◌, inl, inr, List, [], ◌∷◌, ◌++◌}
use Rattle.std.proofs.Common.{refl, arith}
use Rattle.std.specs.List.{AllByRecursion}
use Rattle.lemmas.proofs.Lists.{all_append}
use Rattle.lemmas.proofs.Numbers.{below_or_not}
use Rattle.model.specs.Types.{Feed, Net, WorldStep}
use Rattle.model.specs.Words.{below}
use Rattle.model.specs.Network.{IsTree, node_count}
use Rattle.model.specs.Forwarding.{feeds}
use Rattle.model.specs.World.{World}
use Rattle.model.specs.Invariant.{Invariant}
use Rattle.rest_laws.specs.Gains.{gained, gained_at, sum_over}
use Rattle.rest_laws.specs.Left.{bound_of, caps_of, entries, keeps_to, left}
use Rattle.rest_laws.specs.Rest.{HasDoneItsWork, IsAtRest, count_of}
use Rattle.rest_laws.specs.Rounds.{AreTaken, BringsNoMore, is_of_round}
use Rattle.rest_laws.proofs.Bounds.{covered, most_is, times_low}
use Rattle.rest_laws.proofs.Busy.{gained_more}
use Rattle.rest_laws.proofs.Done as works
use Rattle.rest_laws.proofs.Gains.{Outside, at_most, feed_or_none, kept_run, outside_run, sum_over_low}
use Rattle.rest_laws.proofs.Lefts.{Keeps, steps_keep}
use Rattle.rest_laws.proofs.Quiets.{IsFeed, below_holds, feeds_hold}
use Rattle.rest_laws.proofs.Rises.{Rises, run_rises}
use Rattle.rest_laws.proofs.Rounds.{taken_append}
use Rattle.nights_at_rest.specs.Frames.{AreFrameRounds, BeginAtRestBut, IsFrameRound}
use Rattle.nights_at_rest.proofs.Coming.{found_rest}

each_low : {X : Type 0} (xs : List X) (f g : X → ℕ) → sum_over g xs ≤ sum_over f xs → ((a : X) → f a ≤ g a)
    → AllByRecursion (λ a. g a ≤ f a) xs
each_low [] f g k h = tt
each_low (x ∷ xs) f g k h =
    (omega (arith, h x, sum_over_low f g xs h, k), each_low xs f g (omega (arith, h x, sum_over_low f g xs h, k)) h)

-- where no more is gained, nobody has more
no_gain : (net : Net) (x y : World) → Invariant net y → Rises x y → Outside net x y → gained net y ≤ gained net x
    → BringsNoMore x y
unfolding gained
no_gain net x y inv rises out low = record { held = held; acked = acked }
  where
    low_at : (f : Feed) (w : ℕ) → gained_at net x f w ≤ gained_at net y f w
    low_at f w =
        omega (
          arith,
          rises.held w f,
          sum_over_low (λ m. (x.sessions w).acked m f) (λ m. (y.sessions w).acked m f)
              (below (node_count net)) (λ m. rises.acked w m f),
        )

    of_feed : (f : Feed) → IsFeed net f → (w : ℕ) → w < node_count net → gained_at net y f w ≤ gained_at net x f w
    of_feed f f_in w w_in =
        below_holds (λ w. gained_at net y f w ≤ gained_at net x f w) (node_count net) w
        (each_low (below (node_count net)) (gained_at net x f) (gained_at net y f)
        (feeds_hold (λ f. sum_over (gained_at net y f) (below (node_count net))
        ≤ sum_over (gained_at net x f) (below (node_count net))) net f
        (each_low (feeds net) (λ f. sum_over (gained_at net x f) (below (node_count net)))
        (λ f. sum_over (gained_at net y f) (below (node_count net))) low
        (λ f. sum_over_low (gained_at net x f) (gained_at net y f) (below (node_count net)) (low_at f))) f_in) (low_at f))
        w_in

    held : (w : ℕ) (f : Feed) → y.holdings w f ≤ x.holdings w f
    held w f = go (below_or_not w (node_count net)) (feed_or_none net y inv f)
      where
        go : ((w < node_count net) ⊎ (node_count net ≤ w)) → (IsFeed net f ⊎ (count_of y f ≡ 0))
            → y.holdings w f ≤ x.holdings w f
        go (inr h) k = omega (arith, out.held w f h)
        go (inl h) (inr k) = omega (arith, inv.within w f, k)
        go (inl h) (inl k) =
            omega (
              arith,
              of_feed f k w h,
              sum_over_low (λ m. (x.sessions w).acked m f)
                  (λ m. (y.sessions w).acked m f) (below (node_count net)) (λ m. rises.acked w m f),
            )

    acked : (w m : ℕ) (f : Feed) → (y.sessions w).acked m f ≤ (x.sessions w).acked m f
    acked w m f = go (below_or_not w (node_count net)) (below_or_not m (node_count net)) (feed_or_none net y inv f)
      where
        go : ((w < node_count net) ⊎ (node_count net ≤ w)) → ((m < node_count net) ⊎ (node_count net ≤ m))
            → (IsFeed net f ⊎ (count_of y f ≡ 0)) → (y.sessions w).acked m f ≤ (x.sessions w).acked m f
        go (inr h) l k = omega (arith, out.acked w m f (inl h))
        go (inl h) (inr l) k = omega (arith, out.acked w m f (inr l))
        go (inl h) (inl l) (inr k) = omega (arith, inv.acked_here w m f, inv.within w f, k)
        go (inl h) (inl l) (inl k) =
            below_holds (λ m. (y.sessions w).acked m f ≤ (x.sessions w).acked m f) (node_count net) m
            (each_low (below (node_count net)) (λ m. (x.sessions w).acked m f) (λ m. (y.sessions w).acked m f)
            (omega (arith, of_feed f k w h, rises.held w f)) (λ m. rises.acked w m f)) l

-- the steps of a round, one after another
module _ (net : Net) (reads : ℕ → ℕ) (x y : World) (r : IsFrameRound net reads x y) where
  abbrev steps_of : List WorldStep
  steps_of = (r.turning.steps ++ r.arriving.steps) ++ r.answering.steps

  taken_of : AreTaken net x steps_of y
  taken_of =
      taken_append net (r.turning.steps ++ r.arriving.steps) r.answering.steps x r.arrived y
      (taken_append net r.turning.steps r.arriving.steps x r.turned r.arrived r.turning.taken r.arriving.taken)
      r.answering.taken

  each_of : AllByRecursion (λ s. is_of_round s ≡ true) steps_of
  each_of =
      all_append (λ s. is_of_round s ≡ true) (r.turning.steps ++ r.arriving.steps) r.answering.steps
      (all_append (λ s. is_of_round s ≡ true) r.turning.steps r.arriving.steps r.turning.each r.arriving.each)
      r.answering.each

  keep_of : AllByRecursion (λ s. keeps_to (λ w. reads w ∷ []) s ≡ true) steps_of
  keep_of =
      all_append (λ s. keeps_to (λ w. reads w ∷ []) s ≡ true) (r.turning.steps ++ r.arriving.steps) r.answering.steps
      (all_append (λ s. keeps_to (λ w. reads w ∷ []) s ≡ true) r.turning.steps r.arriving.steps r.turning.keep r.arriving.keep)
      r.answering.keep

  rises_of : Rises x y
  rises_of = run_rises net steps_of x y each_of taken_of

  pub round_gains : IsTree net → Invariant net x → (gained net x < gained net y) ⊎ IsAtRest net reads x
  round_gains tree inv = go (below_or_not (gained net x) (gained net y))
    where
      go : ((gained net x < gained net y) ⊎ (gained net y ≤ gained net x))
          → (gained net x < gained net y) ⊎ IsAtRest net reads x
      go (inl h) = inl h
      go (inr h) =
          inr (found_rest net reads x y tree inv r
          (no_gain net x y (kept_run net steps_of x y inv taken_of) rises_of (outside_run net steps_of x y each_of taken_of) h))

-- how far entries can come from here
pub few_left : (net : Net) (readings : ℕ → List ℕ) (steps : List WorldStep) (x z : World) → Invariant net x
    → AllByRecursion (λ s. keeps_to readings s ≡ true) steps → AreTaken net x steps z → gained net z ≤ bound_of net readings x
unfolding bound_of
few_left net readings steps x z inv keep taken =
    let k : Keeps net (caps_of net x) readings x z =
    steps_keep net (caps_of net x) readings steps x z inv (covered net x) keep taken in
    omega (
      arith,
      at_most net z (kept_run net steps x z inv taken),
      most_is net z,
      times_low (node_count net + node_count net * node_count net) (entries net z)
          (entries net x + left net (caps_of net x) readings x) (omega (arith, k.bound)),
    )

abbrev Rested : Net → (ℕ → ℕ) → World → Type 0
Rested net reads x = IsAtRest net reads x × HasDoneItsWork net reads x

-- from the world in which they are counted these steps have led here
few_from : (net : Net) (reads : ℕ → ℕ) (first : World) → IsTree net → Invariant net first → (k n : ℕ) (steps : List WorldStep)
    (x z : World) → AllByRecursion (λ s. keeps_to (λ w. reads w ∷ []) s ≡ true) steps → AreTaken net first steps x
    → bound_of net (λ w. reads w ∷ []) first ≤ gained net x + n → (r : AreFrameRounds net reads k x z)
    → BeginAtRestBut n net reads k x z r
few_from net reads first tree inv zero n steps x z keep taken low r = tt
few_from net reads first tree inv (suc k) n steps x z keep taken low r =
    go (λ n low. few_from net reads first tree inv k n (steps ++ steps_of net reads x r.0 r.1) r.0 z all_keep all_taken low r.2)
    n low (round_gains net reads x r.0 r.1 tree here)
  where
    here : Invariant net x
    here = kept_run net steps first x inv taken

    all_taken : AreTaken net first (steps ++ steps_of net reads x r.0 r.1) r.0
    all_taken = taken_append net steps (steps_of net reads x r.0 r.1) first x r.0 taken (taken_of net reads x r.0 r.1)

    all_keep : AllByRecursion (λ s. keeps_to (λ w. reads w ∷ []) s ≡ true) (steps ++ steps_of net reads x r.0 r.1)
    all_keep =
        all_append (λ s. keeps_to (λ w. reads w ∷ []) s ≡ true) steps (steps_of net reads x r.0 r.1) keep
        (keep_of net reads x r.0 r.1)

    rested : IsAtRest net reads x → Rested net reads x
    rested rest = (rest, works.done net reads x tree here rest)

    more : gained net x ≤ gained net r.0
    more = gained_more net x r.0 (rises_of net reads x r.0 r.1)

    go : ((n : ℕ) → bound_of net (λ w. reads w ∷ []) first ≤ gained net r.0 + n → BeginAtRestBut n net reads k r.0 z r.2)
        → (n : ℕ) → bound_of net (λ w. reads w ∷ []) first ≤ gained net x + n
        → (gained net x < gained net r.0) ⊎ IsAtRest net reads x → BeginAtRestBut n net reads (suc k) x z r
    go later zero low (inl gain) =
        absurd (omega (
          arith,
          low,
          gain,
          few_left net (λ w. reads w ∷ []) (steps ++ steps_of net reads x r.0 r.1) first r.0 inv all_keep all_taken,
        ))
    go later (suc n) low (inl gain) = inr (later n (omega (arith, low, gain)))
    go later zero low (inr rest) = (rested rest, later zero (omega (arith, low, more)))
    go later (suc n) low (inr rest) = inl (rested rest, later (suc n) (omega (arith, low, more)))

pub few : (net : Net) (reads : ℕ → ℕ) (k n : ℕ) (x z : World) → IsTree net → Invariant net x
    → bound_of net (λ w. reads w ∷ []) x ≤ gained net x + n → (r : AreFrameRounds net reads k x z)
    → BeginAtRestBut n net reads k x z r
few net reads k n x z tree inv low r = few_from net reads x tree inv k n [] x z tt refl low r
