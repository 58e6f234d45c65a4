-- A round gains, or finds the network at rest.
use Rattle.std.proofs.Common.{◌≡◌, ℕ, ◌+◌, ◌<◌, ◌≤◌, Bool, true, false, ◌&&◌, not, ◌⊎◌, inl, inr, ◌==◌}
use Rattle.std.proofs.Common.{List, [], ◌∷◌, refl, ap, sym, subst, ◌∙◌, arith, Option, Some, None}
use Rattle.std.proofs.lemmas.Bool.Decides.{eqb_tells, nat_tests}
use Rattle.std.specs.Bool.{then_some}
use Rattle.std.specs.List.{AllByRecursion, list_all}
use Rattle.std.specs.Option.{option_or}
use Rattle.std.specs.Prelude.{Ok, nat_lt, option_map}
use Rattle.lemmas.proofs.Booleans.{and_left, and_right}
use Rattle.lemmas.proofs.Numbers.{below_or_not}
use Rattle.model.specs.Types.{Deliver, Entry, Events, Feed, Input, LimitName, Local, Net, Orders, Take, Turn, WorldStep}
use Rattle.model.specs.Words.{below, first_of_these, some_is, with_at}
use Rattle.model.specs.Network.{IsTree, node_count}
use Rattle.model.specs.History.{list_of}
use Rattle.model.specs.Forwarding.{feeds}
use Rattle.model.specs.Sessions.{next_session}
use Rattle.model.specs.NewEntry.{makes}
use Rattle.model.specs.StepFaults.{StepFault, is_next, is_place_spent, is_too_long, lacks_dep, lacks_process, plan_fault}
use Rattle.model.specs.StepFaults.{step_fault}
use Rattle.model.specs.Step.{Effect, effect, node_step, unless_fault}
use Rattle.model.specs.Workstations.{peer_of, ws_in, ws_in_feed}
use Rattle.model.specs.World.{Origin, World, apply_effect, as_refusal, delivery, mark_delivered, node_effect}
use Rattle.model.specs.World.{reached_limit, result_map, step, view_at, within_limits}
use Rattle.model.specs.Invariant.{Invariant, is_inside}
use Rattle.model.specs.FreeSteps.{free_step, recounted}
use Rattle.model_laws.proofs.FreeRuns.{free_kept}
use Rattle.model_laws.proofs.PresentNets.{by_one, one_count}
use Rattle.model_laws.proofs.Steps.{step_of}
use Rattle.rest_laws.specs.Gains.{gained, gained_at, most, sum_over}
use Rattle.rest_laws.specs.Rest.{IsAtRest, count_of, net_at}
use Rattle.rest_laws.specs.Rounds.{AreLinked, AreTaken, BringsNoMore, IsOpenRound, is_of_round}
use Rattle.rest_laws.proofs.Quiets.{IsFeed, below_holds, feeds_hold}
use Rattle.rest_laws.proofs.Rounds.{found_rest, open_taken}
use Rattle.rest_laws.proofs.Rises.{Rises, run_rises}
use Rattle.rest_laws.proofs.Shown.{in_feed, length_none}

-- sums
pub sum_over_low : {X : Type 0} (f g : X → ℕ) (xs : List X) → ((a : X) → f a ≤ g a) → sum_over f xs ≤ sum_over g xs
sum_over_low f g [] h = omega arith
sum_over_low f g (x ∷ xs) h = omega (arith, h x, sum_over_low f g xs h)

sum_over_each : {X : Type 0} (f g : X → ℕ) (xs : List X) → ((a : X) → f a ≤ g a) → sum_over g xs ≤ sum_over f xs
    → AllByRecursion (λ a. g a ≤ f a) xs
sum_over_each f g [] h k = tt
sum_over_each f g (x ∷ xs) h k =
    (omega (arith, h x, sum_over_low f g xs h, k), sum_over_each f g xs h (omega (arith, h x, sum_over_low f g xs h, k)))

-- a step that is taken is of workstations of the network
went : (o : Option LimitName) (f : Option StepFault) (d : Effect) (g : Effect → World) (y : World)
    → result_map g (within_limits o (as_refusal (unless_fault f d))) ≡ Ok y → (f ≡ None) × (g d ≡ y)
went None None d g y e = (refl, cc)
went None (Some f) d g y e = cc
went (Some l) f d g y e = cc

passed : (c : Bool) (rest : List (Bool × StepFault)) (more : Option StepFault)
    → option_or (first_of_these ((not c, StepFault.NotInNetwork) ∷ rest)) more ≡ None → c ≡ true
passed true rest more e = refl
passed false rest more e = cc

pub are_inside : (net : Net) (x : World) (w : ℕ) (i : Input)
    → step_fault (net_at net x w) w (view_at x w) (x.sessions w) i ≡ None
    → list_all (λ v. nat_lt v (node_count (net_at net x w))) (w ∷ ws_in i) ≡ true
unfolding step_fault
are_inside net x w i e =
    passed (list_all (λ v. nat_lt v (node_count (net_at net x w))) (w ∷ ws_in i))
    ((some_is (peer_of i) w, StepFault.NotNeighbour) ∷ (is_next i && not (w == 0), StepFault.NotMaster)
    ∷ (lacks_process (x.sessions w).live i, StepFault.NoProcess)
    ∷ (lacks_dep w (view_at x w) i, StepFault.NoDep)
    ∷ (is_place_spent (view_at x w) (makes (net_at net x w) w (view_at x w) (x.sessions w) i), StepFault.PlaceSpent)
    ∷ [])
    (option_or (option_map StepFault.Carry (plan_fault (net_at net x w) (view_at x w) i))
    (then_some (is_too_long (makes (net_at net x w) w (view_at x w) (x.sessions w) i)) StepFault.TooLong))
    e

-- what is tested to be a workstation's number is one
pub inside : (net : Net) (w : ℕ) → nat_lt w (node_count net) ≡ true → w < node_count net
inside net w h = grind (arith, nat_tests)

module _ (net : Net) where
  -- nothing changes outside of the network
  pub record Outside (x z : World) : Type 0 where
    pub packets : (v b : ℕ) → node_count net ≤ v → z.packets v b ≡ x.packets v b
    pub held : (v : ℕ) (f : Feed) → node_count net ≤ v → z.holdings v f ≡ x.holdings v f
    pub acked : (v m : ℕ) (f : Feed) → (node_count net ≤ v) ⊎ (node_count net ≤ m)
        → (z.sessions v).acked m f ≡ (x.sessions v).acked m f

  outside_after : (x : World) (w : ℕ) (o : Origin) (d : Effect) → w < node_count net
      → ((m : ℕ) (f : Feed) → node_count net ≤ m → d.session.acked m f ≡ (x.sessions w).acked m f)
      → Outside x (apply_effect x w o d)
  unfolding apply_effect
  outside_after x w o d w_in same =
      record {
        packets =
            λ v b high. elim (eqb_tells v w) [
              | inl e ↦ absurd (omega (arith, high, w_in, e.1))
              | inr e ↦ rw e.0 refl
            ];
        held = λ v f high. elim (eqb_tells v w) [
          | inl e ↦ absurd (omega (arith, high, w_in, e.1))
          | inr e ↦ rw e.0 refl
        ];
        acked = acked;
      }
    where
      acked : (v m : ℕ) (f : Feed) → (node_count net ≤ v) ⊎ (node_count net ≤ m)
          → (with_at w d.session x.sessions v).acked m f ≡ (x.sessions v).acked m f
      acked v m f high =
          elim (eqb_tells v w) [
            | inl e ↦ rw e.0 (go high e.1)
            | inr e ↦ rw e.0 refl
          ]
        where
          go : ((node_count net ≤ v) ⊎ (node_count net ≤ m)) → v ≡ w
              → d.session.acked m f ≡ (x.sessions v).acked m f
          go (inl h) e = absurd (omega (arith, h, w_in, e))
          go (inr h) e = same m f h ∙ ap (λ i. (x.sessions i).acked m f) (sym e)

  count_at : (x : World) (w : ℕ) → node_count (net_at net x w) ≡ node_count net
  count_at x w = one_count net (net_at net x w) (by_one net (view_at x w (Events 0)))

  pub first_in : (x : World) (w : ℕ) (ws : List ℕ)
      → list_all (λ v. nat_lt v (node_count (net_at net x w))) (w ∷ ws) ≡ true → w < node_count net
  first_in x w ws h =
      omega (
        arith,
        inside (net_at net x w) w (and_left (nat_lt w (node_count (net_at net x w))) _ h),
        count_at x w,
      )

  second_in : (x : World) (w v : ℕ) (ws : List ℕ)
      → list_all (λ v. nat_lt v (node_count (net_at net x w))) (w ∷ v ∷ ws) ≡ true → v < node_count net
  second_in x w v ws h =
      omega (
        arith,
        inside (net_at net x w) v
            (and_left (nat_lt v (node_count (net_at net x w))) _
            (and_right (nat_lt w (node_count (net_at net x w))) _ h)),
        count_at x w,
      )

  -- the session after a packet
  same_session : (x : World) (b : ℕ) (i : Input) (made : Option Entry)
      → list_all (λ v. nat_lt v (node_count (net_at net x b))) (b ∷ ws_in i) ≡ true → (m : ℕ) (f : Feed)
      → node_count net ≤ m
      → (next_session (view_at x b) (x.sessions b) i made).acked m f ≡ (x.sessions b).acked m f
  unfolding next_session
  same_session x b (Input.Mail from e) made h m f high = refl
  same_session x b (Input.Ack from g n) made h m f high =
      elim (eqb_tells m from) [
        | inl e ↦ absurd (omega (arith, high, e.1, second_in x b from (ws_in_feed g) h))
        | inr e ↦ rw e.0 refl
      ]
  same_session x b (Input.Local (Turn t)) made h m f high = refl
  same_session x b (Input.Local (Local.Linked v)) made h m f high = refl
  same_session x b (Input.Local (Local.Unlinked v)) made h m f high = refl
  same_session x b (Input.Local (Local.Typed v c)) made h m f high = refl
  same_session x b (Input.Local (Local.Started j)) made h m f high = refl
  same_session x b (Input.Local (Local.StartFailed j)) made h m f high = refl
  same_session x b (Input.Local (Local.Ended j rc)) made h m f high = refl
  same_session x b (Input.Local (Local.Fulfil o k)) made h m f high = refl
  same_session x b (Input.Local (Local.Next drafts)) made h m f high = refl

  outside_by : (x z : World) (w : ℕ) (o : Origin) (i : Input) (g : World → World)
      → ((y : World) → Outside x y → Outside x (g y))
      → step_fault (net_at net x w) w (view_at x w) (x.sessions w) i ≡ None
      → Outside x (g (apply_effect x w o (step_of net x w i)))
  unfolding effect
  outside_by x z w o i g keep none =
      let h = are_inside net x w i none in
      keep (apply_effect x w o (step_of net x w i))
      (outside_after x w o (step_of net x w i) (first_in x w (ws_in i) h)
      (same_session x w i (makes (net_at net x w) w (view_at x w) (x.sessions w) i) h))

  outside_marked : (x : World) (a b k : ℕ) (y : World) → Outside x y → Outside x (mark_delivered y a b k)
  unfolding mark_delivered
  outside_marked x a b k y h = record { packets = h.packets; held = h.held; acked = h.acked }

  outside_came : (x z : World) (a b k : ℕ) (o : Option Input)
      → result_map (λ d. mark_delivered (apply_effect x b Origin.Mailed d) a b k) (node_effect net x b o) ≡ Ok z
      → Outside x z
  unfolding node_effect node_step
  outside_came x z a b k None e = cc
  outside_came x z a b k (Some i) e =
      let p = went (reached_limit x) (step_fault (net_at net x b) b (view_at x b) (x.sessions b) i) (step_of net x b i)
      (λ d. mark_delivered (apply_effect x b Origin.Mailed d) a b k) z e in
      subst (Outside x) p.1
      (outside_by x z b Origin.Mailed i (λ y. mark_delivered y a b k) (outside_marked x a b k) p.0)

  outside_counted : (x z : World) → Outside (recounted x) z → Outside x z
  outside_counted x z h = record { packets = h.packets; held = h.held; acked = h.acked }

  outside_step : (x z : World) (s : WorldStep) → is_of_round s ≡ true → free_step net x s ≡ Ok z → Outside x z
  unfolding free_step step node_effect node_step
  outside_step x z (Take w (Turn t)) h e =
      let p = went (reached_limit (recounted x))
      (step_fault (net_at net x w) w (view_at x w) (x.sessions w) (Input.Local (Turn t)))
      (step_of net (recounted x) w (Input.Local (Turn t))) (apply_effect (recounted x) w Origin.Own) z e in
      outside_counted x z
      (subst (Outside (recounted x)) p.1
      (outside_by (recounted x) z w Origin.Own (Input.Local (Turn t)) (λ y. y) (λ y k. k) p.0))
  outside_step x z (Deliver a b k) h e =
      outside_counted x z (outside_came (recounted x) z a b k (delivery (recounted x) a b k) e)
  outside_step x z _ h e = cc

  pub outside_run : (steps : List WorldStep) (x y : World) → AllByRecursion (λ s. is_of_round s ≡ true) steps
      → AreTaken net x steps y → Outside x y
  outside_run [] x y each taken =
      subst (Outside x) taken (record { packets = λ v b h. refl; held = λ v f h. refl; acked = λ v m f h. refl })
  outside_run (s ∷ steps) x y each taken =
      let a = outside_step x taken.0 s each.0 taken.1 in
      let b = outside_run steps taken.0 y each.1 taken.2 in
      record {
        packets = λ v c h. b.packets v c h ∙ a.packets v c h;
        held = λ v f h. b.held v f h ∙ a.held v f h;
        acked = λ v m f h. b.acked v m f h ∙ a.acked v m f h;
      }

  pub kept_run : (steps : List WorldStep) (x y : World) → Invariant net x → AreTaken net x steps y → Invariant net y
  kept_run [] x y inv taken = subst (Invariant net) taken inv
  kept_run (s ∷ steps) x y inv taken =
      kept_run steps taken.0 y (free_kept net x taken.0 s inv taken.1) taken.2

  -- a feed is one of the network, or has no entries
  pub feed_or_none : (y : World) → Invariant net y → (f : Feed) → IsFeed net f ⊎ (count_of y f ≡ 0)
  unfolding list_of
  feed_or_none y inv (Events w) = go (below_or_not w (node_count net))
    where
      go : ((w < node_count net) ⊎ (node_count net ≤ w))
          → IsFeed net (Events w) ⊎ (count_of y (Events w) ≡ 0)
      go (inl h) = inl h
      go (inr h) =
          inr (length_none _ (in_feed (λ b. ⊥) (Events w) (is_inside net)
          (λ e k same. clash h (and_left (nat_lt w (node_count net)) true
          (subst (λ f. list_all (λ w. nat_lt w (node_count net)) (ws_in_feed f) ≡ true) (sym same) k)))
          y.history inv.inside))
        where
          clash : node_count net ≤ w → nat_lt w (node_count net) ≡ true → ⊥
          clash h k = absurd (omega (arith, h, inside net w k))
  feed_or_none y inv (Orders a w) = go (below_or_not a (node_count net)) (below_or_not w (node_count net))
    where
      none : (nat_lt a (node_count net) ≡ true → nat_lt w (node_count net) ≡ true → ⊥)
          → count_of y (Orders a w) ≡ 0
      none h =
          length_none _ (in_feed (λ b. ⊥) (Orders a w) (is_inside net)
          (λ e k same. both (subst (λ f. list_all (λ w. nat_lt w (node_count net)) (ws_in_feed f) ≡ true) (sym same) k))
          y.history inv.inside)
        where
          both : list_all (λ w. nat_lt w (node_count net)) (a ∷ w ∷ []) ≡ true → ⊥
          both k =
              h (and_left (nat_lt a (node_count net)) _ k)
              (and_left (nat_lt w (node_count net)) true (and_right (nat_lt a (node_count net)) _ k))

      go : ((a < node_count net) ⊎ (node_count net ≤ a)) → ((w < node_count net) ⊎ (node_count net ≤ w))
          → IsFeed net (Orders a w) ⊎ (count_of y (Orders a w) ≡ 0)
      go (inl h) (inl k) = inl (h, k)
      go (inr h) k = inr (none (λ p q. absurd (omega (arith, h, inside net a p))))
      go (inl h) (inr k) = inr (none (λ p q. absurd (omega (arith, k, inside net w q))))

  -- where no more is gained, nobody has more
  no_gain : (x y : World) → Invariant net y → Rises x y → Outside x y → gained net y ≤ gained net x → BringsNoMore x y
  unfolding gained
  no_gain x y inv rises out low = record { held = held; acked = acked }
    where
      low_at : (f : Feed) (w : ℕ) → gained_at net x f w ≤ gained_at net y f w
      low_at f w =
          omega (
            arith,
            rises.held w f,
            sum_over_low (λ m. (x.sessions w).acked m f) (λ m. (y.sessions w).acked m f)
                (below (node_count net)) (λ m. rises.acked w m f),
          )

      of_feed : (f : Feed) → IsFeed net f → (w : ℕ) → w < node_count net → gained_at net y f w ≤ gained_at net x f w
      of_feed f f_in w w_in =
          below_holds (λ w. gained_at net y f w ≤ gained_at net x f w) (node_count net) w
          (sum_over_each (gained_at net x f) (gained_at net y f) (below (node_count net)) (low_at f)
          (feeds_hold (λ f. sum_over (gained_at net y f) (below (node_count net))
          ≤ sum_over (gained_at net x f) (below (node_count net))) net f
          (sum_over_each (λ f. sum_over (gained_at net x f) (below (node_count net)))
          (λ f. sum_over (gained_at net y f) (below (node_count net))) (feeds net)
          (λ f. sum_over_low (gained_at net x f) (gained_at net y f) (below (node_count net)) (low_at f)) low) f_in))
          w_in

      held : (w : ℕ) (f : Feed) → y.holdings w f ≤ x.holdings w f
      held w f = go (below_or_not w (node_count net)) (feed_or_none y inv f)
        where
          go : ((w < node_count net) ⊎ (node_count net ≤ w)) → (IsFeed net f ⊎ (count_of y f ≡ 0))
              → y.holdings w f ≤ x.holdings w f
          go (inr h) k = omega (arith, out.held w f h)
          go (inl h) (inr k) = omega (arith, inv.within w f, k)
          go (inl h) (inl k) =
              omega (
                arith,
                of_feed f k w h,
                sum_over_low (λ m. (x.sessions w).acked m f)
                    (λ m. (y.sessions w).acked m f) (below (node_count net)) (λ m. rises.acked w m f),
              )

      acked : (w m : ℕ) (f : Feed) → (y.sessions w).acked m f ≤ (x.sessions w).acked m f
      acked w m f = go (below_or_not w (node_count net)) (below_or_not m (node_count net)) (feed_or_none y inv f)
        where
          go : ((w < node_count net) ⊎ (node_count net ≤ w)) → ((m < node_count net) ⊎ (node_count net ≤ m))
              → (IsFeed net f ⊎ (count_of y f ≡ 0)) → (y.sessions w).acked m f ≤ (x.sessions w).acked m f
          go (inr h) l k = omega (arith, out.acked w m f (inl h))
          go (inl h) (inr l) k = omega (arith, out.acked w m f (inr l))
          go (inl h) (inl l) (inr k) = omega (arith, inv.acked_here w m f, inv.within w f, k)
          go (inl h) (inl l) (inl k) =
              below_holds (λ m. (y.sessions w).acked m f ≤ (x.sessions w).acked m f) (node_count net) m
              (sum_over_each (λ m. (x.sessions w).acked m f) (λ m. (y.sessions w).acked m f) (below (node_count net))
              (λ m. rises.acked w m f) (omega (arith, of_feed f k w h, rises.held w f))) l

  pub gains : (readings : ℕ → ℕ) (x y : World) (steps : List WorldStep) → IsTree net → Invariant net x
      → AreLinked net x → IsOpenRound net readings x steps y
      → (gained net x < gained net y) ⊎ IsAtRest net readings x
  gains readings x y steps tree inv linked round = go (below_or_not (gained net x) (gained net y))
    where
      taken : AreTaken net x steps y
      taken = open_taken net readings x y steps round

      go : ((gained net x < gained net y) ⊎ (gained net y ≤ gained net x))
          → (gained net x < gained net y) ⊎ IsAtRest net readings x
      go (inl h) = inl h
      go (inr h) =
          inr (found_rest net readings x y steps tree inv linked round
          (no_gain x y (kept_run steps x y inv taken) (run_rises net steps x y round.each taken)
          (outside_run steps x y round.each taken) h))

  pub at_most : (x : World) → Invariant net x → gained net x ≤ most net x
  unfolding gained most
  at_most x inv =
      sum_over_low (λ f. sum_over (gained_at net x f) (below (node_count net))) _ (feeds net)
      (λ f. sum_over_low (gained_at net x f)
      (λ w. count_of x f + sum_over (λ m. count_of x f) (below (node_count net))) (below (node_count net))
      (λ w. omega (
        arith,
        inv.within w f,
        sum_over_low (λ m. (x.sessions w).acked m f) (λ m. count_of x f)
            (below (node_count net)) (λ m. at_one w m f),
      )))
    where
      at_one : (w m : ℕ) (f : Feed) → (x.sessions w).acked m f ≤ count_of x f
      at_one w m f = omega (arith, inv.acked_here w m f, inv.within w f)

  pub most_same : (x y : World) → x.history ≡ y.history → most net x ≡ most net y
  unfolding most
  most_same x y e = rw e refl
