-- A step in which a workstation gives itself an order.
use Rattle.std.proofs.Common.{◌≡◌, ◌≢◌, ℕ, ◌+◌, ◌-◌, ◌*◌, ◌<◌, ◌≤◌, Bool, true, false, ◌&&◌, ◌⊎◌, inl, inr, List, [], ◌∷◌, ◌++◌}
use Rattle.std.proofs.Common.{cond, drop, length, map, refl, ap, sym, subst, ◌∙◌, arith, Option, Some, None, length-append}
use Rattle.std.proofs.Math.Seq.{take-length}
use Rattle.std.proofs.lemmas.Bool.Decides.{eqb_tells, nat_tests}
use Rattle.std.specs.Option.{option_map_or}
use Rattle.std.specs.Prelude.{Ok, eqb, flat_map, nat_lt}
use Rattle.model.specs.Types.{Body, Cmd, Confirm, Entry, Events, Feed, Input, Job, Net, Obj, Order, Orders, Rerun, Stream, Take}
use Rattle.model.specs.Types.{Typed}
use Rattle.model.specs.Words.{below}
use Rattle.model.specs.Equalities.{feed_eq}
use Rattle.model.specs.Network.{node_count}
use Rattle.model.specs.Forwarding.{feeds}
use Rattle.model.specs.History.{list_of}
use Rattle.model.specs.Catalogue.{owner}
use Rattle.model.specs.Dependencies.{document_deps}
use Rattle.model.specs.Facts.{answered, reruns}
use Rattle.model.specs.FreeSteps.{free_step, recounted}
use Rattle.model.specs.Invariant.{Invariant, docs_of}
use Rattle.model.specs.NewEntry.{makes, next_entry, own_entry}
use Rattle.model.specs.Sessions.{next_session}
use Rattle.model.specs.Step.{effect}
use Rattle.model.specs.Workstations.{ws_in}
use Rattle.model.specs.World.{Origin, World, apply_effect, view_at}
use Rattle.model_laws.proofs.Feeds.{feed_cases, pushed_cases}
use Rattle.model_laws.proofs.Growth.{owned_grows, view_grows}
use Rattle.model_laws.proofs.Lists.{is_at-true}
use Rattle.model_laws.proofs.Locality.{local_job, local_owner, local_stream}
use Rattle.model_laws.proofs.Steps.{step_of}
use Rattle.rest_laws.specs.Gains.{sum_over}
use Rattle.rest_laws.specs.Left.{Caps, added_ahead, deps_ahead, done, drafted, drafted_ahead, drafted_deps, entries, jobs_ahead}
use Rattle.rest_laws.specs.Left.{left, left_at, left_of, orders_left, streams_ahead, written_ahead}
use Rattle.rest_laws.specs.Rest.{count_of}
use Rattle.rest_laws.proofs.Ahead.{owned_below}
use Rattle.rest_laws.proofs.Entered.{own_events}
use Rattle.rest_laws.proofs.Falls.{hits, sum_over_falls}
use Rattle.rest_laws.proofs.Gains.{are_inside, first_in, sum_over_low}
use Rattle.rest_laws.proofs.Leads.{took}
use Rattle.rest_laws.proofs.Lefts.{sum_over_append, sum_over_map, sum_over_more}
use Rattle.rest_laws.proofs.Rises.{Rises, rises_after, rises_counted}
use Rattle.launches_at_rest.specs.Tells.{tells_at, tells_left, tells_of}
use Rattle.advice_at_rest.specs.Advices.{advices_at, advices_by, advices_left, is_over_badly, is_own_member}
use Rattle.advice_at_rest.proofs.Advice.{Advises}
use Rattle.advice_at_rest.proofs.Obeyed.{owned}
use Rattle.advice_at_rest.proofs.Members.{held_low}
use Rattle.advice_at_rest.proofs.Ordered.{advised_falls, drop_push}

-- what it keeps
pub record GivesOrder (net : Net) (x z : World) (w : ℕ) (c : Cmd) : Type 0 where
  pub inside : w < node_count net
  pub history : z.history ≡ x.history ++ next_entry (view_at x w) (Orders w w) (Order c) ∷ []
  pub rises : Rises x z

pub typed_keeps : (net : Net) (x z : World) (w : ℕ) (c : Cmd) → free_step net x (Take w (Typed w c)) ≡ Ok z
    → GivesOrder net x z w c
unfolding free_step apply_effect effect makes own_entry next_session
typed_keeps net x z w c e =
    let p = took net (recounted x) z w (Typed w c) e in
    record {
      inside = first_in net x w (ws_in (Input.Local (Typed w c))) (are_inside net x w (Input.Local (Typed w c)) p.0);
      history = sym (ap (λ (y : World). y.history) p.1);
      rises =
          rises_counted x z
          (subst (Rises (recounted x)) p.1
          (rises_after (recounted x) w Origin.Own (step_of net (recounted x) w (Input.Local (Typed w c)))
          (λ u f. omega arith)));
    }

-- the feeds after it
module _ (G : List Entry) (e : Entry) (w : ℕ) (here : e.feed ≡ Orders w w) where
  abbrev pub H : List Entry
  H = G ++ e ∷ []

  pub events_stay : (v : ℕ) → list_of H (Events v) ≡ list_of G (Events v)
  events_stay v = go (pushed_cases G e (Events v))
    where
      other : Events v ≡ Orders w w → ⊥
      other f = cc

      go : ((Events v ≡ e.feed) × (list_of H (Events v) ≡ list_of G (Events v) ++ e.body ∷ []))
          ⊎ ((Events v ≢ e.feed) × (list_of H (Events v) ≡ list_of G (Events v)))
          → list_of H (Events v) ≡ list_of G (Events v)
      go (inl k) = absurd (other (k.0 ∙ here))
      go (inr k) = k.1

  pub orders_stay : (a v : ℕ) → (Orders a v ≢ Orders w w) → list_of H (Orders a v) ≡ list_of G (Orders a v)
  orders_stay a v other = go (pushed_cases G e (Orders a v))
    where
      go : ((Orders a v ≡ e.feed) × (list_of H (Orders a v) ≡ list_of G (Orders a v) ++ e.body ∷ []))
          ⊎ ((Orders a v ≢ e.feed) × (list_of H (Orders a v) ≡ list_of G (Orders a v)))
          → list_of H (Orders a v) ≡ list_of G (Orders a v)
      go (inl k) = absurd (other (k.0 ∙ here))
      go (inr k) = k.1

  pub orders_more : list_of H (Orders w w) ≡ list_of G (Orders w w) ++ e.body ∷ []
  orders_more = go (pushed_cases G e (Orders w w))
    where
      go : ((Orders w w ≡ e.feed) × (list_of H (Orders w w) ≡ list_of G (Orders w w) ++ e.body ∷ []))
          ⊎ ((Orders w w ≢ e.feed) × (list_of H (Orders w w) ≡ list_of G (Orders w w)))
          → list_of H (Orders w w) ≡ list_of G (Orders w w) ++ e.body ∷ []
      go (inl k) = k.1
      go (inr k) = absurd (k.0 (sym here))

  not_there : (a v : ℕ) → v ≢ w → Orders a v ≢ Orders w w
  not_there a v other = λ same. other (seen same)
    where
      seen : Orders a v ≡ Orders w w → v ≡ w
      seen f = cc

  not_by : (a v : ℕ) → a ≢ w → Orders a v ≢ Orders w w
  not_by a v other = λ same. other (seen same)
    where
      seen : Orders a v ≡ Orders w w → a ≡ w
      seen f = cc

  -- of another workstation
  pub all_stay : (v : ℕ) → v ≢ w → ◌≡◌ {A = ℕ → List Body} (λ a. list_of H (Orders a v)) (λ a. list_of G (Orders a v))
  all_stay v other = λ i a. orders_stay a v (not_there a v other) i

  pub by_others_stay : (a : ℕ) → a ≢ w → list_of H (Orders a w) ≡ list_of G (Orders a w)
  by_others_stay a other = orders_stay a w (not_by a w other)

  -- a sum over what waits of them
  pub waiting_more : (f : Body → ℕ) (m : ℕ) (a v : ℕ)
      → sum_over f (drop m (list_of H (Orders a v))) ≤ sum_over f (drop m (list_of G (Orders a v))) + f e.body
  waiting_more f m a v = go (pushed_cases G e (Orders a v))
    where
      go : ((Orders a v ≡ e.feed) × (list_of H (Orders a v) ≡ list_of G (Orders a v) ++ e.body ∷ []))
          ⊎ ((Orders a v ≢ e.feed) × (list_of H (Orders a v) ≡ list_of G (Orders a v)))
          → sum_over f (drop m (list_of H (Orders a v))) ≤ sum_over f (drop m (list_of G (Orders a v))) + f e.body
      go (inl k) = rw k.1 (drop_push f m (list_of G (Orders a v)) e.body)
      go (inr k) = rw k.1 (omega arith)

  pub counts_more : (a v : ℕ) → length (list_of H (Orders a v)) ≤ length (list_of G (Orders a v)) + done (eqb a w)
  counts_more a v =
      elim (eqb_tells a w) [
        | inl k ↦ rw k.0 (go (pushed_cases G e (Orders a v)))
        | inr k ↦ omega (arith, ap length (orders_stay a v (not_by a v k.1)))
      ]
    where
      go : ((Orders a v ≡ e.feed) × (list_of H (Orders a v) ≡ list_of G (Orders a v) ++ e.body ∷ []))
          ⊎ ((Orders a v ≢ e.feed) × (list_of H (Orders a v) ≡ list_of G (Orders a v)))
          → length (list_of H (Orders a v)) ≤ length (list_of G (Orders a v)) + 1
      go (inl k) = omega (arith, ap length k.1, length-append (list_of G (Orders a v)) (e.body ∷ []))
      go (inr k) = omega (arith, ap length k.1)

-- an advised order leaves less to advise
module _ (net : Net) (jobs : ℕ) (x z : World) (w : ℕ) (c : Cmd) (inv : Invariant net x) (few : jobs_ahead net x < jobs)
    (adv : Advises (view_at x w) w c) (k : GivesOrder net x z w c) where
  abbrev e : Entry
  e = next_entry (view_at x w) (Orders w w) (Order c)

  abbrev G : List Entry
  G = x.history

  own_orders : view_at x w (Orders w w) ≡ list_of x.history (Orders w w)
  own_orders = rw (inv.own w (Orders w w) refl) (take-length (list_of x.history (Orders w w)))

  not_below : (m n k : ℕ) → nat_lt m n ≡ false → n ≡ k → k ≤ m
  not_below m n k h e = subst (λ (i : ℕ). i ≤ m) e (grind (arith, nat_tests))

  none_wait : answered w (list_of x.history (Events w)) ≡ length (list_of x.history (Orders w w))
  none_wait =
      omega (
        arith,
        inv.answers w w,
        inv.own w (Orders w w) refl,
        not_below (answered w (view_at x w (Events w))) (length (view_at x w (Orders w w)))
            (length (list_of x.history (Orders w w))) adv.none_waits (ap length own_orders),
        ap (answered w) (own_events net x w inv),
      )

  its_job : adv.job_ < jobs
  unfolding jobs_ahead
  its_job =
      owned_below (list_of x.history) inv.numbers
      (record {
        of_streams = 1 + length (docs_of (list_of x.history (Events 0)));
        of_jobs = jobs;
        of_deps = λ o. 0;
      })
      (Job adv.job_) w (omega arith) (omega (arith, few))
      (owned_grows (view_at x w) (list_of x.history) (Job adv.job_) w (view_grows x.history (x.holdings w))
      (is_at-true (owner (view_at x w) (Job adv.job_)) w (owned (view_at x w) w adv.job_ adv.mine)))

  at_others : (v : ℕ) → v ≢ w → advices_by net jobs z v ≤ advices_by net jobs x v
  at_others v other =
      rw (k.history, events_stay x.history e w refl 0, events_stay x.history e w refl v)
      (subst (λ (o : ℕ → List Body). advices_at jobs (node_count net) v o (list_of x.history (Events 0)) (z.holdings v (Events 0))
      (list_of x.history (Events v)) ≤ advices_by net jobs x v) (sym (all_stay x.history e w refl v other))
      (held_low jobs (node_count net) v (λ a. list_of x.history (Orders a v)) (list_of x.history (Events 0))
      (x.holdings v (Events 0)) (z.holdings v (Events 0)) (list_of x.history (Events v)) (k.rises.held v (Events 0))))

  at_itself : advices_by net jobs z w + 1 ≤ advices_by net jobs x w
  at_itself =
      rw (k.history, events_stay x.history e w refl 0, events_stay x.history e w refl w)
      (omega (
        arith,
        held_low jobs (node_count net) w (λ a. list_of (x.history ++ e ∷ []) (Orders a w)) (list_of x.history (Events 0))
            (x.holdings w (Events 0)) (z.holdings w (Events 0)) (list_of x.history (Events w)) (k.rises.held w (Events 0)),
        advised_falls jobs (node_count net) w (λ a. list_of x.history (Orders a w))
            (λ a. list_of (x.history ++ e ∷ []) (Orders a w)) (list_of x.history (Events 0)) (x.holdings w (Events 0))
            (list_of x.history (Events w)) c (orders_more x.history e w refl) (by_others_stay x.history e w refl) none_wait
            adv.job_ its_job form over mine,
      ))
    where
      form : (c ≡ Confirm adv.job_)
          ⊎ ((c ≡ Rerun adv.job_)
          × (reruns adv.job_ (list_of x.history (Events w)) ≡ 0))
      form =
          subst (λ (L : List Body). (c ≡ Confirm adv.job_)
          ⊎ ((c ≡ Rerun adv.job_) × (reruns adv.job_ L ≡ 0)))
          (own_events net x w inv) adv.form

      over : is_over_badly adv.job_ (list_of x.history (Events w)) ≡ true
      over =
          subst (λ (L : List Body). is_over_badly adv.job_ L ≡ true) (own_events net x w inv)
          adv.over

      mine : is_own_member (view_at x w (Events 0)) w adv.job_ ≡ true
      mine = adv.mine

  pub order_low : advices_left net jobs z + 1 ≤ advices_left net jobs x
  unfolding advices_left
  order_low =
      sum_over_falls (advices_by net jobs z) (advices_by net jobs x) 1 (node_count net) w each k.inside at_itself
    where
      each : (v : ℕ) → advices_by net jobs z v ≤ advices_by net jobs x v
      each v =
          elim (eqb_tells v w) [
            | inl t ↦ subst (λ (v : ℕ). advices_by net jobs z v ≤ advices_by net jobs x v) (sym t.1) (omega (arith, at_itself))
            | inr t ↦ at_others v t.1
          ]

-- what it adds to what is left
sum_times : (m : ℕ) (h : ℕ → ℕ) (xs : List ℕ) → sum_over (λ a. m * h a) xs ≡ m * sum_over h xs
sum_times m h [] = grind arith
sum_times m h (x ∷ xs) = let k : sum_over (λ a. m * h a) xs ≡ m * sum_over h xs = sum_times m h xs in grind (arith, k)

low_nothing : {X : Type 0} (f : X → ℕ) (xs : List X) → ((x : X) → f x ≤ 0) → sum_over f xs ≤ 0
low_nothing f [] h = omega arith
low_nothing f (x ∷ xs) h = omega (arith, h x, low_nothing f xs h)

flat_low : {X Y : Type 0} (f : Y → ℕ) (g : X → List Y) (h : X → ℕ) (xs : List X) → ((x : X) → sum_over f (g x) ≤ h x)
    → sum_over f (flat_map g xs) ≤ sum_over h xs
flat_low f g h [] low = omega arith
flat_low f g h (x ∷ xs) low = omega (arith, low x, sum_over_append f (g x) (flat_map g xs), flat_low f g h xs low)

left_given : (caps : Caps) (n : ℕ) (ts : List ℕ) (given later h : ℕ → ℕ) (L : List Body) → ((a : ℕ) → later a ≤ given a + h a)
    → left_of caps n ts later L ≤ left_of caps n ts given L + 3 * sum_over h (below n)
unfolding left_of orders_left
left_given caps n ts given later h L low =
    omega (
      arith,
      sum_over_more (λ a. 3 * (later a - answered a L)) (λ a. 3 * (given a - answered a L)) (λ a. 3 * h a) (below n)
          (λ a. omega (arith, low a)),
      sum_times 3 h (below n),
    )

tells_given : (caps : Caps) (n : ℕ) (given later h : ℕ → ℕ) (L : List Body) → ((a : ℕ) → later a ≤ given a + h a)
    → tells_of caps n later L ≤ tells_of caps n given L + sum_over h (below n)
unfolding tells_of
tells_given caps n given later h L low =
    omega (
      arith,
      sum_over_more (λ a. later a - answered a L) (λ a. given a - answered a L) h (below n) (λ a. omega (arith, low a)),
    )

module _ (net : Net) (x z : World) (w : ℕ) (e : Entry) (here : e.feed ≡ Orders w w) (history : z.history ≡ x.history ++ e ∷ []) where
  -- of the orders for v one may be new
  abbrev new : ℕ → ℕ → ℕ
  new v a = cond (eqb v w) (done (eqb a w)) 0

  given_more : (v a : ℕ) → length (list_of (x.history ++ e ∷ []) (Orders a v)) ≤ count_of x (Orders a v) + new v a
  given_more v a =
      elim (eqb_tells v w) [
        | inl k ↦ rw k.0 (counts_more x.history e w here a v)
        | inr k ↦ omega (arith, ap length (orders_stay x.history e w here a v (not_there x.history e w here a v k.1)))
      ]

  news : (v : ℕ) → sum_over (λ a. cond (eqb v w) (done (eqb a w)) 0) (below (node_count net)) ≤ done (eqb v w)
  news v = go (eqb v w)
    where
      go : (c : Bool) → sum_over (λ a. cond c (done (eqb a w)) 0) (below (node_count net)) ≤ done c
      go true = hits w 0 (node_count net)
      go false = low_nothing (λ (a : ℕ). 0) (below (node_count net)) (λ a. omega arith)

  pub left_more : (caps : ℕ → Caps) (readings : ℕ → List ℕ) → left net caps readings z ≤ left net caps readings x + 3
  unfolding left
  left_more caps readings =
      omega (
        arith,
        sum_over_more (left_at net caps readings z) (left_at net caps readings x) (λ v. 3 * done (eqb v w)) (below (node_count net))
            one,
        sum_times 3 (λ v. done (eqb v w)) (below (node_count net)),
        hits w 0 (node_count net),
      )
    where
      one : (v : ℕ) → left_at net caps readings z v ≤ left_at net caps readings x v + 3 * done (eqb v w)
      one v =
          rw (history, events_stay x.history e w here v)
          (omega (
            arith,
            left_given (caps v) (node_count net) (readings v) (λ a. count_of x (Orders a v))
                (λ a. length (list_of (x.history ++ e ∷ []) (Orders a v))) (λ a. cond (eqb v w) (done (eqb a w)) 0) (list_of x.history (Events v)) (given_more v),
            news v,
          ))

  pub tells_more : (caps : ℕ → Caps) → tells_left net caps z ≤ tells_left net caps x + 1
  unfolding tells_left
  tells_more caps =
      omega (
        arith,
        sum_over_more (tells_at net caps z) (tells_at net caps x) (λ v. done (eqb v w)) (below (node_count net)) one,
        hits w 0 (node_count net),
      )
    where
      one : (v : ℕ) → tells_at net caps z v ≤ tells_at net caps x v + done (eqb v w)
      one v =
          rw (history, events_stay x.history e w here v)
          (omega (
            arith,
            tells_given (caps v) (node_count net) (λ a. count_of x (Orders a v))
                (λ a. length (list_of (x.history ++ e ∷ []) (Orders a v))) (λ a. cond (eqb v w) (done (eqb a w)) 0) (list_of x.history (Events v)) (given_more v),
            news v,
          ))

  -- the feeds of the network have this one once
  orders_once : sum_over (λ f. done (feed_eq f (Orders w w))) (feeds net) ≤ 1
  unfolding feeds
  orders_once =
      omega (
        arith,
        sum_over_append (λ f. done (feed_eq f (Orders w w))) (map Events (below (node_count net)))
            (flat_map (λ a. map (Orders a) (below (node_count net))) (below (node_count net))),
        sum_over_map (λ f. done (feed_eq f (Orders w w))) Events (below (node_count net)),
        low_nothing (λ v. done (feed_eq (Events v) (Orders w w))) (below (node_count net)) (λ v. omega arith),
        flat_low (λ f. done (feed_eq f (Orders w w))) (λ a. map (Orders a) (below (node_count net))) (λ a. done (eqb a w))
            (below (node_count net)) row,
        hits w 0 (node_count net),
      )
    where
      row : (a : ℕ) → sum_over (λ f. done (feed_eq f (Orders w w))) (map (Orders a) (below (node_count net))) ≤ done (eqb a w)
      row a =
          elim (eqb_tells a w) [
            | inl k ↦ (let s : sum_over (λ f. done (feed_eq f (Orders w w))) (map (Orders a) (below (node_count net)))
                ≡ sum_over (λ b. done (eqb a w && eqb b w)) (below (node_count net)) =
                sum_over_map (λ f. done (feed_eq f (Orders w w))) (Orders a) (below (node_count net)) in
                rw (s, k.0) (hits w 0 (node_count net)))
            | inr k ↦ (let s : sum_over (λ f. done (feed_eq f (Orders w w))) (map (Orders a) (below (node_count net)))
                ≡ sum_over (λ b. done (eqb a w && eqb b w)) (below (node_count net)) =
                sum_over_map (λ f. done (feed_eq f (Orders w w))) (Orders a) (below (node_count net)) in
                rw (s, k.0) (low_nothing (λ (b : ℕ). 0) (below (node_count net)) (λ b. omega arith)))
          ]

  pub entries_more : entries net z ≤ entries net x + 1
  unfolding entries
  entries_more =
      omega (
        arith,
        sum_over_more (count_of z) (count_of x) (λ f. done (feed_eq f (Orders w w))) (feeds net) one,
        orders_once,
      )
    where
      one : (f : Feed) → count_of z f ≤ count_of x f + done (feed_eq f (Orders w w))
      one f = rw history (go (pushed_cases x.history e f))
        where
          told : f ≡ Orders w w → feed_eq f (Orders w w) ≡ true
          told same = sorted (feed_cases f (Orders w w))
            where
              sorted : (((feed_eq f (Orders w w) ≡ true) × (f ≡ Orders w w)) ⊎ ((feed_eq f (Orders w w) ≡ false) × (f ≢ Orders w w)))
                  → feed_eq f (Orders w w) ≡ true
              sorted (inl k) = k.0
              sorted (inr k) = absurd (k.1 same)

          go : ((f ≡ e.feed) × (list_of (x.history ++ e ∷ []) f ≡ list_of x.history f ++ e.body ∷ []))
              ⊎ ((f ≢ e.feed) × (list_of (x.history ++ e ∷ []) f ≡ list_of x.history f))
              → length (list_of (x.history ++ e ∷ []) f) ≤ count_of x f + done (feed_eq f (Orders w w))
          go (inl k) =
              rw (told (k.0 ∙ here))
              (omega (arith, ap length k.1, length-append (list_of x.history f) (e.body ∷ [])))
          go (inr k) = omega (arith, ap length k.1)

  -- what can still come to the catalogue
  pub streams_more : streams_ahead net z ≤ streams_ahead net x + 1
  unfolding streams_ahead
  streams_more =
      rw (history, events_stay x.history e w here 0)
      (omega (
        arith,
        sum_over_more (λ a. length (list_of (x.history ++ e ∷ []) (Orders a 0)) - answered a (list_of x.history (Events 0)))
            (λ a. count_of x (Orders a 0) - answered a (list_of x.history (Events 0))) (λ a. done (eqb a w)) (below (node_count net))
            (λ a. omega (arith, counts_more x.history e w here a 0)),
        hits w 0 (node_count net),
      ))

  pub jobs_more : drafted e.body ≡ 0 → jobs_ahead net z ≤ jobs_ahead net x
  unfolding jobs_ahead
  jobs_more none =
      rw (history, events_stay x.history e w here 0)
      (omega (
        arith,
        sum_over_low
            (λ a. sum_over drafted (drop (answered a (list_of x.history (Events 0))) (list_of (x.history ++ e ∷ []) (Orders a 0))))
            (λ a. sum_over drafted (drop (answered a (list_of x.history (Events 0))) (list_of x.history (Orders a 0))))
            (below (node_count net))
            (λ a. omega (arith, none, waiting_more x.history e w here drafted (answered a (list_of x.history (Events 0))) a 0)),
      ))

  abbrev master : list_of (x.history ++ e ∷ []) (Events 0) ≡ list_of x.history (Events 0)
  master = events_stay x.history e w here 0

  documents_same : (o : Obj) → document_deps (list_of (x.history ++ e ∷ [])) o ≡ document_deps (list_of x.history) o
  unfolding document_deps
  documents_same (Job j) = rw (local_job (list_of (x.history ++ e ∷ [])) (list_of x.history) master j) refl
  documents_same (Stream s) = rw (local_stream (list_of (x.history ++ e ∷ [])) (list_of x.history) master s) refl

  drafted_less : drafted_deps e.body ≡ 0 → drafted_ahead net (x.history ++ e ∷ []) ≤ drafted_ahead net x.history
  drafted_less none =
      rw master
      (sum_over_low
      (λ a. sum_over drafted_deps (drop (answered a (list_of x.history (Events 0))) (list_of (x.history ++ e ∷ []) (Orders a 0))))
      (λ a. sum_over drafted_deps (drop (answered a (list_of x.history (Events 0))) (list_of x.history (Orders a 0))))
      (below (node_count net))
      (λ a. omega (arith, none, waiting_more x.history e w here drafted_deps (answered a (list_of x.history (Events 0))) a 0)))

  written_less : drafted_deps e.body ≡ 0 → (v : ℕ) (o : Obj)
      → written_ahead net (x.history ++ e ∷ []) v o ≤ written_ahead net x.history v o
  written_less none v o =
      rw (local_owner (list_of (x.history ++ e ∷ [])) (list_of x.history) master o, documents_same o)
      (go (owner (list_of x.history) o))
    where
      go : (p : Option ℕ)
          → option_map_or (λ u. cond (eqb u v) (length (document_deps (list_of x.history) o)) 0) p (drafted_ahead net (x.history ++ e ∷ []))
          ≤ option_map_or (λ u. cond (eqb u v) (length (document_deps (list_of x.history) o)) 0) p (drafted_ahead net x.history)
      go None = drafted_less none
      go (Some u) = omega arith

  added_more : (v : ℕ) (o : Obj) → added_ahead net (x.history ++ e ∷ []) v o ≤ added_ahead net x.history v o + 1
  added_more v o =
      rw (events_stay x.history e w here v)
      (omega (
        arith,
        sum_over_more (λ a. length (list_of (x.history ++ e ∷ []) (Orders a v)) - answered a (list_of x.history (Events v)))
            (λ a. length (list_of x.history (Orders a v)) - answered a (list_of x.history (Events v))) (λ a. done (eqb a w))
            (below (node_count net)) (λ a. omega (arith, counts_more x.history e w here a v)),
        hits w 0 (node_count net),
      ))

  pub deps_more : drafted_deps e.body ≡ 0 → (v : ℕ) (o : Obj) → deps_ahead net z.history v o ≤ deps_ahead net x.history v o + 1
  unfolding deps_ahead
  deps_more none v o = rw history (omega (arith, written_less none v o, added_more v o))
