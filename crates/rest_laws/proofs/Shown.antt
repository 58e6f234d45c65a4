-- At rest each order is answered, and all who want the events of everybody show the same.
use Rattle.std.proofs.Common.{◌≡◌, ◌≢◌, ℕ, zero, suc, ◌<◌, ◌≤◌, Bool, true, false, ◌&&◌, ◌⊎◌, inl, inr, List, []}
use Rattle.std.proofs.Common.{◌∷◌, length, map, refl, ap, sym, subst, ◌∙◌, arith, None}
use Rattle.std.proofs.lemmas.Bool.Decides.{nat_tests}
use Rattle.std.specs.List.{AllByRecursion, list_all}
use Rattle.std.specs.Prelude.{filter, is_some, nat_lt, option_and_then, slice_get}
use Rattle.lemmas.proofs.Booleans.{and_left, and_right}
use Rattle.model.specs.Types.{Body, Entry, Events, Feed, Net, Orders, StreamDoc}
use Rattle.model.specs.Words.{below}
use Rattle.model.specs.Equalities.{feed_eq}
use Rattle.model.specs.Network.{IsTree, node_count}
use Rattle.model.specs.History.{list_of}
use Rattle.model.specs.Catalogue.{StreamJob}
use Rattle.model.specs.Facts.{answered}
use Rattle.model.specs.Turn.{next_issuer, next_order, ordered_command}
use Rattle.model.specs.States.{job_state, stream_state}
use Rattle.model.specs.Workstations.{ws_in_feed}
use Rattle.model.specs.World.{World, view_at}
use Rattle.model.specs.Invariant.{Invariant, counts_well, has_its_feed, is_inside, is_order, is_well_formed}
use Rattle.model_laws.proofs.Feeds.{feed_cases}
use Rattle.model_laws.proofs.PresentNets.{by_one, one_count}
use Rattle.model_laws.proofs.StatesLocal.{job_state_same, stream_state_same}
use Rattle.rest_laws.specs.Rest.{HoldsAll, IsAtRest, WantsAll, count_of, net_at}
use Rattle.rest_laws.proofs.Decided.{decided, least_of_none}
use Rattle.rest_laws.proofs.Held.{full_view, orders_held, same_net, wanted_held}
use Rattle.rest_laws.proofs.Quiets.{below_holds}

-- what stands in a feed, of all that a history has
pub in_feed : (P : Body → Type 0) (f : Feed) (p : Entry → Bool) → ((e : Entry) → p e ≡ true → f ≡ e.feed → P e.body)
    → (G : List Entry) → list_all p G ≡ true
    → AllByRecursion P (map (λ (e : Entry). e.body) (filter (λ (e : Entry). feed_eq f e.feed) G))
in_feed P f p each [] h = tt
in_feed P f p each (e ∷ G) h =
    go (feed_cases f e.feed) (in_feed P f p each G (and_right (p e) (list_all p G) h))
  where
    go : (((feed_eq f e.feed ≡ true) × (f ≡ e.feed)) ⊎ ((feed_eq f e.feed ≡ false) × (f ≢ e.feed)))
        → AllByRecursion P (map (λ (e : Entry). e.body) (filter (λ (e : Entry). feed_eq f e.feed) G))
        → AllByRecursion P (map (λ (e : Entry). e.body) (filter (λ (e : Entry). feed_eq f e.feed) (e ∷ G)))
    go (inl k) more = rw k.0 (each e (and_left (p e) (list_all p G) h) k.1, more)
    go (inr k) more = rw k.0 more

all_orders : (G : List Entry) (a w : ℕ) → list_all is_well_formed G ≡ true
    → AllByRecursion (λ b. is_order b ≡ true) (list_of G (Orders a w))
unfolding list_of
all_orders G a w h =
    in_feed (λ b. is_order b ≡ true) (Orders a w) is_well_formed
    (λ e k same. subst (λ f. has_its_feed f e.body ≡ true) (sym same)
    (and_left (has_its_feed e.feed e.body) (nat_lt 0 e.place && counts_well e.body) k)) G h

-- a feed of no workstation of the network is empty
pub length_none : {A : Type 0} (xs : List A) → AllByRecursion (λ x. ⊥) xs → length xs ≡ 0
length_none [] h = refl
length_none (x ∷ xs) h = absurd h.0

pub outside_none : (net : Net) (G : List Entry) (y : ℕ) → node_count net ≤ y → list_all (is_inside net) G ≡ true
    → length (list_of G (Events y)) ≡ 0
unfolding list_of
outside_none net G y high h =
    length_none _
    (in_feed (λ b. ⊥) (Events y) (is_inside net)
    (λ e k same. clash (subst (λ f. list_all (λ w. nat_lt w (node_count net)) (ws_in_feed f) ≡ true) (sym same) k))
    G h)
  where
    clash : list_all (λ w. nat_lt w (node_count net)) (y ∷ []) ≡ true → ⊥
    clash k = absurd (grind (arith, nat_tests, high, and_left (nat_lt y (node_count net)) true k))

-- the first order that is not answered is not there
order_there : (b : Body) → is_order b ≡ true → is_some (ordered_command b) ≡ true
order_there (Body.Order c) h = refl
order_there b h = cc

none_beyond : (bs : List Body) (n : ℕ) → AllByRecursion (λ b. is_order b ≡ true) bs
    → is_some (option_and_then ordered_command (slice_get bs n)) ≡ false → length bs ≤ n
none_beyond [] n h e = omega arith
none_beyond (b ∷ bs) zero h e = absurd (clash (sym e ∙ order_there b h.0))
  where
    clash : false ≡ true → ⊥
    clash k = cc
none_beyond (b ∷ bs) (suc n) h e = omega (arith, none_beyond bs n h.1 e)

module _ (net : Net) (readings : ℕ → ℕ) (x : World) (tree : IsTree net) (inv : Invariant net x)
    (rest : IsAtRest net readings x) where
  no_order : (a w : ℕ) → a < node_count net → w < node_count net
      → is_some (next_order (view_at x w) w a) ≡ false
  unfolding next_issuer
  no_order a w a_in w_in =
      let none : next_issuer (net_at net x w) (view_at x w) w ≡ None =
      (decided net x w (readings w) (rest.quiet w w_in)).answer in
      below_holds (λ a. is_some (next_order (view_at x w) w a) ≡ false) (node_count (net_at net x w)) a
      (least_of_none (λ a. is_some (next_order (view_at x w) w a)) (below (node_count (net_at net x w))) none)
      (omega (arith, a_in, one_count net (net_at net x w) (by_one net (view_at x w (Events 0)))))

  pub all_answered : (a w : ℕ) → a < node_count net → w < node_count net
      → answered a (list_of x.history (Events w)) ≡ count_of x (Orders a w)
  unfolding next_order
  all_answered a w a_in w_in =
      let held : HoldsAll x w (Orders a w) = orders_held net readings x tree inv rest a w a_in w_in in
      let orders : view_at x w (Orders a w) ≡ list_of x.history (Orders a w) =
      full_view net readings x tree inv rest w (Orders a w) held in
      let events : view_at x w (Events w) ≡ list_of x.history (Events w) =
      full_view net readings x tree inv rest w (Events w) (inv.own w (Events w) refl) in
      let none : is_some (option_and_then ordered_command (slice_get (list_of x.history (Orders a w))
      (answered a (list_of x.history (Events w))))) ≡ false =
      subst (λ l. is_some (option_and_then ordered_command (slice_get l (answered a (list_of x.history (Events w)))))
      ≡ false) orders
      (subst (λ l. is_some (option_and_then ordered_command (slice_get (view_at x w (Orders a w)) (answered a l)))
      ≡ false) events (no_order a w a_in w_in)) in
      let few : length (list_of x.history (Orders a w)) ≤ answered a (list_of x.history (Events w)) =
      none_beyond (list_of x.history (Orders a w)) (answered a (list_of x.history (Events w)))
      (all_orders x.history a w inv.formed) none in
      omega (arith, few, inv.answers a w, held)

  -- who wants everybody's events holds them all
  inside_or_not : (m n : ℕ) → (m < n) ⊎ (n ≤ m)
  inside_or_not m n = grind arith

  pub all_events : (v : ℕ) → v < node_count net → WantsAll net x v → (y : ℕ)
      → view_at x v (Events y) ≡ list_of x.history (Events y)
  all_events v v_in want y = go (inside_or_not y (node_count net))
    where
      go : ((y < node_count net) ⊎ (node_count net ≤ y)) → view_at x v (Events y) ≡ list_of x.history (Events y)
      go (inl y_in) =
          full_view net readings x tree inv rest v (Events y)
          (wanted_held net readings x tree inv rest v y v_in y_in (want y y_in))
      go (inr high) =
          full_view net readings x tree inv rest v (Events y)
          (let none : length (list_of x.history (Events y)) ≡ 0 = outside_none net x.history y high inv.inside in
          omega (arith, none, inv.within v (Events y)))

  same_events : (v u : ℕ) → v < node_count net → u < node_count net → WantsAll net x v → WantsAll net x u → (y : ℕ)
      → view_at x v (Events y) ≡ view_at x u (Events y)
  same_events v u v_in u_in want wish y = all_events v v_in want y ∙ sym (all_events u u_in wish y)

  one_net : (v u : ℕ) → v < node_count net → u < node_count net → net_at net x v ≡ net_at net x u
  one_net v u v_in u_in =
      same_net net readings x tree inv rest v v_in ∙ sym (same_net net readings x tree inv rest u u_in)

  pub same_job : (v u : ℕ) → v < node_count net → u < node_count net → WantsAll net x v → WantsAll net x u
      → (p : StreamJob) → job_state (net_at net x v) (view_at x v) p ≡ job_state (net_at net x u) (view_at x u) p
  same_job v u v_in u_in want wish p =
      job_state_same (net_at net x v) (view_at x v) (view_at x u) p (same_events v u v_in u_in want wish)
      ∙ ap (λ n. job_state n (view_at x u) p) (one_net v u v_in u_in)

  pub same_stream : (v u : ℕ) → v < node_count net → u < node_count net → WantsAll net x v → WantsAll net x u
      → (d : StreamDoc)
      → stream_state (net_at net x v) (view_at x v) d ≡ stream_state (net_at net x u) (view_at x u) d
  same_stream v u v_in u_in want wish d =
      stream_state_same (net_at net x v) (view_at x v) (view_at x u) d (same_events v u v_in u_in want wish)
      ∙ ap (λ n. stream_state n (view_at x u) d) (one_net v u v_in u_in)
