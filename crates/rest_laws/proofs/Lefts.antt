-- Each entry that a turn makes lowers what is left of a world, and what can still come to the catalogue stays covered.
use Rattle.std.proofs.Common.{◌≡◌, ◌≢◌, ℕ, ◌+◌, ◌<◌, ◌≤◌, true, ◌⊎◌, inl, inr}
use Rattle.std.proofs.Common.{List, [], ◌∷◌, ◌++◌, length, map, length-append, refl, ap, sym, subst, ◌∙◌, arith, None, Some}
use Rattle.std.proofs.lemmas.Bool.Decides.{eqb_tells}
use Rattle.std.specs.List.{AllByRecursion}
use Rattle.std.specs.Prelude.{Ok, flat_map, slice_get}
use Rattle.lemmas.proofs.Lists.{found_within}
use Rattle.model.specs.Types.{Body, Deliver, Entry, Events, Feed, Linked, Net, Obj, Order, Orders, Submit, Take, Turn, WorldStep}
use Rattle.model.specs.Words.{below, has}
use Rattle.model.specs.Network.{node_count}
use Rattle.model.specs.Equalities.{feed_eq}
use Rattle.model.specs.Forwarding.{feeds}
use Rattle.model.specs.History.{list_of}
use Rattle.model.specs.Catalogue.{docs_in}
use Rattle.model.specs.Dependencies.{deps}
use Rattle.model.specs.Facts.{answered, obeyed_command}
use Rattle.model.specs.FreeSteps.{free_step, recounted}
use Rattle.model.specs.Invariant.{Invariant}
use Rattle.model.specs.NewEntry.{event_of, makes, next_entry, own_entry}
use Rattle.model.specs.Step.{effect}
use Rattle.model.specs.World.{World, apply_effect, mark_delivered, view_at}
use Rattle.model_laws.proofs.Feeds.{feed_cases, list_of-append, list_of_elsewhere, list_of_here}
use Rattle.model_laws.proofs.FreeRuns.{free_kept}
use Rattle.model_laws.proofs.Growth.{owned_grows, view_grows}
use Rattle.model_laws.proofs.Options.{there_if}
use Rattle.model_laws.proofs.Turns.{TurnGives, turn_gives}
use Rattle.model_laws.proofs.Steps.{step_of}
use Rattle.model_laws.proofs.Answered.{mailed_history}
use Rattle.rest_laws.specs.Gains.{sum_over}
use Rattle.rest_laws.specs.Left.{Caps, Covers, done, entries, jobs_ahead, keeps_to, left, left_at, left_of, streams_ahead}
use Rattle.rest_laws.specs.Left.{deps_ahead}
use Rattle.rest_laws.specs.Rounds.{AreTaken}
use Rattle.rest_laws.specs.Rest.{count_of, net_at}
use Rattle.rest_laws.proofs.Ahead.{Jobs, Streams, draft_ahead, none_ahead, owned_below}
use Rattle.rest_laws.proofs.Falls.{hits, sum_over_falls}
use Rattle.rest_laws.proofs.Leads.{came, took}
use Rattle.rest_laws.proofs.Lowers.{Fits, turn_lowers}
use Rattle.rest_laws.proofs.Entered.{Made, all_orders_same, events_here, events_same, given_same, issuer_in, next_given}
use Rattle.rest_laws.proofs.Entered.{own_events, turn_makes}
use Rattle.rest_laws.proofs.Deps.{deps_few, deps_less, deps_plain}
use Rattle.rest_laws.proofs.Rounds.{nth_within}

-- what a workstation finds fits
module _ (net : Net) (x : World) (w : ℕ) (inv : Invariant net x) where
  fits : (caps : ℕ → Caps) → Covers net caps x → Fits (caps w) (node_count net) (λ a. count_of x (Orders a w)) (view_at x w) w
  unfolding streams_ahead jobs_ahead
  fits caps covers =
      record {
        objects =
            λ o mine. owned_below (list_of x.history) inv.numbers (caps w) o w (omega (arith, covers.streams w))
            (omega (arith, covers.jobs_ w))
            (owned_grows (view_at x w) (list_of x.history) o w (view_grows x.history (x.holdings w)) mine);
        numbers =
            λ o i d mine e.
            omega (arith, covers.deps_ w o, nth_within (deps (view_at x w) o) i d e, deps_few net x w inv o mine);
        orders =
            λ a c e. (
              issuer_in net x w inv a _ (Order c) (next_given net x w inv a c e),
              subst (λ (l : List Body). answered a l < count_of x (Orders a w)) (sym (own_events net x w inv))
                  (found_within (list_of x.history (Orders a w)) _ (Order c) (next_given net x w inv a c e)),
            );
      }

pub left_same : (net : Net) (caps : ℕ → Caps) (readings : ℕ → List ℕ) (x z : World) → z.history ≡ x.history
    → left net caps readings z ≡ left net caps readings x
unfolding left
left_same net caps readings x z e = rw e refl

pub covers_same : (net : Net) (caps : ℕ → Caps) (x z : World) → z.history ≡ x.history → Covers net caps x → Covers net caps z
unfolding streams_ahead jobs_ahead
covers_same net caps x z e h =
    record { streams = λ w. rw e (h.streams w); jobs_ = λ w. rw e (h.jobs_ w); deps_ = λ w o. rw e (h.deps_ w o) }

module _ (net : Net) (caps : ℕ → Caps) (readings : ℕ → List ℕ) (x z : World) (w t : ℕ)
    (among : has (readings w) t ≡ true) (inv : Invariant net x) (covers : Covers net caps x) (b : Body)
    (made : Made net x z w t b) where
  abbrev new : Entry
  new = next_entry (view_at x w) (Events w) b

  own_falls : left_at net caps readings z w + 1 ≤ left_at net caps readings x w
  own_falls =
      let low : left_of (caps w) (node_count net) (readings w) (λ a. count_of x (Orders a w)) (list_of x.history (Events w) ++ b ∷ [])
      < left_of (caps w) (node_count net) (readings w) (λ a. count_of x (Orders a w)) (list_of x.history (Events w)) =
      subst (λ (l : List Body). left_of (caps w) (node_count net) (readings w) (λ a. count_of x (Orders a w)) (l ++ b ∷ [])
      < left_of (caps w) (node_count net) (readings w) (λ a. count_of x (Orders a w)) l) (own_events net x w inv)
      (turn_lowers (net_at net x w) (view_at x w) w (x.sessions w).live t (readings w) among (caps w) (node_count net)
      (λ a. count_of x (Orders a w)) (fits net x w inv caps covers) b made.body) in
      let same : left_at net caps readings z w
      ≡ left_of (caps w) (node_count net) (readings w) (λ a. count_of x (Orders a w)) (list_of x.history (Events w) ++ b ∷ []) =
      ap (λ (G : List Entry). left_of (caps w) (node_count net) (readings w) (λ a. length (list_of G (Orders a w))) (list_of G (Events w)))
      made.history
      ∙ ap (λ (g : ℕ → ℕ). left_of (caps w) (node_count net) (readings w) g (list_of (x.history ++ new ∷ []) (Events w)))
      (given_same net x.history new w refl w)
      ∙ ap (left_of (caps w) (node_count net) (readings w) (λ a. count_of x (Orders a w))) (events_here net x.history new w refl) in
      omega (arith, low, same)

  others_same : (v : ℕ) → v ≢ w → left_at net caps readings z v ≡ left_at net caps readings x v
  others_same v other =
      ap (λ (G : List Entry). left_of (caps v) (node_count net) (readings v) (λ a. length (list_of G (Orders a v))) (list_of G (Events v)))
      made.history
      ∙ ap (λ (g : ℕ → ℕ). left_of (caps v) (node_count net) (readings v) g (list_of (x.history ++ new ∷ []) (Events v)))
      (given_same net x.history new w refl v)
      ∙ ap (left_of (caps v) (node_count net) (readings v) (λ a. count_of x (Orders a v))) (events_same net x.history new w refl v other)

  none_rises : (v : ℕ) → left_at net caps readings z v ≤ left_at net caps readings x v
  none_rises v =
      elim (eqb_tells v w) [
        | inl e ↦ subst (λ (v : ℕ). left_at net caps readings z v ≤ left_at net caps readings x v) (sym e.1)
            (omega (arith, own_falls))
        | inr e ↦ omega (arith, others_same v e.1)
      ]

  pub left_falls : w < node_count net → left net caps readings z < left net caps readings x
  unfolding left
  left_falls w_in =
      omega (
        arith,
        sum_over_falls (left_at net caps readings z) (left_at net caps readings x) 1 (node_count net) w none_rises w_in own_falls,
      )

-- what can still come to the catalogue, after an entry of w's own
module _ (net : Net) (caps : ℕ → Caps) (x z : World) (w : ℕ) (e : Entry) (feed : e.feed ≡ Events w)
    (history : z.history ≡ x.history ++ e ∷ []) (covers : Covers net caps x) where
  abbrev given : ℕ → List Body
  given a = list_of x.history (Orders a 0)

  abbrev NoMoreDocs : List Body → Type 0
  NoMoreDocs M =
      (Streams (node_count net) given M e.body M ≤ Streams (node_count net) given M e.body (list_of x.history (Events 0)))
      × (Jobs (node_count net) given M e.body M ≤ Jobs (node_count net) given M e.body (list_of x.history (Events 0)))

  abbrev NoMoreDeps : Type 0
  NoMoreDeps = (v : ℕ) (o : Obj) → deps_ahead net (x.history ++ e ∷ []) v o ≤ deps_ahead net x.history v o

  -- where the master's list becomes this one
  by_list : (M : List Body) → list_of (x.history ++ e ∷ []) (Events 0) ≡ M → NoMoreDocs M → NoMoreDeps → Covers net caps z
  unfolding streams_ahead jobs_ahead
  by_list M same h fewer =
      let streams : streams_ahead net z ≡ Streams (node_count net) given M e.body M =
      ap (λ (G : List Entry). Streams (node_count net) (λ a. list_of G (Orders a 0)) M e.body (list_of G (Events 0))) history
      ∙ ap (λ (o : ℕ → List Body). Streams (node_count net) o M e.body (list_of (x.history ++ e ∷ []) (Events 0)))
      (all_orders_same net x.history e w feed 0)
      ∙ ap (Streams (node_count net) given M e.body) same in
      let jobs_ : jobs_ahead net z ≡ Jobs (node_count net) given M e.body M =
      ap (λ (G : List Entry). Jobs (node_count net) (λ a. list_of G (Orders a 0)) M e.body (list_of G (Events 0))) history
      ∙ ap (λ (o : ℕ → List Body). Jobs (node_count net) o M e.body (list_of (x.history ++ e ∷ []) (Events 0)))
      (all_orders_same net x.history e w feed 0)
      ∙ ap (Jobs (node_count net) given M e.body) same in
      record {
        streams = λ v. omega (arith, streams, h.0, covers.streams v);
        jobs_ = λ v. omega (arith, jobs_, h.1, covers.jobs_ v);
        deps_ =
            λ v o.
            omega (
              arith,
              subst (λ (H : List Entry). deps_ahead net H v o ≤ deps_ahead net x.history v o) (sym history) (fewer v o),
              covers.deps_ v o,
            );
      }

  covers_behind : (w ≡ 0 → NoMoreDocs (list_of x.history (Events 0) ++ e.body ∷ [])) → NoMoreDeps → Covers net caps z
  covers_behind none fewer =
      elim (eqb_tells 0 w) [
        | inl k ↦ by_list (list_of x.history (Events 0) ++ e.body ∷ [])
            (subst (λ (v : ℕ). list_of (x.history ++ e ∷ []) (Events v) ≡ list_of x.history (Events v) ++ e.body ∷ []) (sym k.1)
            (events_here net x.history e w feed)) (none (sym k.1)) fewer
        | inr k ↦ by_list (list_of x.history (Events 0)) (events_same net x.history e w feed 0 k.1)
            (omega arith, omega arith) fewer
      ]

  -- where it brings no document and no command
  pub covers_plain : docs_in e.body ≡ [] → obeyed_command e.body ≡ None → Covers net caps z
  covers_plain no_docs no_command =
      covers_behind (λ same. none_ahead (node_count net) given (list_of x.history (Events 0)) e.body no_docs)
      (deps_plain net x.history e w feed no_docs no_command)

-- where it is one that a turn makes
module _ (net : Net) (caps : ℕ → Caps) (x z : World) (w t : ℕ) (inv : Invariant net x)
    (covers : Covers net caps x) (b : Body) (made : Made net x z w t b) where
  abbrev orders : ℕ → List Body
  orders a = list_of x.history (Orders a 0)

  abbrev NoneAhead : List Body → Type 0
  NoneAhead M =
      (Streams (node_count net) orders M b M ≤ Streams (node_count net) orders M b (list_of x.history (Events 0)))
      × (Jobs (node_count net) orders M b M ≤ Jobs (node_count net) orders M b (list_of x.history (Events 0)))

  by_master : w ≡ 0 → NoneAhead (list_of x.history (Events 0) ++ b ∷ [])
  by_master e = go b (there_if (TurnGives net_w (view_at x w) w (x.sessions w).live t) _ b (turn_gives net_w (view_at x w) w (x.sessions w).live t) made.body)
    where
      net_w : Net
      net_w = net_at net x w

      L : List Body
      L = list_of x.history (Events 0)

      none : (c : Body) → docs_in c ≡ [] → NoneAhead (L ++ c ∷ [])
      none c k = none_ahead (node_count net) orders L c k

      go : (c : Body) → TurnGives net_w (view_at x w) w (x.sessions w).live t c → NoneAhead (L ++ c ∷ [])
      go c (TurnGives.clocked g) = none _ refl
      go c (TurnGives.lost j n f dead) = none _ refl
      go c (TurnGives.declined a d why g) = none _ refl
      go c (TurnGives.added a draft g v) =
          let there : slice_get (orders a) (answered a L) ≡ Some (Order (Submit draft)) =
          subst (λ (w : ℕ). slice_get (list_of x.history (Orders a w)) (answered a (list_of x.history (Events w)))
          ≡ Some (Order (Submit draft))) e (next_given net x w inv a (Submit draft) g) in
          draft_ahead (node_count net) orders L (view_at x w) a (1 + answered a (view_at x w (Events w))) draft
          (issuer_in net x 0 inv a _ (Order (Submit draft)) there) there
      go c (TurnGives.obeyed a d g) = none _ refl
      go c (TurnGives.until o p u m g l) = none _ refl
      go c (TurnGives.late o p m g) = none _ refl
      go c (TurnGives.released s g) = none _ refl
      go c (TurnGives.ended s g) = none _ refl
      go c (TurnGives.launched j ready) = none _ refl

covers_made : (net : Net) (caps : ℕ → Caps) (x z : World) (w t : ℕ) → Invariant net x → Covers net caps x → (b : Body)
    → Made net x z w t b → Covers net caps z
covers_made net caps x z w t inv covers b made =
    covers_behind net caps x z w (next_entry (view_at x w) (Events w) b) refl made.history covers
    (by_master net caps x z w t inv covers b made) (deps_less net x z w t inv b made)

-- how many entries there are
pub sum_over_append : {X : Type 0} (f : X → ℕ) (xs ys : List X) → sum_over f (xs ++ ys) ≡ sum_over f xs + sum_over f ys
sum_over_append f [] ys = omega arith
sum_over_append f (x ∷ xs) ys = omega (arith, sum_over_append f xs ys)

pub sum_over_map : {X Y : Type 0} (f : Y → ℕ) (g : X → Y) (xs : List X) → sum_over f (map g xs) ≡ sum_over (λ x. f (g x)) xs
sum_over_map f g [] = refl
sum_over_map f g (x ∷ xs) = omega (arith, sum_over_map f g xs)

sum_over_none : {X : Type 0} (f : X → ℕ) (xs : List X) → ((x : X) → f x ≡ 0) → sum_over f xs ≡ 0
sum_over_none f [] h = refl
sum_over_none f (x ∷ xs) h = omega (arith, h x, sum_over_none f xs h)

flat_none : {X Y : Type 0} (f : Y → ℕ) (g : X → List Y) (xs : List X) → ((x : X) → sum_over f (g x) ≡ 0)
    → sum_over f (flat_map g xs) ≡ 0
flat_none f g [] h = refl
flat_none f g (x ∷ xs) h = omega (arith, sum_over_append f (g x) (flat_map g xs), h x, flat_none f g xs h)

pub sum_over_more : {X : Type 0} (f g h : X → ℕ) (xs : List X) → ((x : X) → f x ≤ g x + h x)
    → sum_over f xs ≤ sum_over g xs + sum_over h xs
sum_over_more f g h [] low = omega arith
sum_over_more f g h (x ∷ xs) low = omega (arith, low x, sum_over_more f g h xs low)

-- of the network's feeds one at most is this one
feeds_once : (net : Net) (w : ℕ) → sum_over (λ f. done (feed_eq f (Events w))) (feeds net) ≤ 1
unfolding feeds
feeds_once net w =
    omega (
      arith,
      sum_over_append (λ f. done (feed_eq f (Events w))) (map Events (below (node_count net)))
          (flat_map (λ a. map (Orders a) (below (node_count net))) (below (node_count net))),
      sum_over_map (λ f. done (feed_eq f (Events w))) Events (below (node_count net)),
      hits w 0 (node_count net),
      flat_none (λ f. done (feed_eq f (Events w))) (λ a. map (Orders a) (below (node_count net))) (below (node_count net))
          (λ a. sum_over_map (λ f. done (feed_eq f (Events w))) (Orders a) (below (node_count net))
          ∙ sum_over_none (λ b. done (feed_eq (Orders a b) (Events w))) (below (node_count net)) (λ b. refl)),
    )

-- one entry more of a workstation's own
pub one_entry : (net : Net) (x z : World) (w : ℕ) (b : Body)
    → z.history ≡ x.history ++ next_entry (view_at x w) (Events w) b ∷ [] → entries net z ≤ entries net x + 1
unfolding entries
one_entry net x z w b history =
    omega (
      arith,
      sum_over_more (count_of z) (count_of x) (λ f. done (feed_eq f (Events w))) (feeds net) at_feed,
      feeds_once net w,
    )
  where
    new : Entry
    new = next_entry (view_at x w) (Events w) b

    at_feed : (f : Feed) → count_of z f ≤ count_of x f + done (feed_eq f (Events w))
    at_feed f =
        let whole : count_of z f ≡ length (list_of x.history f) + length (list_of (new ∷ []) f) =
        ap (λ (G : List Entry). length (list_of G f)) history
        ∙ ap length (list_of-append x.history (new ∷ []) f)
        ∙ length-append (list_of x.history f) (list_of (new ∷ []) f) in
        elim (feed_cases f (Events w)) [
          | inl e ↦ omega (arith, whole, ap length (list_of_here new f e.0), ap done e.0)
          | inr e ↦ omega (arith, whole, ap length (list_of_elsewhere new f e.0), ap done e.0)
        ]

entries_same : (net : Net) (x z : World) → z.history ≡ x.history → entries net z ≡ entries net x
unfolding entries
entries_same net x z e = rw e refl

pub delivered_same : (net : Net) (x z : World) (a b k : ℕ) → free_step net x (Deliver a b k) ≡ Ok z → z.history ≡ x.history
unfolding free_step apply_effect mark_delivered
delivered_same net x z a b k e =
    let p = came net (recounted x) z a b k e in
    sym (ap (λ (y : World). y.history) p.2) ∙ mailed_history x.history (step_of net (recounted x) b p.0).made

pub linked_same : (net : Net) (x z : World) (w v : ℕ) → free_step net x (Take w (Linked v)) ≡ Ok z → z.history ≡ x.history
unfolding free_step apply_effect effect makes own_entry event_of
linked_same net x z w v e = sym (ap (λ (y : World). y.history) (took net (recounted x) z w (Linked v) e).1)

-- entries and what is left of them never grow together
pub record Keeps (net : Net) (caps : ℕ → Caps) (readings : ℕ → List ℕ) (x z : World) : Type 0 where
  pub bound : entries net z + left net caps readings z ≤ entries net x + left net caps readings x
  pub covers : Covers net caps z

keeps_same : (net : Net) (caps : ℕ → Caps) (readings : ℕ → List ℕ) (x z : World) → Covers net caps x → z.history ≡ x.history
    → Keeps net caps readings x z
keeps_same net caps readings x z covers e =
    record {
      bound = omega (arith, entries_same net x z e, left_same net caps readings x z e);
      covers = covers_same net caps x z e covers;
    }

-- a turn at its reading keeps an entry and lowers what is left, or leaves both
pub turn_left : (net : Net) (caps : ℕ → Caps) (readings : ℕ → List ℕ) (x z : World) (w t : ℕ)
    → has (readings w) t ≡ true → Invariant net x → Covers net caps x → free_step net x (Take w (Turn t)) ≡ Ok z
    → (left net caps readings z < left net caps readings x) ⊎ (z.history ≡ x.history)
turn_left net caps readings x z w t among inv covers e =
    let made = turn_makes net x z w t e in go made.0 made.1
  where
    go : w < node_count net → ((z.history ≡ x.history) ⊎ ((b : Body) × Made net x z w t b))
        → (left net caps readings z < left net caps readings x) ⊎ (z.history ≡ x.history)
    go w_in (inl h) = inr h
    go w_in (inr h) = inl (left_falls net caps readings x z w t among inv covers h.0 h.1 w_in)

turn_keeps : (net : Net) (caps : ℕ → Caps) (readings : ℕ → List ℕ) (x z : World) (w t : ℕ)
    → has (readings w) t ≡ true → Invariant net x → Covers net caps x → free_step net x (Take w (Turn t)) ≡ Ok z
    → Keeps net caps readings x z
turn_keeps net caps readings x z w t among inv covers e =
    let made = turn_makes net x z w t e in go made.0 made.1
  where
    go : w < node_count net → ((z.history ≡ x.history) ⊎ ((b : Body) × Made net x z w t b))
        → Keeps net caps readings x z
    go w_in (inl h) = keeps_same net caps readings x z covers h
    go w_in (inr h) =
        record {
          bound =
              omega (
                arith,
                left_falls net caps readings x z w t among inv covers h.0 h.1 w_in,
                one_entry net x z w h.0 h.1.history,
              );
          covers = covers_made net caps x z w t inv covers h.0 h.1;
        }

pub step_keeps : (net : Net) (caps : ℕ → Caps) (readings : ℕ → List ℕ) (x z : World) (s : WorldStep) → Invariant net x
    → Covers net caps x → keeps_to readings s ≡ true → free_step net x s ≡ Ok z → Keeps net caps readings x z
step_keeps net caps readings x z (Take w (Turn t)) inv covers h e =
    turn_keeps net caps readings x z w t h inv covers e
step_keeps net caps readings x z (Take w (Linked v)) inv covers h e =
    keeps_same net caps readings x z covers (linked_same net x z w v e)
step_keeps net caps readings x z (Deliver a b k) inv covers h e =
    keeps_same net caps readings x z covers (delivered_same net x z a b k e)
step_keeps net caps readings x z _ inv covers h e = cc

pub steps_keep : (net : Net) (caps : ℕ → Caps) (readings : ℕ → List ℕ) (steps : List WorldStep) (x z : World) → Invariant net x
    → Covers net caps x → AllByRecursion (λ s. keeps_to readings s ≡ true) steps → AreTaken net x steps z
    → Keeps net caps readings x z
steps_keep net caps readings [] x z inv covers each taken =
    subst (Keeps net caps readings x) taken (record { bound = omega arith; covers = covers })
steps_keep net caps readings (s ∷ steps) x z inv covers each taken =
    let one : Keeps net caps readings x taken.0 = step_keeps net caps readings x taken.0 s inv covers each.0 taken.1 in
    let rest : Keeps net caps readings taken.0 z =
    steps_keep net caps readings steps taken.0 z (free_kept net x taken.0 s inv taken.1) one.covers each.1 taken.2 in
    record { bound = omega (arith, one.bound, rest.bound); covers = rest.covers }
