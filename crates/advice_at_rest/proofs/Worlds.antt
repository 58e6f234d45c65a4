-- What workstations can still advise themselves, from world to world.
use Rattle.std.proofs.Common.{◌≡◌, ℕ, ◌+◌, ◌<◌, ◌≤◌, true, false, ◌⊎◌, inl, inr, List, [], ◌∷◌, ◌++◌}
use Rattle.std.proofs.Common.{refl, ap, sym, subst, ◌∙◌, arith, Some, None}
use Rattle.std.proofs.lemmas.Bool.Decides.{eqb_tells}
use Rattle.std.specs.Prelude.{Ok, slice_get}
use Rattle.lemmas.proofs.Booleans.{or_cases}
use Rattle.model.specs.Types.{Body, Cmd, Declined, Deliver, Entry, Events, Input, Linked, Net, Order, Orders, Take, Turn}
use Rattle.model.specs.Types.{Unlinked, WorldStep}
use Rattle.model.specs.Words.{below}
use Rattle.model.specs.Network.{node_count}
use Rattle.model.specs.History.{View, list_of}
use Rattle.model.specs.Facts.{answered, answers_to, is_launch_of, launches, obeyed_command, reruns}
use Rattle.model.specs.FreeSteps.{free_step, recounted}
use Rattle.model.specs.Invariant.{Invariant}
use Rattle.model.specs.NewEntry.{event_of, makes, next_entry, own_entry}
use Rattle.model.specs.Sessions.{next_session}
use Rattle.model.specs.Step.{effect}
use Rattle.model.specs.Turn.{next_order, turn_body}
use Rattle.model.specs.World.{Origin, World, apply_effect, view_at}
use Rattle.model_laws.proofs.Options.{there_if}
use Rattle.model_laws.proofs.Steps.{step_of}
use Rattle.model_laws.proofs.Turns.{TurnGives, turn_gives}
use Rattle.rest_laws.specs.Left.{keeps_to}
use Rattle.rest_laws.specs.Rest.{net_at}
use Rattle.rest_laws.proofs.Busy.{links_rise}
use Rattle.rest_laws.proofs.Entered.{Made, all_orders_same, events_here, events_same, issuer_in, next_given, own_events, turn_makes}
use Rattle.rest_laws.proofs.Gains.{sum_over_low}
use Rattle.rest_laws.proofs.Leads.{took}
use Rattle.rest_laws.proofs.Lefts.{delivered_same, linked_same}
use Rattle.rest_laws.proofs.Rises.{Rises, rises_after, rises_counted, step_moves}
use Rattle.launches_at_rest.specs.Told.{is_told, works_at}
use Rattle.launches_at_rest.proofs.Keeping.{ready_due}
use Rattle.launches_at_rest.proofs.Telling.{Tells, ToldBy, told_by}
use Rattle.advice_at_rest.specs.Advices.{advices_at, advices_by, advices_left, is_plan}
use Rattle.advice_at_rest.specs.Advised.{goes_on, is_unlinking}
use Rattle.advice_at_rest.proofs.Obeyed.{declined_by}
use Rattle.advice_at_rest.proofs.Members.{held_low, master_more}
use Rattle.advice_at_rest.proofs.Own.{low_added, low_declined, low_launched, low_obeyed, low_still}

-- what may follow an event is no plan, and leaves no more to advise
module _ (net : Net) (jobs : ℕ) (x z : World) where
  abbrev before : ℕ → ℕ
  before v = advices_by net jobs x v

  -- where the history stays, and nobody holds less
  pub same_low : z.history ≡ x.history → Rises x z → advices_left net jobs z ≤ advices_left net jobs x
  unfolding advices_left
  same_low e rises =
      sum_over_low (advices_by net jobs z) (advices_by net jobs x) (below (node_count net))
      (λ v. rw e
      (held_low jobs (node_count net) v (λ a. list_of x.history (Orders a v)) (list_of x.history (Events 0))
      (x.holdings v (Events 0)) (z.holdings v (Events 0)) (list_of x.history (Events v)) (rises.held v (Events 0))))

  -- after an event of w's own
  module _ (inv : Invariant net x) (rises : Rises x z) (w : ℕ) (w_in : w < node_count net) (e : Entry) (here : e.feed ≡ Events w)
      (history : z.history ≡ x.history ++ e ∷ []) (no_plan : is_plan e.body ≡ false)
      (low : advices_at jobs (node_count net) w (λ a. list_of x.history (Orders a w)) (list_of x.history (Events 0))
      (x.holdings w (Events 0)) (list_of x.history (Events w) ++ e.body ∷ []) ≤ before w) where
    abbrev G : List Entry
    G = x.history

    abbrev At : ℕ → (ℕ → List Body) → List Body → ℕ → List Body → ℕ
    At v orders master held events = advices_at jobs (node_count net) v orders master held events

    -- whatever becomes of its own events
    by_events : (v : ℕ) (L : List Body) → list_of (x.history ++ e ∷ []) (Events v) ≡ L
        → advices_by net jobs z v
        ≤ At v (λ a. list_of x.history (Orders a v)) (list_of x.history (Events 0)) (x.holdings v (Events 0)) L
    by_events v L same =
        rw history
        (subst (λ (o : ℕ → List Body). At v o (list_of (x.history ++ e ∷ []) (Events 0)) (z.holdings v (Events 0))
        (list_of (x.history ++ e ∷ []) (Events v))
        ≤ At v (λ a. list_of x.history (Orders a v)) (list_of x.history (Events 0)) (x.holdings v (Events 0)) L)
        (sym (all_orders_same net x.history e w here v))
        (subst (λ (l : List Body). At v (λ a. list_of x.history (Orders a v)) (list_of (x.history ++ e ∷ []) (Events 0))
        (z.holdings v (Events 0)) l
        ≤ At v (λ a. list_of x.history (Orders a v)) (list_of x.history (Events 0)) (x.holdings v (Events 0)) L) (sym same)
        (omega (
          arith,
          held_low jobs (node_count net) v (λ a. list_of x.history (Orders a v)) (list_of (x.history ++ e ∷ []) (Events 0))
              (x.holdings v (Events 0)) (z.holdings v (Events 0)) L (rises.held v (Events 0)),
          master,
        ))))
      where
        master : At v (λ a. list_of x.history (Orders a v)) (list_of (x.history ++ e ∷ []) (Events 0)) (x.holdings v (Events 0)) L
            ≡ At v (λ a. list_of x.history (Orders a v)) (list_of x.history (Events 0)) (x.holdings v (Events 0)) L
        master =
            elim (eqb_tells 0 w) [
              | inl k ↦ ap (λ (l : List Body). At v (λ a. list_of x.history (Orders a v)) l (x.holdings v (Events 0)) L)
                  (subst (λ (u : ℕ). list_of (x.history ++ e ∷ []) (Events u) ≡ list_of x.history (Events u) ++ e.body ∷ []) (sym k.1)
                  (events_here net x.history e w here))
                  ∙ master_more jobs (node_count net) v (λ a. list_of x.history (Orders a v)) (list_of x.history (Events 0)) e.body
                  (x.holdings v (Events 0)) L (inv.within v (Events 0)) no_plan
              | inr k ↦ ap (λ (l : List Body). At v (λ a. list_of x.history (Orders a v)) l (x.holdings v (Events 0)) L)
                  (events_same net x.history e w here 0 k.1)
            ]

    at_each : (v : ℕ) → advices_by net jobs z v ≤ advices_by net jobs x v
    at_each v =
        elim (eqb_tells v w) [
          | inl k ↦ subst (λ (v : ℕ). advices_by net jobs z v ≤ advices_by net jobs x v) (sym k.1)
              (omega (arith, low, by_events w (list_of x.history (Events w) ++ e.body ∷ []) (events_here net x.history e w here)))
          | inr k ↦ by_events v (list_of x.history (Events v)) (events_same net x.history e w here v k.1)
        ]

    pub own_low : advices_left net jobs z ≤ advices_left net jobs x
    unfolding advices_left
    own_low = sum_over_low (advices_by net jobs z) (advices_by net jobs x) (below (node_count net)) at_each

-- what turns make
module _ (net : Net) (jobs : ℕ) (x : World) (inv : Invariant net x) (w : ℕ) where
  abbrev V : View
  V = view_at x w

  abbrev Now : List Body → ℕ
  Now L =
      advices_at jobs (node_count net) w (λ a. list_of x.history (Orders a w)) (list_of x.history (Events 0))
      (x.holdings w (Events 0)) L

  abbrev own : List Body
  own = list_of x.history (Events w)

  low_by_told : (b : Body) → Tells V w (x.sessions w).live b → (Now (own ++ b ∷ []) ≤ Now own) × (is_plan b ≡ false)
  low_by_told b (Tells.started j l is none) = (
    low_still jobs (node_count net) w (λ a. list_of x.history (Orders a w)) (list_of x.history (Events 0)) (x.holdings w (Events 0)) own _ (λ i. refl) refl refl,
    refl,
  )
  low_by_told b (Tells.failed j l is) = (
    low_still jobs (node_count net) w (λ a. list_of x.history (Orders a w)) (list_of x.history (Events 0)) (x.holdings w (Events 0)) own _ (λ i. refl) refl refl,
    refl,
  )
  low_by_told b (Tells.ended j l rc good is) = (
    low_still jobs (node_count net) w (λ a. list_of x.history (Orders a w)) (list_of x.history (Events 0)) (x.holdings w (Events 0)) own _ (λ i. refl) refl refl,
    refl,
  )
  low_by_told b (Tells.found o i d mine there none) = (
    low_still jobs (node_count net) w (λ a. list_of x.history (Orders a w)) (list_of x.history (Events 0)) (x.holdings w (Events 0)) own _ (λ j. refl) refl refl,
    refl,
  )

  given : (a : ℕ) (c : Cmd) → next_order V w a ≡ Some c
      → slice_get (list_of x.history (Orders a w)) (answered a own) ≡ Some (Order c)
  given a c e = next_given net x w inv a c e

  still : (b : Body) → ((j : ℕ) → is_launch_of j b ≡ false) → obeyed_command b ≡ None → answers_to w b ≡ false
      → Now (own ++ b ∷ []) ≤ Now own
  still b no_launch no_command no_answer =
      low_still jobs (node_count net) w (λ a. list_of x.history (Orders a w)) (list_of x.history (Events 0))
      (x.holdings w (Events 0)) own b no_launch no_command no_answer

  low_by_turn : (t : ℕ) (b : Body) → turn_body (net_at net x w) V w (x.sessions w).live t ≡ Some b
      → TurnGives (net_at net x w) V w (x.sessions w).live t b → (Now (own ++ b ∷ []) ≤ Now own) × (is_plan b ≡ false)
  low_by_turn t b is (TurnGives.clocked g) = (still _ (λ j. refl) refl refl, refl)
  low_by_turn t b is (TurnGives.lost j n f dead) = (still _ (λ i. refl) refl refl, refl)
  low_by_turn t b is (TurnGives.declined a d why g) = (
    subst (λ (L : List Body). Now (L ++ Declined a (1 + answered a (V (Events w))) why ∷ []) ≤ Now L) (own_events net x w inv)
        (low_declined (net_at net x w) jobs (node_count net) w (λ a. list_of x.history (Orders a w)) (list_of x.history (Events 0))
        (x.holdings w (Events 0)) V refl a (1 + answered a (V (Events w))) why
        (declined_by (net_at net x w) V w (x.sessions w).live t a (1 + answered a (V (Events w))) why is)
        (λ c next. subst (λ (L : List Body). slice_get (list_of x.history (Orders a w)) (answered a L) ≡ Some (Order c))
        (sym (own_events net x w inv)) (given a c next))),
    refl,
  )
  low_by_turn t b is (TurnGives.added a draft g v) = (
    low_added jobs (node_count net) w (λ a. list_of x.history (Orders a w)) (list_of x.history (Events 0)) (x.holdings w (Events 0))
        own a _ draft _ (given a _ g),
    refl,
  )
  low_by_turn t b is (TurnGives.obeyed a d g) = (
    low_obeyed jobs (node_count net) w (λ a. list_of x.history (Orders a w)) (list_of x.history (Events 0)) (x.holdings w (Events 0))
        own a _ d (issuer_in net x w inv a _ (Order d) (given a d g)) (given a d g),
    refl,
  )
  low_by_turn t b is (TurnGives.until o p u m g l) = (still _ (λ j. refl) refl refl, refl)
  low_by_turn t b is (TurnGives.late o p m g) = (still _ (λ j. refl) refl refl, refl)
  low_by_turn t b is (TurnGives.released s g) = (still _ (λ j. refl) refl refl, refl)
  low_by_turn t b is (TurnGives.ended s g) = (still _ (λ j. refl) refl refl, refl)
  low_by_turn t b is (TurnGives.launched j ready) = (
    low_launched jobs (node_count net) w (λ a. list_of x.history (Orders a w)) (list_of x.history (Events 0))
        (x.holdings w (Events 0)) own j _ _
        (subst (λ (l : List Body). launches j l ≤ reruns j l) (own_events net x w inv) (ready_due (net_at net x w) V w j ready)),
    refl,
  )

-- where an end of a link goes down
pub unlinked_same : (net : Net) (x z : World) (w v : ℕ) → free_step net x (Take w (Unlinked v)) ≡ Ok z → z.history ≡ x.history
unfolding free_step apply_effect effect makes own_entry event_of
unlinked_same net x z w v e = sym (ap (λ (y : World). y.history) (took net (recounted x) z w (Unlinked v) e).1)

pub unlinked_rises : (net : Net) (x z : World) (w v : ℕ) → free_step net x (Take w (Unlinked v)) ≡ Ok z → Rises x z
unfolding effect next_session free_step
unlinked_rises net x z w v e =
    rises_counted x z
    (subst (Rises (recounted x)) (took net (recounted x) z w (Unlinked v) e).1
    (rises_after (recounted x) w Origin.Own (step_of net (recounted x) w (Input.Local (Unlinked v)))
    (λ u f. omega arith)))

-- each step that goes on leaves no more
module _ (net : Net) (jobs : ℕ) (readings : ℕ → List ℕ) (x z : World) (inv : Invariant net x) where
  abbrev NoMore : Type 0
  NoMore = advices_left net jobs z ≤ advices_left net jobs x

  turn_low : (w t : ℕ) → free_step net x (Take w (Turn t)) ≡ Ok z → NoMore
  turn_low w t e = let made = turn_makes net x z w t e in go made.0 made.1
    where
      rises : Rises x z
      rises = (step_moves net x z (Take w (Turn t)) refl e).rises

      go : w < node_count net → ((z.history ≡ x.history) ⊎ ((b : Body) × Made net x z w t b)) → NoMore
      go w_in (inl h) = same_low net jobs x z h rises
      go w_in (inr h) =
          let it =
          low_by_turn net jobs x inv w t h.0 h.1.body
          (there_if (TurnGives (net_at net x w) (view_at x w) w (x.sessions w).live t) _ h.0
          (turn_gives (net_at net x w) (view_at x w) w (x.sessions w).live t) h.1.body) in
          own_low net jobs x z inv rises w w_in (next_entry (view_at x w) (Events w) h.0) refl h.1.history it.1 it.0

  old_low : (s : WorldStep) → keeps_to readings s ≡ true → free_step net x s ≡ Ok z → NoMore
  old_low (Take w (Turn t)) h e = turn_low w t e
  old_low (Take w (Linked v)) h e =
      same_low net jobs x z (linked_same net x z w v e) (links_rise net (Take w (Linked v) ∷ []) x z (refl, tt) (z, e, refl))
  old_low (Deliver a b k) h e =
      same_low net jobs x z (delivered_same net x z a b k e) (step_moves net x z (Deliver a b k) refl e).rises
  old_low _ h e = cc

  told_low : ToldBy net x z → NoMore
  told_low t =
      let it = low_by_told net jobs x inv t.ws t.told.body t.told.tells in
      own_low net jobs x z inv t.told.makes_.rises t.ws t.told.makes_.inside
      (next_entry (view_at x t.ws) (Events t.ws) t.told.body) refl t.told.makes_.history it.1 it.0

  unlinked_low : (s : WorldStep) → is_unlinking s ≡ true → free_step net x s ≡ Ok z → NoMore
  unlinked_low (Take w (Unlinked v)) h e = same_low net jobs x z (unlinked_same net x z w v e) (unlinked_rises net x z w v e)
  unlinked_low _ h e = cc

  pub step_low : (s : WorldStep) → goes_on readings s ≡ true → free_step net x s ≡ Ok z
      → advices_left net jobs z ≤ advices_left net jobs x
  step_low s h e =
      elim (or_cases (works_at readings s) (is_unlinking s) h) [
        | inl k ↦ elim (or_cases (keeps_to readings s) (is_told s) k) [
          | inl i ↦ old_low s i e
          | inr i ↦ told_low (told_by net x z s i e)
        ]
        | inr k ↦ unlinked_low s k e
      ]
