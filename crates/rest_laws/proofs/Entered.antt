-- What a turn enters into the history, and how the feeds stand after it.
use Rattle.std.proofs.Common.{◌≡◌, ◌≢◌, ℕ, ◌<◌, ◌⊎◌, inl, inr}
use Rattle.std.proofs.Common.{List, [], ◌∷◌, ◌++◌, length, refl, ap, sym, subst, ◌∙◌, arith, Option, Some, None}
use Rattle.std.proofs.Math.Seq.{take-length}
use Rattle.std.specs.Prelude.{Ok, option_map, slice_get}
use Rattle.lemmas.proofs.Lists.{found_within}
use Rattle.model.specs.Types.{Body, Cmd, Entry, Events, Input, Net, Order, Orders, Take, Turn}
use Rattle.model.specs.Network.{node_count}
use Rattle.model.specs.History.{list_of}
use Rattle.model.specs.Facts.{answered}
use Rattle.model.specs.FreeSteps.{free_step, recounted}
use Rattle.model.specs.Invariant.{Invariant}
use Rattle.model.specs.NewEntry.{event_of, makes, next_entry, own_entry}
use Rattle.model.specs.Step.{effect}
use Rattle.model.specs.Turn.{next_order, turn_body}
use Rattle.model.specs.World.{Origin, World, apply_effect, history_with, view_at}
use Rattle.model_laws.proofs.Feeds.{pushed_cases}
use Rattle.model_laws.proofs.Orders.{next_is}
use Rattle.model_laws.proofs.Orders.{slice_get_take}
use Rattle.rest_laws.specs.Rest.{count_of, net_at}
use Rattle.rest_laws.proofs.Gains.{are_inside, feed_or_none, first_in}
use Rattle.rest_laws.proofs.Leads.{took}
use Rattle.rest_laws.proofs.Quiets.{IsFeed}

-- a node's view has its own events whole
pub own_events : (net : Net) (x : World) (w : ℕ) → Invariant net x → view_at x w (Events w) ≡ list_of x.history (Events w)
own_events net x w inv = rw (inv.own w (Events w) refl) (take-length (list_of x.history (Events w)))

-- what a turn makes
pub record Made (net : Net) (x z : World) (w t : ℕ) (b : Body) : Type 0 where
  pub body : turn_body (net_at net x w) (view_at x w) w (x.sessions w).live t ≡ Some b
  pub history : z.history ≡ x.history ++ next_entry (view_at x w) (Events w) b ∷ []

pub turn_makes : (net : Net) (x z : World) (w t : ℕ) → free_step net x (Take w (Turn t)) ≡ Ok z
    → (w < node_count net) × ((z.history ≡ x.history) ⊎ ((b : Body) × Made net x z w t b))
unfolding free_step apply_effect effect makes own_entry event_of
turn_makes net x z w t e =
    let p = took net (recounted x) z w (Turn t) e in (
      first_in net x w [] (are_inside net x w (Input.Local (Turn t)) p.0),
      go (turn_body (net_at net x w) (view_at x w) w (x.sessions w).live t) refl (ap (λ (y : World). y.history) p.1),
    )
  where
    go : (o : Option Body) → turn_body (net_at net x w) (view_at x w) w (x.sessions w).live t ≡ o
        → history_with Origin.Own x.history
        (option_map (next_entry (view_at x w) (Events w)) (turn_body (net_at net x w) (view_at x w) w (x.sessions w).live t)) ≡ z.history
        → (z.history ≡ x.history) ⊎ ((b : Body) × Made net x z w t b)
    go None f g =
        inl (sym g ∙ ap (λ o. history_with Origin.Own x.history (option_map (next_entry (view_at x w) (Events w)) o)) f)
    go (Some b) f g =
        inr (
          b,
          record {
            body = f;
            history = sym g ∙ ap (λ o. history_with Origin.Own x.history (option_map (next_entry (view_at x w) (Events w)) o)) f;
          },
        )

-- the order that a workstation answers next
module _ (net : Net) (x : World) (w : ℕ) (inv : Invariant net x) where
  pub next_given : (a : ℕ) (c : Cmd) → next_order (view_at x w) w a ≡ Some c
      → slice_get (list_of x.history (Orders a w)) (answered a (list_of x.history (Events w))) ≡ Some (Order c)
  unfolding next_order
  next_given a c e =
      slice_get_take (x.holdings w (Orders a w)) (list_of x.history (Orders a w)) _ (Order c)
      (subst (λ (l : List Body). slice_get (view_at x w (Orders a w)) (answered a l) ≡ Some (Order c)) (own_events net x w inv)
      (next_is (slice_get (view_at x w (Orders a w)) (answered a (view_at x w (Events w)))) c e))

  pub issuer_in : (a k : ℕ) (b : Body) → slice_get (list_of x.history (Orders a w)) k ≡ Some b → a < node_count net
  issuer_in a k b e = go (feed_or_none net x inv (Orders a w))
    where
      go : IsFeed net (Orders a w) ⊎ (count_of x (Orders a w) ≡ 0) → a < node_count net
      go (inl h) = h.0
      go (inr h) = absurd (omega (arith, h, found_within (list_of x.history (Orders a w)) k b e))

-- after an entry of w's own
module _ (net : Net) (G : List Entry) (e : Entry) (w : ℕ) (here : e.feed ≡ Events w) where
  abbrev pub H : List Entry
  H = G ++ e ∷ []

  pub orders_same : (a v : ℕ) → list_of H (Orders a v) ≡ list_of G (Orders a v)
  orders_same a v = go (pushed_cases G e (Orders a v))
    where
      go : ((Orders a v ≡ e.feed) × (list_of H (Orders a v) ≡ list_of G (Orders a v) ++ e.body ∷ []))
          ⊎ ((Orders a v ≢ e.feed) × (list_of H (Orders a v) ≡ list_of G (Orders a v)))
          → list_of H (Orders a v) ≡ list_of G (Orders a v)
      go (inl k) = absurd (other (k.0 ∙ here))
        where
          other : Orders a v ≡ Events w → ⊥
          other f = cc
      go (inr k) = k.1

  pub events_same : (v : ℕ) → v ≢ w → list_of H (Events v) ≡ list_of G (Events v)
  events_same v other = go (pushed_cases G e (Events v))
    where
      go : ((Events v ≡ e.feed) × (list_of H (Events v) ≡ list_of G (Events v) ++ e.body ∷ []))
          ⊎ ((Events v ≢ e.feed) × (list_of H (Events v) ≡ list_of G (Events v)))
          → list_of H (Events v) ≡ list_of G (Events v)
      go (inl k) = absurd (other (same (k.0 ∙ here)))
        where
          same : Events v ≡ Events w → v ≡ w
          same f = cc
      go (inr k) = k.1

  pub events_here : list_of H (Events w) ≡ list_of G (Events w) ++ e.body ∷ []
  events_here = go (pushed_cases G e (Events w))
    where
      go : ((Events w ≡ e.feed) × (list_of H (Events w) ≡ list_of G (Events w) ++ e.body ∷ []))
          ⊎ ((Events w ≢ e.feed) × (list_of H (Events w) ≡ list_of G (Events w)))
          → list_of H (Events w) ≡ list_of G (Events w) ++ e.body ∷ []
      go (inl k) = k.1
      go (inr k) = absurd (k.0 (sym here))

  pub all_orders_same : (v : ℕ) → ◌≡◌ {A = ℕ → List Body} (λ a. list_of H (Orders a v)) (λ a. list_of G (Orders a v))
  all_orders_same v = λ i a. orders_same a v i

  pub given_same : (v : ℕ) → ◌≡◌ {A = ℕ → ℕ} (λ a. length (list_of H (Orders a v))) (λ a. length (list_of G (Orders a v)))
  given_same v = λ i a. length (orders_same a v i)
