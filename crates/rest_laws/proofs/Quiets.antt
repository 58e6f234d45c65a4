-- What a quiet turn tells: no rule applies, and each linked neighbour has acknowledged all that is passed on to it.
use Rattle.std.proofs.Common.{◌≡◌, ℕ, zero, suc, ◌+◌, ◌-◌, ◌<◌, ◌≤◌, Bool, true, false, ◌&&◌, inl, inr, List, [], ◌∷◌}
use Rattle.std.proofs.Common.{◌++◌, length, take, map, refl, ap, sym, subst, ◌∙◌, arith, Option, Some, None, cond}
use Rattle.std.proofs.lemmas.Bool.Decides.{eqb_tells}
use Rattle.std.specs.List.{AllByRecursion}
use Rattle.std.specs.Prelude.{Ok, Result, filter, flat_map}
use Rattle.lemmas.proofs.Lists.{all_left, all_right}
use Rattle.lemmas.proofs.Options.{map_none}
use Rattle.model.specs.Types.{Entry, Events, Feed, Input, Mail, Net, Orders, Out, Send, Turn}
use Rattle.model.specs.Words.{below, numbers_from}
use Rattle.model.specs.Network.{are_neighbours, node_count}
use Rattle.model.specs.History.{Holding, View, view_with}
use Rattle.model.specs.PresentNet.{present_net}
use Rattle.model.specs.Forwarding.{feeds, forwards, places_beyond, to_send}
use Rattle.model.specs.Turn.{turn_body}
use Rattle.model.specs.Sessions.{next_session}
use Rattle.model.specs.NewEntry.{event_of, makes, next_entry, own_entry}
use Rattle.model.specs.StepFaults.{StepFault, step_fault}
use Rattle.model.specs.Step.{Effect, effect, node_step, outs_of, sends, unless_fault}
use Rattle.model.specs.World.{World, result_map, view_at}
use Rattle.model_laws.proofs.Lists.{all_flat}
use Rattle.rest_laws.specs.Rest.{IsQuiet, leaves, net_at}

-- words on lists
append_none : {A : Type 0} (xs ys : List A) → xs ++ ys ≡ [] → (xs ≡ []) × (ys ≡ [])
append_none [] ys e = (refl, e)
append_none (x ∷ xs) ys e = cc

map_nothing : {A B : Type 0} (f : A → B) (xs : List A) → map f xs ≡ [] → xs ≡ []
map_nothing f [] e = refl
map_nothing f (x ∷ xs) e = cc

take_none : {A : Type 0} (n : ℕ) (xs : List A) → take (suc n) xs ≡ [] → xs ≡ []
take_none n [] e = refl
take_none n (x ∷ xs) e = cc

numbers_none : (from n : ℕ) → numbers_from from n ≡ [] → n ≡ 0
numbers_none from zero e = refl
numbers_none from (suc n) e = cc

flat_none : {A B : Type 0} (f : A → List B) (xs : List A) → flat_map f xs ≡ [] → AllByRecursion (λ a. f a ≡ []) xs
flat_none f [] e = tt
flat_none f (x ∷ xs) e =
    let p : (f x ≡ []) × (flat_map f xs ≡ []) = append_none (f x) (flat_map f xs) e in
    (p.0, flat_none f xs p.1)

pub filter_holds : {A : Type 0} (P : A → Type 0) (p : A → Bool) (xs : List A) → AllByRecursion P (filter p xs)
    → AllByRecursion (λ a. p a ≡ true → P a) xs
filter_holds P p [] h = tt
filter_holds {A} P p (x ∷ xs) h = go (p x) refl h (filter_holds P p xs)
  where
    go : (b : Bool) → p x ≡ b → AllByRecursion P (cond b (x ∷ filter p xs) (filter p xs))
        → (AllByRecursion P (filter p xs) → AllByRecursion (λ (a : A). p a ≡ true → P a) xs)
        → (p x ≡ true → P x) × AllByRecursion (λ (a : A). p a ≡ true → P a) xs
    go true e h more = (λ k. h.0, more h.1)
    go false e h more = (λ k. absurd (clash (sym e ∙ k)), more h)
      where
        clash : false ≡ true → ⊥
        clash k = cc

pub map_holds : {A B : Type 0} (P : B → Type 0) (f : A → B) (xs : List A) → AllByRecursion P (map f xs)
    → AllByRecursion (λ a. P (f a)) xs
map_holds P f [] h = tt
map_holds P f (x ∷ xs) h = (h.0, map_holds P f xs h.1)

pub numbers_hold : (P : ℕ → Type 0) (from n m : ℕ) → AllByRecursion P (numbers_from from n) → from ≤ m → m < from + n
    → P m
numbers_hold P from zero m h low high = absurd (omega (arith, low, high))
numbers_hold P from (suc n) m h low high =
    elim (eqb_tells from m) [
      | inl e ↦ subst P e.1 h.0
      | inr e ↦ numbers_hold P (from + 1) n m h.1 (omega (arith, low, e.1)) (omega (arith, high))
    ]

pub below_holds : (P : ℕ → Type 0) (n m : ℕ) → AllByRecursion P (below n) → m < n → P m
below_holds P n m h low = numbers_hold P 0 n m h (omega arith) (omega (arith, low))

-- a feed of the network
abbrev pub IsFeed : Net → Feed → Type 0
IsFeed net (Events y) = y < node_count net
IsFeed net (Orders a b) = (a < node_count net) × (b < node_count net)

pub feeds_hold : (P : Feed → Type 0) (net : Net) (f : Feed) → AllByRecursion P (feeds net) → IsFeed net f → P f
unfolding feeds
feeds_hold P net (Events y) h inside =
    below_holds (λ y. P (Events y)) (node_count net) y
    (map_holds P Events (below (node_count net)) (all_left P (map Events (below (node_count net))) _ h)) inside
feeds_hold P net (Orders a b) h inside =
    below_holds (λ b. P (Orders a b)) (node_count net) b
    (map_holds P (Orders a) (below (node_count net))
    (below_holds (λ a. AllByRecursion P (map (Orders a) (below (node_count net)))) (node_count net) a
    (all_flat P (λ a. map (Orders a) (below (node_count net))) (below (node_count net))
    (all_right P (map Events (below (node_count net))) _ h)) inside.0)) inside.1

-- nothing to send: all that is passed on is acknowledged
nothing_beyond : (V : View) (acked : Holding) (f : Feed) → places_beyond V acked f ≡ [] → length (V f) ≤ acked f
unfolding places_beyond
nothing_beyond V acked f e =
    let z : length (V f) - acked f ≡ 0 =
    numbers_none (1 + acked f) (length (V f) - acked f)
    (map_nothing (λ p. (f, p)) (numbers_from (1 + acked f) (length (V f) - acked f)) e) in
    omega (arith, z)

all_acked : (net : Net) (V : View) (n m : ℕ) (acked : Holding) → to_send net V n m acked ≡ [] → (f : Feed)
    → IsFeed net f → forwards net V n m f ≡ true → length (V f) ≤ acked f
unfolding to_send
all_acked net V n m acked e f inside passes =
    nothing_beyond V acked f
    (feeds_hold (λ f. forwards net V n m f ≡ true → places_beyond V acked f ≡ []) net f
    (filter_holds (λ f. places_beyond V acked f ≡ []) (forwards net V n m) (feeds net)
    (flat_none (places_beyond V acked) (filter (forwards net V n m) (feeds net))
    (take_none 7 (flat_map (places_beyond V acked) (filter (forwards net V n m) (feeds net))) e)))
    inside passes)

-- a quiet step
inside_ok : {A E : Type 0} (a b : A) → ◌≡◌ {A = Result A E} (Ok a) (Ok b) → a ≡ b
inside_ok a b e = cc

from_ok : (o : Option StepFault) (d : Effect) → result_map leaves (unless_fault o d) ≡ Ok (None, [])
    → (d.made ≡ None) × (d.outs ≡ [])
from_ok None d e =
    let k : leaves d ≡ (None, []) = inside_ok (leaves d) (None, []) e in
    (ap (λ (p : Option Entry × List Out). p.0) k, ap (λ (p : Option Entry × List Out). p.1) k)
from_ok (Some f) d e = cc

module _ (net : Net) (x : World) (w t : ℕ) (quiet : IsQuiet net x w t) where
  nothing_left : ((effect net w (view_at x w) (x.sessions w) (Input.Local (Turn t))).made ≡ None)
      × ((effect net w (view_at x w) (x.sessions w) (Input.Local (Turn t))).outs ≡ [])
  unfolding node_step
  nothing_left =
      from_ok (step_fault (net_at net x w) w (view_at x w) (x.sessions w) (Input.Local (Turn t)))
      (effect net w (view_at x w) (x.sessions w) (Input.Local (Turn t))) quiet

  pub no_rule : turn_body (net_at net x w) (view_at x w) w (x.sessions w).live t ≡ None
  unfolding effect makes own_entry event_of
  no_rule =
      map_none (next_entry (view_at x w) (Events w))
      (turn_body (net_at net x w) (view_at x w) w (x.sessions w).live t) nothing_left.0

  made_here : Option Entry
  made_here = makes (net_at net x w) w (view_at x w) (x.sessions w) (Input.Local (Turn t))

  no_sends : flat_map
      (λ m. map (λ (p : Feed × ℕ). Send m (Mail p.0 p.1)) (to_send (net_at net x w) (view_at x w) w m
      ((x.sessions w).acked m)))
      (filter (λ m. are_neighbours (net_at net x w) w m && (x.sessions w).links m)
      (below (node_count (net_at net x w)))) ≡ []
  unfolding effect outs_of sends next_session view_with made_here
  no_sends =
      subst (λ (o : Option Entry). outs_of (present_net net (view_with (view_at x w) o)) w
      (view_with (view_at x w) o) (next_session (view_at x w) (x.sessions w) (Input.Local (Turn t)) o)
      (Input.Local (Turn t)) o ≡ []) nothing_left.0 nothing_left.1

  pub acked_all : (m : ℕ) → m < node_count (net_at net x w) → are_neighbours (net_at net x w) w m ≡ true
      → (x.sessions w).links m ≡ true → (f : Feed) → IsFeed (net_at net x w) f
      → forwards (net_at net x w) (view_at x w) w m f ≡ true
      → length (view_at x w f) ≤ (x.sessions w).acked m f
  acked_all m low near up f inside passes =
      all_acked (net_at net x w) (view_at x w) w m ((x.sessions w).acked m)
      (map_nothing (λ (p : Feed × ℕ). Send m (Mail p.0 p.1)) (to_send (net_at net x w) (view_at x w) w m
      ((x.sessions w).acked m))
      (below_holds (λ m. (are_neighbours (net_at net x w) w m && (x.sessions w).links m) ≡ true
      → map (λ (p : Feed × ℕ). Send m (Mail p.0 p.1)) (to_send (net_at net x w) (view_at x w) w m
      ((x.sessions w).acked m)) ≡ []) (node_count (net_at net x w)) m
      (filter_holds _ _ (below (node_count (net_at net x w)))
      (flat_none _ _ no_sends)) low (rw (near, up) refl))) f inside passes
