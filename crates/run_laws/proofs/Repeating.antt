-- No launch is started twice.
use Rattle.std.proofs.Common.{[], ◌+◌, ◌++◌, ◌≡◌, ◌≢◌, ◌≤◌, ◌∙◌, ◌∷◌, ℕ, Bool, List, None, Option, Some, ap, append_assoc, arith, false, inl, inr, refl, subst, sym, true}
use Rattle.std.proofs.lemmas.Bool.{eq-eqb}
use Rattle.std.proofs.lemmas.List.Elements.{All-from_recursion}
use Rattle.std.specs.List.{All, AllByRecursion}
use Rattle.std.specs.Prelude.{if◌then◌else◌}
use Rattle.model_laws.proofs.Starts.{launches_one}
use Rattle.lemmas.proofs.Lists.{no_middle, same_head, same_tail}
use Rattle.model.specs.Types.{Body, Entry, Events, Feed, Launched}
use Rattle.model.specs.Equalities.{feed_eq}
use Rattle.model.specs.Facts.{launches}
use Rattle.model.specs.History.{Seen, list_of}
use Rattle.model_laws.proofs.Feeds.{feed_cases, list_of_here}
use Rattle.model_laws.proofs.Growth.{launches-append}
use Rattle.agent_core.specs.Nodes.{NodeState}
use Rattle.node_inputs.specs.Traces.{Event, Trace}
use Rattle.node_inputs.specs.declared.ends.NodeEnd.{NodeEnd}
use Rattle.run_laws.specs.Held.{held_after}
use Rattle.run_laws.specs.Launches.{launch_in, launch_of, launches_kept}
use Rattle.run_laws.proofs.Marks.{Marks}
use Rattle.run_laws.proofs.Keeping.{OfKept}
use Rattle.run_laws.proofs.Made.{IsReadyLaunch}
use Rattle.run_laws.proofs.Growing.{held_more}

-- each differs from all behind it
abbrev pub AreApart : List (ℕ × ℕ) → Type 0
AreApart [] = Unit {0}
AreApart (x ∷ xs) = AllByRecursion (λ y. y ≢ x) xs × AreApart xs

pub apart_at : (xs front back : List (ℕ × ℕ)) (x : ℕ × ℕ) → AreApart xs → xs ≡ front ++ x ∷ back → All (λ y. y ≢ x) back
apart_at [] front back x h split = absurd (no_middle front back x split)
apart_at (y ∷ xs) [] back x h split =
    All-from_recursion (λ z. z ≢ x) back
    (subst (AllByRecursion (λ z. z ≢ x)) (same_tail split)
    (subst (λ (w : ℕ × ℕ). AllByRecursion (λ z. z ≢ w) xs) (same_head split) h.0))
apart_at (y ∷ xs) (z ∷ front) back x h split = apart_at xs front back x h.1 (same_tail split)

-- the launch that an entry is
record IsLaunch (me : ℕ) (e : Entry) (x : ℕ × ℕ) : Type 0 where
  seen : Seen
  its_feed : Events me ≡ e.feed
  its_body : e.body ≡ Launched x.0 x.1 seen

in_body : (b : Body) (x : ℕ × ℕ) → launch_in b ≡ Some x → (seen : Seen) × (b ≡ Launched x.0 x.1 seen)
in_body (Launched j n seen) x h = (seen, subst (λ (y : ℕ × ℕ). Launched j n seen ≡ Launched y.0 y.1 seen) (inside h) refl)
  where
    inside : Some (j, n) ≡ Some x → (j, n) ≡ x
    inside q = cc
in_body b x h = cc

is_launch : (me : ℕ) (e : Entry) (x : ℕ × ℕ) → launch_of me e ≡ Some x → IsLaunch me e x
is_launch me e x h =
    elim (feed_cases (Events me) e.feed) [ inl c ↦ here c.1 c.0 | inr c ↦ absurd (elsewhere c.0) ]
  where
    here : Events me ≡ e.feed → feed_eq (Events me) e.feed ≡ true → IsLaunch me e x
    here same is =
        let t : (seen : Seen) × (e.body ≡ Launched x.0 x.1 seen) =
        in_body e.body x (subst (λ (b : Bool). (if b then launch_in e.body else None) ≡ Some x) is h) in
        record { seen = t.0; its_feed = same; its_body = t.1 }

    elsewhere : feed_eq (Events me) e.feed ≡ false → ⊥
    elsewhere is = clash (subst (λ (b : Bool). (if b then launch_in e.body else None) ≡ Some x) is h)
      where
        clash : None ≡ Some x → ⊥
        clash q = cc

-- a launch counts from then on
one_more : (node : NodeState) (front more : Trace) (e : Entry) (j n : ℕ) (seen : Seen) → Events node.me ≡ e.feed
    → e.body ≡ Launched j n seen
    → 1 + launches j (held_after node front (Events node.me))
    ≤ launches j (held_after node (front ++ Event.Keeps e ∷ more) (Events node.me))
one_more node front more e j n seen same body =
    let it : list_of (e ∷ []) (Events node.me) ≡ Launched j n seen ∷ [] =
    list_of_here e (Events node.me) (eq_feed same) ∙ ap (λ (b : Body). b ∷ []) body in
    rw (held_more node front more e (Events node.me), launches-append, launches-append, it, launches_one) (omega arith)
  where
    eq_feed : Events node.me ≡ e.feed → feed_eq (Events node.me) e.feed ≡ true
    eq_feed h = subst (λ (f : Feed). feed_eq (Events node.me) f ≡ true) h (eq-eqb node.me node.me refl)

module _ (node new : NodeState) (trace : Trace) (end : Option NodeEnd) (h : Marks (OfKept IsReadyLaunch) node trace end new) where
  number : (front back : Trace) (e : Entry) (x : ℕ × ℕ) → trace ≡ front ++ Event.Keeps e ∷ back → IsLaunch node.me e x
      → x.1 ≡ 1 + launches x.0 (held_after node front (Events node.me))
  number front back e x split l = (h.each front (Event.Keeps e) back split x.0 x.1 l.seen (sym l.its_feed) l.its_body).1

  -- a later one is another
  differs : (front middle back : Trace) (e d : Entry) (x y : ℕ × ℕ)
      → trace ≡ front ++ Event.Keeps e ∷ (middle ++ Event.Keeps d ∷ back) → IsLaunch node.me e x → IsLaunch node.me d y → y ≢ x
  differs front middle back e d x y split first second same =
      let n : x.1 ≡ 1 + launches x.0 (held_after node front (Events node.me)) =
      number front (middle ++ Event.Keeps d ∷ back) e x split first in
      let m : y.1 ≡ 1 + launches y.0 (held_after node (front ++ Event.Keeps e ∷ middle) (Events node.me)) =
      number (front ++ Event.Keeps e ∷ middle) back d y
      (split ∙ sym (append_assoc front (Event.Keeps e ∷ middle) (Event.Keeps d ∷ back))) second in
      let k : x.1 ≡ 1 + launches x.0 (held_after node (front ++ Event.Keeps e ∷ middle) (Events node.me)) =
      subst (λ (z : ℕ × ℕ). z.1 ≡ 1 + launches z.0 (held_after node (front ++ Event.Keeps e ∷ middle) (Events node.me))) same m in
      omega (arith, n, k, one_more node front middle e x.0 x.1 first.seen first.its_feed first.its_body)

  later : (front middle rest : Trace) (e : Entry) (x : ℕ × ℕ) → trace ≡ front ++ Event.Keeps e ∷ (middle ++ rest)
      → IsLaunch node.me e x → AllByRecursion (λ y. y ≢ x) (launches_kept node.me rest)
  later front middle [] e x split first = tt
  later front middle (Event.Keeps d ∷ rest) e x split first =
      go (launch_of node.me d) refl
      (later front (middle ++ Event.Keeps d ∷ []) rest e x
      (split ∙ ap (λ (t : Trace). front ++ Event.Keeps e ∷ t) (sym (append_assoc middle (Event.Keeps d ∷ []) rest))) first)
    where
      go : (o : Option (ℕ × ℕ)) → launch_of node.me d ≡ o → AllByRecursion (λ y. y ≢ x) (launches_kept node.me rest)
          → AllByRecursion (λ y. y ≢ x) (launches_kept node.me (Event.Keeps d ∷ rest))
      go None is others = rw is others
      go (Some y) is others = rw is (differs front middle rest e d x y split first (is_launch node.me d y is), others)
  later front middle (event ∷ rest) e x split first =
      later front (middle ++ event ∷ []) rest e x
      (split ∙ ap (λ (t : Trace). front ++ Event.Keeps e ∷ t) (sym (append_assoc middle (event ∷ []) rest))) first

  apart_from : (front rest : Trace) → trace ≡ front ++ rest → AreApart (launches_kept node.me rest)
  apart_from front [] split = tt
  apart_from front (Event.Keeps e ∷ rest) split =
      go (launch_of node.me e) refl (apart_from (front ++ Event.Keeps e ∷ []) rest (split ∙ sym (append_assoc front (Event.Keeps e ∷ []) rest)))
    where
      go : (o : Option (ℕ × ℕ)) → launch_of node.me e ≡ o → AreApart (launches_kept node.me rest)
          → AreApart (launches_kept node.me (Event.Keeps e ∷ rest))
      go None is others = rw is others
      go (Some x) is others = rw is (later front [] rest e x split (is_launch node.me e x is), others)
  apart_from front (event ∷ rest) split =
      apart_from (front ++ event ∷ []) rest (split ∙ sym (append_assoc front (event ∷ []) rest))

  pub launches_apart : AreApart (launches_kept node.me trace)
  launches_apart = apart_from [] trace refl
