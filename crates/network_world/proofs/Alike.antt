-- Workstations that hold as many events as one another.
use Rattle.std.proofs.Common.{◌≡◌, ◌⊎◌, ◌<◌, ◌≤◌, ◌+◌, ◌∙◌, ℕ, List, Some, ap, arith, inl, inr, length, map}
use Rattle.std.proofs.Common.{subst, suc, sym, take, zero}
use Rattle.std.proofs.lemmas.Option.{slice_get-map}
use Rattle.std.specs.Prelude.{slice_get}
use Rattle.lemmas.proofs.Options.{map_some, some_same}
use Rattle.lemmas.proofs.Numbers.{below_or_not}
use Rattle.base_types.specs.declared.NodePart.{NodePart}
use Rattle.model.specs.Types.{Events, Feed, Net}
use Rattle.model.specs.Words.{below, numbers_from}
use Rattle.model.specs.Network.{node_count}
use Rattle.model.specs.History.{list_of}
use Rattle.model.specs.Invariant.{Invariant}
use Rattle.model.specs.Locality.{SameEvents}
use Rattle.model.specs.World as model
use Rattle.model.specs.World.{view_at}
use Rattle.rest_laws.proofs.Shown.{outside_none}
use Rattle.agent_core.specs.Nodes.{NodeState}
use Rattle.symphony_view.specs.Listings.{listing_of}
use Rattle.network_world.specs.Parts.{HoldAsMany, node_part}
use Rattle.network_world.specs.Standing.{NodeStandsFor}
use Rattle.network_world.proofs.Showing.{held_count}

-- outside of the network nobody has events
pub alike : (net : Net) (x : model.World) (a b : ℕ) → Invariant net x → HoldAsMany net x a b
    → SameEvents (view_at x a) (view_at x b)
alike net x a b inv same w =
    ap (λ (n : ℕ). take n (list_of x.history (Events w))) (go (below_or_not w (node_count net)))
  where
    go : ((w < node_count net) ⊎ (node_count net ≤ w)) → x.holdings a (Events w) ≡ x.holdings b (Events w)
    go (inl low) = same w low
    go (inr high) =
        let none : length (list_of x.history (Events w)) ≡ 0 = outside_none net x.history w high inv.inside in
        omega (arith, none, inv.within a (Events w), inv.within b (Events w))

-- the counts of one workstation more
pub one_more : (net : Net) (x : model.World) (a b v : ℕ) (one other : NodeState)
    → ((u : ℕ) (f : Feed) → x.holdings u f ≤ length (list_of x.history f)) → NodeStandsFor net x a one
    → NodeStandsFor net x b other
    → length (list_of one.kept (Events v)) ≡ length (list_of other.kept (Events v))
    → ((w : ℕ) → w < v → x.holdings a (Events w) ≡ x.holdings b (Events w)) → (w : ℕ) → w < v + 1
    → x.holdings a (Events w) ≡ x.holdings b (Events w)
one_more net x a b v one other within first second here below w h = go (below_or_not w v)
  where
    go : ((w < v) ⊎ (v ≤ w)) → x.holdings a (Events w) ≡ x.holdings b (Events w)
    go (inl low) = below w low
    go (inr high) =
        subst (λ (u : ℕ). x.holdings a (Events u) ≡ x.holdings b (Events u)) (omega (arith, h, high))
        (sym (held_count net x a one within first (Events v)) ∙ here
        ∙ held_count net x b other within second (Events v))

-- the listing of a part
number_some : (from n i k : ℕ) → slice_get (numbers_from from n) i ≡ Some k → k ≡ from + i
number_some from zero i k e = cc
number_some from (suc n) zero k e = omega (arith, some_same from k e)
number_some from (suc n) (suc i) k e = omega (arith, number_some (from + 1) n i k e)

pub listing_at : (net : Net) (x : model.World) (parts : List NodePart) (w v : ℕ) (part : NodePart)
    → parts ≡ map (node_part net x) (below w) → Some part ≡ slice_get parts v
    → part.listing ≡ listing_of net (view_at x v)
listing_at net x parts w v part are at_v =
    let g = map_some (node_part net x) (slice_get (below w) v) part
    (sym (slice_get-map (node_part net x) (below w) v) ∙ ap (λ (l : List NodePart). slice_get l v) (sym are)
    ∙ sym at_v) in
    ap (λ (p : NodePart). p.listing) (sym g.2)
    ∙ ap (λ (k : ℕ). listing_of net (view_at x k)) (omega (arith, number_some 0 w v g.0 g.1))
