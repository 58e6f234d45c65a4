-- What a report of a world of the definitions is made of.
use Rattle.std.specs.Prelude.{◌≡◌, ◌<◌, ℕ, List, filter, flat_map, length, map, nat_lt}
use Rattle.base_types.specs.declared.FeedCount.{FeedCount}
use Rattle.base_types.specs.declared.NodePart.{NodePart}
use Rattle.base_types.specs.declared.PairCount.{PairCount}
use Rattle.base_types.specs.declared.ReportParts.{ReportParts}
use Rattle.model.specs.Types.{Events, Feed, Net}
use Rattle.model.specs.Words.{below}
use Rattle.model.specs.Network.{node_count}
use Rattle.model.specs.History.{list_of}
use Rattle.model.specs.Forwarding.{feeds}
use Rattle.model.specs.World.{World, view_at}
use Rattle.symphony_view.specs.Listings.{listing_of}
use Rattle.agent_core.specs.Nodes.{NodeState}

-- how many packets went from a to b
abbrev pub pair : World → ℕ → ℕ → PairCount
pair x a b = record { from = a; to = b; count = length (x.packets a b) }

-- to each of these, where any went
abbrev pub pairs_from : World → ℕ → List ℕ → List PairCount
pairs_from x a bs = filter (λ (p : PairCount). nat_lt 0 p.count) (map (pair x a) bs)

-- from each of the first n workstations to each of them, where any went
abbrev pub pairs_among : World → ℕ → List PairCount
pairs_among x n = flat_map (λ a. pairs_from x a (below n)) (below n)

-- how many entries of these feeds a node holds, where it holds any
abbrev pub held_by : NodeState → List Feed → List FeedCount
held_by node fs =
    filter (λ (c : FeedCount). nat_lt 0 c.count)
    (map (λ f. record { feed = f; count = length (list_of node.kept f) }) fs)

-- how many entries of each feed w holds, where it holds any
abbrev pub held_at : Net → World → ℕ → List FeedCount
held_at net x w =
    filter (λ (c : FeedCount). nat_lt 0 c.count) (map (λ f. record { feed = f; count = x.holdings w f }) (feeds net))

-- what w holds, and the listing of its plan
abbrev pub node_part : Net → World → ℕ → NodePart
node_part net x w = record { ws = w; holds = held_at net x w; listing = listing_of net (view_at x w) }

-- two workstations hold as many events of each workstation of the network
abbrev pub HoldAsMany : Net → World → ℕ → ℕ → Type 0
HoldAsMany net x a b = (w : ℕ) → w < node_count net → x.holdings a (Events w) ≡ x.holdings b (Events w)

-- the entries, the starts, the packets by pairs, and what each workstation holds
abbrev pub parts_of : Net → World → ReportParts
parts_of net x =
    record {
      events = x.history;
      starts = x.starts;
      packets = pairs_among x (node_count net);
      nodes = map (node_part net x) (below (node_count net));
    }
