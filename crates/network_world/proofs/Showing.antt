-- What a world shows.
use Rattle.std.proofs.Common.{◌≡◌, ◌≢◌, ◌∷◌, ◌<◌, ◌≤◌, ◌+◌, ◌^◌, ◌++◌, ◌∙◌, [], ℕ, List, None, Some, ap, append-nil}
use Rattle.std.proofs.Common.{append_assoc, arith, flat_map, length, map, refl, subst, sym}
use Rattle.std.proofs.lemmas.Bool.{lt-ltb}
use Rattle.std.proofs.lemmas.Grind.{flat_map-append}
use Rattle.std.proofs.lemmas.List.{length-take-le, map-append}
use Rattle.std.proofs.lemmas.List.Elements.{filter-append}
use Rattle.std.specs.Prelude.{filter, nat_lt}
use Rattle.model_laws.proofs.Numbers.{below_more}
use Rattle.lemmas.proofs.Options.{some_same}
use Rattle.base_types.specs.declared.FeedCount.{FeedCount}
use Rattle.base_types.specs.declared.NodePart.{NodePart}
use Rattle.base_types.specs.declared.PairCount.{PairCount}
use Rattle.base_types.specs.declared.ReportParts.{ReportParts}
use Rattle.model.specs.Types.{Body, Entry, Events, Feed, Net, Orders, Start, WorldStep}
use Rattle.model.specs.Words.{below}
use Rattle.model.specs.Network.{node_count}
use Rattle.model.specs.History.{list_of}
use Rattle.model.specs.Forwarding.{feeds}
use Rattle.model.specs.World as model
use Rattle.model.specs.World.{empty_world, run, view_at}
use Rattle.model.specs.Sound.{IsSound}
use Rattle.symphony_view.specs.Listings.{listing_of}
use Rattle.agent_core.specs.Nodes.{NodeState, view_in}
use Rattle.network_world.specs.Stations.{Lane, Station, WorldState, lane_of, station_of}
use Rattle.network_world.specs.Standing.{IsReached, IsWorld, NodeStandsFor, StandsFor}
use Rattle.network_world.specs.Lanes as spec
use Rattle.network_world.specs.Parts.{held_at, held_by, node_part, pair, pairs_among, pairs_from, parts_of}
use Rattle.network_world.specs.declared.lanes.Lane as raw
use Rattle.network_world.proofs.Delivering.{lane_there}
use Rattle.network_world.proofs.Taking.{SentLaw}

-- a lane that is shown is the one that was sent
pub lane_shown : (s : WorldState) (x : model.World) (a b : ℕ) (r : raw.Lane) → StandsFor s x → a < node_count s.net
    → b < node_count s.net → Some (spec.seen r) ≡ lane_of s a b
    → (r.packets.items ≡ x.packets a b) × (r.reached ≡ x.reached a b)
lane_shown s x a b r old in_a in_b is =
    let l = lane_there s x a b old in_a in_b in
    let same : spec.seen r ≡ l.0 = some_same (spec.seen r) l.0 (is ∙ l.1) in (
      ap (λ (m : Lane). m.packets) same ∙ l.2.packets_,
      ap (λ (m : Lane). m.reached) same ∙ l.2.reached_,
    )

pub no_lane_shown : (s : WorldState) (x : model.World) (a b : ℕ) → StandsFor s x → a < node_count s.net
    → b < node_count s.net → None ≡ lane_of s a b → ⊥
no_lane_shown s x a b old in_a in_b is =
    let l = lane_there s x a b old in_a in_b in
    none_some l.0 (is ∙ l.1)
  where
    none_some : (l : Lane) → None ≡ Some l → ⊥
    none_some l e = cc

-- it has fewer packets than a field tells
pub lane_short : (s : WorldState) (a b : ℕ) (r : raw.Lane) → SentLaw
    → ((net : Net) (x : model.World) → IsReached net x → (c d : ℕ) → length (x.packets c d) ≤ x.sent) → IsWorld s
    → node_count s.net ≤ 256 → a < node_count s.net → b < node_count s.net → Some (spec.seen r) ≡ lane_of s a b
    → length r.packets.items < 2 ^ 32
lane_short s a b r sent short is few in_a in_b lane =
    let x = is.world in
    let old = is.stands in
    omega (
      arith,
      few,
      sent s.net x old.reached,
      short s.net x old.reached a b,
      ap length (lane_shown s x a b r old in_a in_b lane).0,
    )

-- the node of a workstation
pub node_shown : (s : WorldState) (x : model.World) (w : ℕ) (t : Station) → StandsFor s x → station_of s w ≡ Some t
    → NodeStandsFor s.net x w t.node
node_shown s x w t old at_w = (old.stations_ w t at_w).node_

-- pairs with packets
abbrev pub pair_with : ℕ → ℕ → ℕ → PairCount
pair_with a b n = record { from = a; to = b; count = n }

abbrev pub feed_with : Feed → ℕ → FeedCount
feed_with f n = record { feed = f; count = n }

abbrev pub part_with : ℕ → List FeedCount → List ℕ → NodePart
part_with w holds listing = record { ws = w; holds = holds; listing = listing }

abbrev pub parts_with : List Entry → List Start → List PairCount → List NodePart → ReportParts
parts_with events starts packets nodes =
    record { events = events; starts = starts; packets = packets; nodes = nodes }

pub pair_none : (x : model.World) (a b count : ℕ) → count ≡ length (x.packets a b) → count ≡ 0
    → pairs_from x a (b ∷ []) ≡ []
pair_none x a b count is none =
    ap (λ (n : ℕ). filter (λ (p : PairCount). nat_lt 0 p.count) (pair_with a b n ∷ []))
    (sym is ∙ none)

one_pair : (p : PairCount) → 0 < p.count → filter (λ (q : PairCount). nat_lt 0 q.count) (p ∷ []) ≡ p ∷ []
one_pair p h = rw (lt-ltb 0 p.count h) refl

pub pair_some : (x : model.World) (a b count : ℕ) → count ≡ length (x.packets a b) → count ≢ 0
    → pairs_from x a (b ∷ []) ≡ pair_with a b count ∷ []
pair_some x a b count is some =
    let p : PairCount = pair x a b in
    one_pair p (omega (arith, is, some))
    ∙ ap (λ (n : ℕ). pair_with a b n ∷ []) (sym is)

pairs_append : (x : model.World) (a : ℕ) (bs cs : List ℕ) → pairs_from x a (bs ++ cs) ≡ pairs_from x a bs ++ pairs_from x a cs
pairs_append x a bs cs =
    ap (filter (λ (p : PairCount). nat_lt 0 p.count)) (map-append (pair x a) bs cs)
    ∙ filter-append (λ (p : PairCount). nat_lt 0 p.count) (map (pair x a) bs) (map (pair x a) cs)

pub pairs_next : (x : model.World) (a b : ℕ) (old mid new : List PairCount)
    → mid ≡ old ++ pairs_from x a (below b) → new ≡ mid ++ pairs_from x a (b ∷ [])
    → new ≡ old ++ pairs_from x a (below (b + 1))
pairs_next x a b old mid new before now =
    now ∙ ap (λ (l : List PairCount). l ++ pairs_from x a (b ∷ [])) before
    ∙ append_assoc old (pairs_from x a (below b)) (pairs_from x a (b ∷ []))
    ∙ ap (λ (l : List PairCount). old ++ l)
    (sym (pairs_append x a (below b) (b ∷ [])) ∙ ap (pairs_from x a) (sym (below_more b)))

pub rows_next : (x : model.World) (n a : ℕ) (mid new : List PairCount)
    → mid ≡ flat_map (λ c. pairs_from x c (below n)) (below a) → new ≡ mid ++ pairs_from x a (below n)
    → new ≡ flat_map (λ c. pairs_from x c (below n)) (below (a + 1))
rows_next x n a mid new before now =
    now ∙ ap (λ (l : List PairCount). l ++ pairs_from x a (below n)) before
    ∙ ap (λ (l : List PairCount). flat_map (λ c. pairs_from x c (below n)) (below a) ++ l)
    (sym (append-nil (pairs_from x a (below n))))
    ∙ sym (flat_map-append (λ c. pairs_from x c (below n)) (below a) (a ∷ []))
    ∙ ap (flat_map (λ c. pairs_from x c (below n))) (sym (below_more a))

-- feeds with entries
pub feed_none : (node : NodeState) (f : Feed) (count : ℕ) → count ≡ length (list_of node.kept f) → count ≡ 0
    → held_by node (f ∷ []) ≡ []
feed_none node f count is none =
    ap (λ (n : ℕ). filter (λ (c : FeedCount). nat_lt 0 c.count) (feed_with f n ∷ []))
    (sym is ∙ none)

one_feed : (c : FeedCount) → 0 < c.count → filter (λ (d : FeedCount). nat_lt 0 d.count) (c ∷ []) ≡ c ∷ []
one_feed c h = rw (lt-ltb 0 c.count h) refl

-- of orders that nobody typed at a none are held
pub orders_none : (node : NodeState) (a : ℕ) → ((w : ℕ) → list_of node.kept (Orders a w) ≡ []) → (ws : List ℕ)
    → held_by node (map (Orders a) ws) ≡ []
orders_none node a nothing [] = refl
orders_none node a nothing (w ∷ ws) =
    ap
    (λ (l : List Body). filter (λ (c : FeedCount). nat_lt 0 c.count)
    (feed_with (Orders a w) (length l) ∷ map (λ f. feed_with f (length (list_of node.kept f))) (map (Orders a) ws)))
    (nothing w)
    ∙ orders_none node a nothing ws

pub feed_some : (node : NodeState) (f : Feed) (count : ℕ) → count ≡ length (list_of node.kept f) → count ≢ 0
    → held_by node (f ∷ []) ≡ feed_with f count ∷ []
feed_some node f count is some =
    let c : FeedCount = feed_with f (length (list_of node.kept f)) in
    one_feed c (omega (arith, is, some)) ∙ ap (λ (n : ℕ). feed_with f n ∷ []) (sym is)

pub held_append : (node : NodeState) (fs gs : List Feed) → held_by node (fs ++ gs) ≡ held_by node fs ++ held_by node gs
held_append node fs gs =
    ap (filter (λ (c : FeedCount). nat_lt 0 c.count))
    (map-append (λ f. feed_with f (length (list_of node.kept f))) fs gs)
    ∙ filter-append (λ (c : FeedCount). nat_lt 0 c.count)
    (map (λ f. feed_with f (length (list_of node.kept f))) fs)
    (map (λ f. feed_with f (length (list_of node.kept f))) gs)

pub feeds_next : (node : NodeState) (fs gs : List Feed) (old mid new : List FeedCount) → mid ≡ old ++ held_by node fs
    → new ≡ mid ++ held_by node gs → new ≡ old ++ held_by node (fs ++ gs)
feeds_next node fs gs old mid new before now =
    now ∙ ap (λ (l : List FeedCount). l ++ held_by node gs) before
    ∙ append_assoc old (held_by node fs) (held_by node gs)
    ∙ ap (λ (l : List FeedCount). old ++ l) (sym (held_append node fs gs))

pub mapped_more : (f : ℕ → Feed) (w : ℕ) → map f (below (w + 1)) ≡ map f (below w) ++ f w ∷ []
mapped_more f w = ap (map f) (below_more w) ∙ map-append f (below w) (w ∷ [])

pub feeds_mapped_next : (node : NodeState) (f : ℕ → Feed) (w : ℕ) (old mid new : List FeedCount)
    → mid ≡ old ++ held_by node (map f (below w)) → new ≡ mid ++ held_by node (f w ∷ [])
    → new ≡ old ++ held_by node (map f (below (w + 1)))
feeds_mapped_next node f w old mid new before now =
    feeds_next node (map f (below w)) (f w ∷ []) old mid new before now
    ∙ ap (λ (l : List Feed). old ++ held_by node l) (sym (mapped_more f w))

pub feeds_rows_next : (node : NodeState) (n a : ℕ) (old mid new : List FeedCount)
    → mid ≡ old ++ held_by node (flat_map (λ b. map (Orders b) (below n)) (below a))
    → new ≡ mid ++ held_by node (map (Orders a) (below n))
    → new ≡ old ++ held_by node (flat_map (λ b. map (Orders b) (below n)) (below (a + 1)))
feeds_rows_next node n a old mid new before now =
    feeds_next node (flat_map (λ b. map (Orders b) (below n)) (below a)) (map (Orders a) (below n)) old mid new before
    now
    ∙ ap (λ (l : List Feed). old ++ held_by node l)
    (ap (λ (l : List Feed). flat_map (λ b. map (Orders b) (below n)) (below a) ++ l)
    (sym (append-nil (map (Orders a) (below n))))
    ∙ sym (flat_map-append (λ b. map (Orders b) (below n)) (below a) (a ∷ []))
    ∙ ap (flat_map (λ b. map (Orders b) (below n))) (sym (below_more a)))

pub feeds_all : (node : NodeState) (counts mid new : List FeedCount) → counts ≡ []
    → mid ≡ counts ++ held_by node (map Events (below (node_count node.net)))
    → new
    ≡ mid ++ held_by node
    (flat_map (λ a. map (Orders a) (below (node_count node.net))) (below (node_count node.net)))
    → new ≡ held_by node (feeds node.net)
unfolding feeds
feeds_all node counts mid new none events orders =
    feeds_next node (map Events (below (node_count node.net)))
    (flat_map (λ a. map (Orders a) (below (node_count node.net))) (below (node_count node.net))) counts mid new events
    orders
    ∙ ap (λ (l : List FeedCount). l ++ held_by node
    (map Events (below (node_count node.net))
    ++ flat_map (λ a. map (Orders a) (below (node_count node.net))) (below (node_count node.net)))) none

-- what is told of a workstation
pub held_count : (net : Net) (x : model.World) (w : ℕ) (node : NodeState)
    → ((v : ℕ) (f : Feed) → x.holdings v f ≤ length (list_of x.history f)) → NodeStandsFor net x w node → (f : Feed)
    → length (list_of node.kept f) ≡ x.holdings w f
held_count net x w node within h f =
    ap length (h.kept_.holds_them f) ∙ length-take-le (x.holdings w f) (list_of x.history f) (within w f)

pub held_shown : (net : Net) (x : model.World) (w : ℕ) (node : NodeState)
    → ((v : ℕ) (f : Feed) → x.holdings v f ≤ length (list_of x.history f)) → NodeStandsFor net x w node
    → held_by node (feeds node.net) ≡ held_at net x w
held_shown net x w node within h =
    λ i. filter (λ (c : FeedCount). nat_lt 0 c.count)
    (map (λ (f : Feed). feed_with f (held_count net x w node within h f i)) (feeds (h.net_ i)))

pub listing_shown : (net : Net) (x : model.World) (w : ℕ) (node : NodeState) → NodeStandsFor net x w node
    → listing_of node.net (view_in node) ≡ listing_of net (view_at x w)
listing_shown net x w node h = λ i. listing_of (h.net_ i) (held i)
  where
    held : view_in node ≡ view_at x w
    held = λ i f. h.kept_.holds_them f i

pub part_shown : (net : Net) (x : model.World) (w : ℕ) (node : NodeState) (holds : List FeedCount) (listing : List ℕ)
    → ((v : ℕ) (f : Feed) → x.holdings v f ≤ length (list_of x.history f)) → NodeStandsFor net x w node
    → holds ≡ held_by node (feeds node.net) → listing ≡ listing_of net (view_at x w)
    → part_with w holds listing ≡ node_part net x w
part_shown net x w node holds listing within h is lists =
    λ i. part_with w ((is ∙ held_shown net x w node within h) i) (lists i)

pub parts_next : (net : Net) (x : model.World) (w : ℕ) (mid new : List NodePart) (part : NodePart)
    → mid ≡ map (node_part net x) (below w) → part ≡ node_part net x w → new ≡ mid ++ part ∷ []
    → new ≡ map (node_part net x) (below (w + 1))
parts_next net x w mid new part before here now =
    now ∙ ap (λ (l : List NodePart). l ++ part ∷ []) before
    ∙ ap (λ (p : NodePart). map (node_part net x) (below w) ++ p ∷ []) here
    ∙ sym (map-append (node_part net x) (below w) (w ∷ []))
    ∙ ap (map (node_part net x)) (sym (below_more w))

-- the history of a world is sound
pub sound_here : (s : WorldState) → IsWorld s
    → ((net : Net) (steps : List WorldStep)
    → IsSound net (run net steps empty_world).history (run net steps empty_world).starts)
    → IsSound s.net s.journal.history s.journal.starts
sound_here s is law =
    let old = is.stands in
    subst (λ (G : List Entry). IsSound s.net G s.journal.starts) (sym old.journal_.history_)
    (subst (λ (l : List Start). IsSound s.net is.world.history l) (sym old.journal_.starts_)
    (subst (λ (x : model.World). IsSound s.net x.history x.starts) (sym old.reached.by_them)
    (law s.net old.reached.steps)))

-- and has few entries and starts
pub few_entries_here : (s : WorldState) → IsWorld s
    → ((net : Net) (steps : List WorldStep) → length (run net steps empty_world).history ≤ 200000)
    → length s.journal.history ≤ 200000
few_entries_here s is law =
    let old = is.stands in
    subst (λ (G : List Entry). length G ≤ 200000) (sym old.journal_.history_)
    (subst (λ (x : model.World). length x.history ≤ 200000) (sym old.reached.by_them) (law s.net old.reached.steps))

pub few_starts_here : (s : WorldState) → IsWorld s
    → ((net : Net) (steps : List WorldStep) → length (run net steps empty_world).starts ≤ 200000)
    → length s.journal.starts ≤ 200000
few_starts_here s is law =
    let old = is.stands in
    subst (λ (l : List Start). length l ≤ 200000) (sym old.journal_.starts_)
    (subst (λ (x : model.World). length x.starts ≤ 200000) (sym old.reached.by_them) (law s.net old.reached.steps))

-- all parts
pub all_parts : (s : WorldState) (x : model.World) (events : List Entry) (starts : List Start) (packets : List PairCount)
    (nodes : List NodePart) → StandsFor s x → events ≡ s.journal.history → starts ≡ s.journal.starts
    → packets ≡ pairs_among x (node_count s.net) → nodes ≡ map (node_part s.net x) (below (node_count s.net))
    → parts_with events starts packets nodes ≡ parts_of s.net x
all_parts s x events starts packets nodes old is_history are_starts are_packets are_nodes =
    λ i. parts_with ((is_history ∙ old.journal_.history_) i) ((are_starts ∙ old.journal_.starts_) i) (are_packets i)
    (are_nodes i)
