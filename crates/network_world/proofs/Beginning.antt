-- The world before anything has happened.
use Rattle.std.proofs.Common.{◌≡◌, ◌∷◌, ◌<◌, ◌+◌, ◌++◌, ◌∙◌, [], ℕ, List, None, Some, ap, arith, inl, inr, length}
use Rattle.std.proofs.Common.{length-append, map, refl, subst, suc, sym, zero}
use Rattle.std.proofs.lemmas.Bool.{lt-ltb}
use Rattle.std.proofs.lemmas.List.{length-map}
use Rattle.std.proofs.lemmas.Option.{slice_get-map, slice_get_within}
use Rattle.std.specs.Prelude.{◌⊎◌, IfOk, Result, slice_get}
use Rattle.lemmas.proofs.Options.{map_some}
use Rattle.model.specs.Types.{Entry, Net}
use Rattle.model.specs.Network.{node_count}
use Rattle.model.specs.History.{list_of}
use Rattle.model.specs.Restore.{first_wrong, restore_fault}
use Rattle.model.specs.World.{empty_world, run}
use Rattle.model.specs.Kept.{HasKept}
use Rattle.base_types.specs.declared.NoMemory.{NoMemory}
use Rattle.agent_core.specs.Nodes.{NodeState}
use Rattle.network_world.specs.Stations.{Journal, Lane, Station, WorldState}
use Rattle.network_world.specs.Standing.{IsReached, IsWorld, StandsFor, StationStandsFor}
use Rattle.network_world.specs.Lanes as spec
use Rattle.network_world.specs.Moves.{AreNew, IsAgain, IsNew, IsRestorable}
use Rattle.network_world.specs.declared.lanes.Lane as raw

-- an item of a list that got one more
pub push_cases : {X : Type 0} (xs : List X) (a : X) (i : ℕ) (t : X) → slice_get (xs ++ a ∷ []) i ≡ Some t
    → (slice_get xs i ≡ Some t) ⊎ ((i ≡ length xs) × (t ≡ a))
push_cases [] a zero t e =
    let same : t ≡ a = cc in
    inr (refl, same)
push_cases [] a (suc i) t e = cc
push_cases (x ∷ xs) a zero t e = inl e
push_cases (x ∷ xs) a (suc i) t e =
    elim (push_cases xs a i t e) [
      | inl h ↦ inl h
      | inr h ↦ inr (ap suc h.0, h.1)
    ]

-- lanes and stations one by one
pub lanes_begin : (made : List raw.Lane) → made ≡ [] → spec.AreNew 0 made
lanes_begin made e =
    subst (λ (ls : List raw.Lane). spec.AreNew 0 ls) (sym e) (refl, λ b l h. nothing b l h)
  where
    nothing : (b : ℕ) (l : raw.Lane) → slice_get [] b ≡ Some l
        → spec.seen l ≡ record { packets = []; reached = 0 }
    nothing b l h = cc

pub lanes_next : (i : ℕ) (made new : List raw.Lane) (l : raw.Lane) → spec.AreNew i made
    → spec.seen l ≡ record { packets = []; reached = 0 } → new ≡ made ++ l ∷ [] → spec.AreNew (i + 1) new
lanes_next i made new l h blank is =
    subst (λ (ls : List raw.Lane). spec.AreNew (i + 1) ls) (sym is) (
      omega (arith, h.0, length-append made (l ∷ [])),
      λ b m e.
          elim (push_cases made l b m e) [
            | inl k ↦ h.1 b m k
            | inr k ↦ ap spec.seen k.1 ∙ blank
          ],
    )

pub stations_begin : (net : Net) (stations : List Station) → stations ≡ []
    → (length stations ≡ 0) × ((v : ℕ) (t : Station) → slice_get stations v ≡ Some t → IsNew net v t)
stations_begin net stations e =
    subst (λ (ts : List Station). (length ts ≡ 0)
    × ((v : ℕ) (t : Station) → slice_get ts v ≡ Some t → IsNew net v t)) (sym e) (refl, λ v t h. nothing v t h)
  where
    nothing : (v : ℕ) (t : Station) → slice_get [] v ≡ Some t → IsNew net v t
    nothing v t h = cc

pub stations_next : (net : Net) (w : ℕ) (stations new : List Station) (t : Station) → length stations ≡ w
    → ((v : ℕ) (u : Station) → slice_get stations v ≡ Some u → IsNew net v u) → IsNew net w t
    → new ≡ stations ++ t ∷ []
    → (length new ≡ w + 1) × ((v : ℕ) (u : Station) → slice_get new v ≡ Some u → IsNew net v u)
stations_next net w stations new t count each here is =
    subst (λ (ts : List Station). (length ts ≡ w + 1)
    × ((v : ℕ) (u : Station) → slice_get ts v ≡ Some u → IsNew net v u)) (sym is) (
      omega (arith, count, length-append stations (t ∷ [])),
      λ v u e.
          elim (push_cases stations t v u e) [
            | inl k ↦ each v u k
            | inr k ↦ subst (λ (i : ℕ). IsNew net i u) (sym (k.0 ∙ count))
                (subst (λ (s : Station). IsNew net w s) (sym k.1) here)
          ],
    )

-- a station that is made of a new node and new lanes
pub lanes_seen : (net : Net) (made : List raw.Lane) → spec.AreNew (node_count net) made
    → (length (map spec.seen made) ≡ node_count net)
    × ((b : ℕ) (l : Lane) → slice_get (map spec.seen made) b ≡ Some l → l ≡ record { packets = []; reached = 0 })
lanes_seen net made h = (
  length-map made spec.seen ∙ h.0,
  λ b l e.
      let g = map_some spec.seen (slice_get made b) l (sym (slice_get-map spec.seen made b) ∙ e) in
      sym g.2 ∙ h.1 b g.0 g.1,
)

-- a node of the network is restored from nothing
pub nothing_restores : (net : Net) (w : ℕ) (kept : List Entry) → kept ≡ [] → w < node_count net
    → restore_fault net w kept ≡ None
unfolding restore_fault first_wrong
nothing_restores net w kept e inside =
    subst (λ (l : List Entry). restore_fault net w l ≡ None) (sym e) (rw (lt-ltb w (node_count net) inside) refl)

none_held : (net : Net) (w : ℕ) (kept : List Entry) → kept ≡ [] → w < node_count net
    → HasKept net empty_world w kept
unfolding list_of
none_held net w kept e inside =
    subst (λ (l : List Entry). HasKept net empty_world w l) (sym e)
    (record { holds_them = λ f. refl; is_restored = nothing_restores net w [] refl inside })

none_reached : (net : Net) → IsReached net empty_world
unfolding run
none_reached net = record { steps = []; by_them = refl }

new_station : (net : Net) (w : ℕ) (t : Station) → w < node_count net → IsNew net w t
    → StationStandsFor net empty_world w t
new_station net w t inside h =
    record {
      node_ =
          record {
            net_ = h.node_.net_;
            me_ = h.node_.me_;
            kept_ = none_held net w t.node.kept h.node_.kept_ inside;
            session_ = h.node_.session_;
          };
      lane_count = h.lane_count;
      lanes_ = λ b l e.
          record {
            packets_ = ap (λ (m : Lane). m.packets) (h.lanes_ b l e);
            reached_ = ap (λ (m : Lane). m.reached) (h.lanes_ b l e);
          };
    }

-- the world that is made of new stations
pub new_world : (net : Net) (stations : List Station) (j : Journal) → AreNew net stations
    → j ≡ record { history = []; starts = []; taken = 0; sent = 0; kept = 0 }
    → StandsFor (record { net = net; stations = stations; journal = j }) empty_world
new_world net stations j h is =
    record {
      reached = none_reached net;
      station_count = h.count;
      stations_ = λ w t e.
          new_station net w t (subst (λ (n : ℕ). w < n) h.count (slice_get_within stations w t e)) (h.each w t e);
      journal_ =
          record {
            history_ = ap (λ (k : Journal). k.history) is;
            starts_ = ap (λ (k : Journal). k.starts) is;
            taken_ = ap (λ (k : Journal). k.taken) is;
            sent_ = ap (λ (k : Journal). k.sent) is;
            kept_ = ap (λ (k : Journal). k.kept) is;
          };
    }

pub new_is_world : (net : Net) (stations : List Station) (j : Journal) → AreNew net stations
    → j ≡ record { history = []; starts = []; taken = 0; sent = 0; kept = 0 }
    → IsWorld (record { net = net; stations = stations; journal = j })
new_is_world net stations j h is = record { world = empty_world; stands = new_world net stations j h is }

pub lane_blank : (l : raw.Lane) → l.packets.items ≡ [] → l.reached ≡ 0
    → spec.seen l ≡ record { packets = []; reached = 0 }
lane_blank l none zero_ = λ i. record { packets = none i; reached = zero_ i }

-- a node that begins again from what another holds
pub again_of : (n m : NodeState) (net : Net) (me : ℕ) (kept : List Entry) (r : Result NodeState NoMemory) → n ≡ m
    → net ≡ n.net → me ≡ n.me → kept ≡ n.kept → IfOk r (λ a. IsAgain net me kept a)
    → IfOk r (λ a. IsAgain m.net m.me m.kept a)
again_of n m net me kept r same at_net at_me at_kept h =
    subst (λ (k : NodeState). IfOk r (λ a. IsAgain k.net k.me k.kept a)) same
    (subst (λ (l : List Entry). IfOk r (λ a. IsAgain n.net n.me l a)) at_kept
    (subst (λ (w : ℕ). IfOk r (λ a. IsAgain n.net w kept a)) at_me
    (subst (λ (t : Net). IfOk r (λ a. IsAgain t me kept a)) at_net h)))

pub again_restores : (n m : NodeState) (net : Net) (me : ℕ) (kept : List Entry) → n ≡ m → net ≡ n.net → me ≡ n.me
    → kept ≡ n.kept → restore_fault m.net m.me m.kept ≡ None → restore_fault net me kept ≡ None
again_restores n m net me kept same at_net at_me at_kept h =
    subst (λ (l : List Entry). restore_fault net me l ≡ None) (sym at_kept)
    (subst (λ (w : ℕ). restore_fault net w n.kept ≡ None) (sym at_me)
    (subst (λ (t : Net). restore_fault t n.me n.kept ≡ None) (sym at_net)
    (subst (λ (k : NodeState). restore_fault k.net k.me k.kept ≡ None) (sym same) h)))

-- in a world each node is restored from what it holds
pub stations_restore : (s : WorldState) (w : ℕ) → IsWorld s → (t : Station) → slice_get s.stations w ≡ Some t
    → IsRestorable t
stations_restore s w is t e =
    let node = (is.stands.stations_ w t e).node_ in
    subst (λ (net : Net). restore_fault net t.node.me t.node.kept ≡ None) (sym node.net_)
    (subst (λ (v : ℕ). restore_fault s.net v t.node.kept ≡ None) (sym node.me_) node.kept_.is_restored)
