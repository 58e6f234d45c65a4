-- Passes, one behind the other, are a stretch of the world of their night.
use Rattle.std.proofs.Common.{[], ◌++◌, ◌<◌, ◌≤◌, ◌≡◌, ◌≢◌, ◌∙◌, ◌∷◌, ◌⊎◌, ℕ, Bool, List, ap, append_assoc, false, inl, inr, subst, sym, true}
use Rattle.std.proofs.lemmas.Bool.Decides.{eqb_tells}
use Rattle.std.proofs.lemmas.List.{append-nil}
use Rattle.std.proofs.lemmas.List.Elements.{filter_map-append}
use Rattle.std.specs.List.{AllByRecursion}
use Rattle.std.specs.Prelude.{◌==◌, Contains, filter_map, map}
use Rattle.composer_parser.specs.declared.Defs.{Defs}
use Rattle.model.specs.Types.{Entry, Packet, Take, Turn}
use Rattle.model.specs.Network.{IsTree, node_count}
use Rattle.model.specs.StepFaults.{is_too_long}
use Rattle.model.specs.Words.{with_at}
use Rattle.model.specs.World.{World}
use Rattle.mail_frames.specs.declared.frames.Frame.{Frame}
use Rattle.mail_frames.specs.Spelling.{frame_bytes}
use Rattle.workload_defs.specs.Nets.{net_of}
use Rattle.node_inputs.specs.Traces.{Event, Trace, kept}
use Rattle.node_loop.specs.Runs.{Running}
use Rattle.network_world.specs.Standing.{NodeStandsFor}
use Rattle.network_runs.specs.Happenings.{Does, Night, kept_at, kept_in, made, of_its_maker, of_workstation}
use Rattle.network_runs.specs.Nights.{IsForNodes, IsSent, IsWritten}
use Rattle.network_runs.proofs.Carrying.{AreWritten, IsCarried, IsFrameIn, ReadLaw, brings, carried_on, frame_grows}
use Rattle.network_runs.proofs.Counting.{apart, together}
use Rattle.network_runs.proofs.Members.{IsIn, contains_of, in_either, in_left, in_of, in_right}
use Rattle.network_runs.proofs.Worlds.{IsReached}
use Rattle.rest_laws.specs.Rounds.{IsAmong}
use Rattle.rest_laws.specs.ToRest.{would_keep}
use Rattle.nights_at_rest.specs.Frames.{Stretch}
use Rattle.nights_at_rest.specs.NodeRounds.{IsInside}
use Rattle.nights_at_rest.specs.Passes.{ArePasses, HearsFrom, Pass, Passes, StandBetween, happened, happened_in}
use Rattle.nights_at_rest.specs.Still.{Nodes, NodesStandFor}
use Rattle.nights_at_rest.proofs.Hearing.{carried}
use Rattle.nights_at_rest.proofs.Arriving.{HeardOf, delivers_on}
use Rattle.nights_at_rest.proofs.Passing.{PassWay, pass_way}
use Rattle.nights_at_rest.proofs.Staying.{Stays, pass_stays, way_stays}
use Rattle.nights_at_rest.proofs.Ways.{JoinedStretch, in_own, kept_at_here, kept_at_there, made_is, own_of, parts_same, stretch_none, stretch_on}

-- the night so far stands for this world, with each node between two passes
pub record StandsAt (defs : Defs) (night : Night) (nodes : Nodes) (x : World) : Type 0 where
  pub reached : IsReached (net_of defs) x
  pub history_ : x.history ≡ made night
  pub written : AreWritten x.history
  pub sent_ : (a b : ℕ) (bytes : List ℕ) (ok : Bool) → IsIn (Does a (Event.Sends (record { to = b; bytes = bytes; ok = ok }))) night
      → (g : Frame) × IsCarried x a b g × (bytes ≡ frame_bytes g)
  pub nodes_ : NodesStandFor defs nodes x
  pub disks : (w : ℕ) → w < node_count (net_of defs) → (nodes w).node.kept ≡ kept_at w night

pub at_of : (defs : Defs) (night : Night) (nodes : Nodes) (x : World) → IsTree (net_of defs) → node_count (net_of defs) ≤ 65536
    → StandBetween defs night nodes x → StandsAt defs night nodes x
at_of defs night nodes x tree few s =
    let r : IsReached (net_of defs) x = record { steps = s.steps; by_them = s.by_them } in
    record {
      reached = r;
      history_ = s.history_;
      written = λ e k. s.written e (contains_of e (made night) (subst (IsIn e) s.history_ k));
      sent_ = λ a b bytes ok k.
          carried (net_of defs) tree few x r a b bytes (s.sent_ a b bytes ok (contains_of _ night k));
      nodes_ = s.nodes_;
      disks = s.disks;
    }

pub between_of : (defs : Defs) (night : Night) (nodes : Nodes) (x : World) → StandsAt defs night nodes x
    → StandBetween defs night nodes x
between_of defs night nodes x s = record {
  steps = s.reached.steps;
  by_them = s.reached.by_them;
  history_ = s.history_;
  written = λ e k. s.written e (subst (IsIn e) (sym s.history_) (in_of e (made night) k));
  sent_ = λ a b bytes ok k. let it = s.sent_ a b bytes ok (in_of _ night k) in brings x a b it.0 bytes it.1 it.2;
  nodes_ = s.nodes_;
  disks = s.disks;
}

-- what is new from a to b: each packet with a frame that a sent in this part of the night
pub record PostedIn (y : World) (a b : ℕ) (old new : List Packet) (part : Night) : Type 0 where
  pub rest : List Packet
  pub more : new ≡ old ++ rest
  pub each : (p : Packet) → IsIn p rest
      → (f : Frame) × IsFrameIn y.history p f
      × IsIn (Does a (Event.Sends (record { to = b; bytes = frame_bytes f; ok = true }))) part

pub posted_in_on : (y z : World) (a b : ℕ) (l m n : List Packet) (front back : Night) (more : List Entry)
    → z.history ≡ y.history ++ more → PostedIn y a b l m front → PostedIn z a b m n back → PostedIn z a b l n (front ++ back)
posted_in_on y z a b l m n front back more history g h = record {
  rest = g.rest ++ h.rest;
  more = h.more ∙ ap (λ k. k ++ h.rest) g.more ∙ append_assoc l g.rest h.rest;
  each = λ p k. both p (in_either p g.rest h.rest k);
}
  where
    both : (p : Packet) → IsIn p g.rest ⊎ IsIn p h.rest
        → (f : Frame) × IsFrameIn z.history p f
        × IsIn (Does a (Event.Sends (record { to = b; bytes = frame_bytes f; ok = true }))) (front ++ back)
    both p (inl i) =
        let it = g.each p i in (
          it.0,
          subst (λ (G : List Entry). IsFrameIn G p it.0) (sym history) (frame_grows y.history more p it.0 it.1),
          in_left _ front back it.2,
        )
    both p (inr i) = let it = h.each p i in (it.0, it.1, in_right _ front back it.2)

-- passes have led from x here
pub record Went (defs : Defs) (reads : ℕ → ℕ) (night : Night) (part : Night) (ps : List Pass) (old new : Nodes) (x : World) : Type 0 where
  pub world : World
  pub stretch : Stretch (net_of defs) reads x world
  pub at : StandsAt defs (night ++ part) new world
  pub more : List Entry
  pub history_ : world.history ≡ x.history ++ more
  pub turned : (p : Pass) → IsIn p ps → IsAmong (Take p.ws (Turn (reads p.ws))) stretch.steps
  pub hears : (b a : ℕ) → HeardOf (net_of defs) reads b x world stretch (old b) (new b) a
  pub posts : (a b : ℕ) → PostedIn world a b (x.packets a b) (world.packets a b) part

made_on : (front back : Night) → made (front ++ back) ≡ made front ++ made back
made_on front back =
    ap (filter_map of_its_maker) (filter_map-append kept_in front back)
    ∙ filter_map-append of_its_maker (filter_map kept_in front) (filter_map kept_in back)

kept_at_on : (w : ℕ) (front back : Night) → kept_at w (front ++ back) ≡ kept_at w front ++ kept_at w back
kept_at_on w front back =
    ap (filter_map (of_workstation w)) (filter_map-append kept_in front back)
    ∙ filter_map-append (of_workstation w) (filter_map kept_in front) (filter_map kept_in back)

same_event : {v w : ℕ} {a b : Event} → Does v a ≡ Does w b → a ≡ b
same_event q = cc

same_place : {v w : ℕ} {a b : Event} → Does v a ≡ Does w b → v ≡ w
same_place q = cc

-- an event of a pass
pub in_pass : (w a : ℕ) (event : Event) (trace : Trace) → IsIn (Does a event) (map (Does w) trace) → (w ≡ a) × IsIn event trace
in_pass w a event [] h = absurd h
in_pass w a event (e ∷ trace) (inl q) = (same_place q, inl (same_event q))
in_pass w a event (e ∷ trace) (inr k) = let it = in_pass w a event trace k in (it.0, inr it.1)

pub pass_has : (w : ℕ) (event : Event) (trace : Trace) → IsIn event trace → IsIn (Does w event) (map (Does w) trace)
pass_has w event [] h = absurd h
pass_has w event (e ∷ trace) (inl q) = inl (ap (Does w) q)
pass_has w event (e ∷ trace) (inr k) = inr (pass_has w event trace k)

-- one pass
module _ (defs : Defs) (tree : IsTree (net_of defs)) (few : node_count (net_of defs) ≤ 65536) (law : ReadLaw (net_of defs))
    (reads : ℕ → ℕ) where
  abbrev pub IsShortFrom : World → Type 0
  IsShortFrom x =
      (y : World) → Stretch (net_of defs) reads x y → (w : ℕ) → w < node_count (net_of defs)
      → is_too_long (would_keep (net_of defs) y w (reads w)) ≡ false

  -- behind whatever pass of a workstation
  module _ (night : Night) (p : Pass) (old new : Nodes) (x y : World) (after : Running) (at : StandsAt defs night old x)
      (ws_in : p.ws < node_count (net_of defs)) (stays : Stays (net_of defs) p.ws x y (old p.ws).node after.node p.trace)
      (becomes : new ≡ with_at p.ws after old) (written : (e : Entry) → Contains (kept p.trace) e → IsWritten e) where
    new_here : new p.ws ≡ after
    new_here = ap (λ (n : Nodes). n p.ws) becomes ∙ together p.ws after (old p.ws)

    new_there : (v : ℕ) → v ≢ p.ws → new v ≡ old v
    new_there v other = ap (λ (n : Nodes). n v) becomes ∙ apart v p.ws after (old v) (λ e. other (sym e))

    abbrev part : Night
    part = happened_in p

    other_stands : (v : ℕ) → v ≢ p.ws → v < node_count (net_of defs) → NodeStandsFor (net_of defs) y v (new v).node
    other_stands v other v_in =
        subst (λ (n : Running). NodeStandsFor (net_of defs) y v n.node) (sym (new_there v other)) (record {
          net_ = (at.nodes_ v v_in).net_;
          me_ = (at.nodes_ v v_in).me_;
          kept_ = stays.grows.others at.reached v other (old v).node.kept (at.nodes_ v v_in).kept_;
          session_ = (at.nodes_ v v_in).session_ ∙ sym (stays.grows.sessions_ v other);
        })

    stands : NodesStandFor defs new y
    stands v v_in =
        elim (eqb_tells v p.ws) [
          | inl t ↦ subst (λ (u : ℕ). NodeStandsFor (net_of defs) y u (new u).node) (sym t.1)
              (subst (λ (n : Running). NodeStandsFor (net_of defs) y p.ws n.node) (sym new_here) stays.here)
          | inr t ↦ other_stands v t.1 v_in
        ]

    disk_here : (new p.ws).node.kept ≡ kept_at p.ws (night ++ part)
    disk_here =
        ap (λ (n : Running). n.node.kept) new_here ∙ stays.disk
        ∙ parts_same (at.disks p.ws ws_in) (sym (kept_at_here p.ws p.trace))
        ∙ sym (kept_at_on p.ws night part)

    disk_there : (v : ℕ) → v ≢ p.ws → (p.ws == v) ≡ false → v < node_count (net_of defs)
        → (new v).node.kept ≡ kept_at v (night ++ part)
    disk_there v other apart_ v_in =
        ap (λ (n : Running). n.node.kept) (new_there v other) ∙ at.disks v v_in ∙ sym (append-nil (kept_at v night))
        ∙ ap (λ l. kept_at v night ++ l) (sym (kept_at_there p.ws v p.trace apart_)) ∙ sym (kept_at_on v night part)

    turned_eq : (v : ℕ) → v ≢ p.ws → (p.ws == v) ≡ false
    turned_eq v other = elim (eqb_tells p.ws v) [ inl t ↦ absurd (other (sym t.1)) | inr t ↦ t.0 ]

    disk : (v : ℕ) → v < node_count (net_of defs) → (new v).node.kept ≡ kept_at v (night ++ part)
    disk v v_in =
        elim (eqb_tells v p.ws) [
          | inl t ↦ subst (λ (u : ℕ). (new u).node.kept ≡ kept_at u (night ++ part)) (sym t.1) disk_here
          | inr t ↦ disk_there v t.1 (turned_eq v t.1) v_in
        ]

    sent : (a b : ℕ) (bytes : List ℕ) (ok : Bool)
        → IsIn (Does a (Event.Sends (record { to = b; bytes = bytes; ok = ok }))) night
        ⊎ IsIn (Does a (Event.Sends (record { to = b; bytes = bytes; ok = ok }))) part
        → (g : Frame) × IsCarried y a b g × (bytes ≡ frame_bytes g)
    sent a b bytes ok (inl k) =
        let c = at.sent_ a b bytes ok k in (c.0, carried_on (net_of defs) x y p.ws a b c.0 stays.grows c.1, c.2)
    sent a b bytes ok (inr k) =
        let e = in_pass p.ws a (Event.Sends (record { to = b; bytes = bytes; ok = ok })) p.trace k in
        let c = stays.sent_ (record { to = b; bytes = bytes; ok = ok }) e.1 in
        (c.0, subst (λ (v : ℕ). IsCarried y v b c.0) e.0 c.1, c.2)

    history : y.history ≡ made (night ++ part)
    history =
        stays.history_ ∙ parts_same at.history_ (sym (made_is p.ws p.trace)) ∙ sym (made_on night part)

    pub stands_next : StandsAt defs (night ++ part) new y
    stands_next = record {
      reached = stays.grows.reached at.reached;
      history_ = history;
      written = λ e k.
          elim (in_either e x.history (own_of p.ws (kept p.trace)) (subst (IsIn e) stays.history_ k)) [
            | inl i ↦ at.written e i
            | inr i ↦ written e (contains_of e (kept p.trace) (in_own p.ws e (kept p.trace) i))
          ];
      sent_ = λ a b bytes ok k. sent a b bytes ok (in_either _ night part k);
      nodes_ = stands;
      disks = disk;
    }

  -- what is heard in it was sent
  pub heard_sent : (night : Night) (p : Pass) (old new : Nodes) (x : World) → StandsAt defs night old x
      → (h : Passes defs night p old new) → (a : ℕ) (f : Frame) → HearsFrom (old p.ws) h.after a f → IsForNodes f
      → (g : Frame) × IsCarried x a p.ws g × (frame_bytes f ≡ frame_bytes g)
  heard_sent night p old new x at h a f hears for =
      let sent : IsSent night a p.ws f = h.hears a f hears for in
      at.sent_ a p.ws (frame_bytes f) sent.0 (in_of _ night sent.1)

  pub passes_stand : (ps : List Pass) (night : Night) (old new : Nodes) (x : World) → StandsAt defs night old x
      → ArePasses defs night ps old new → (y : World) × StandsAt defs (night ++ happened ps) new y
  passes_stand [] night old new x at h = (
    x,
    subst (λ (n : Nodes). StandsAt defs (night ++ []) n x) (sym h)
        (subst (λ (l : Night). StandsAt defs l old x) (sym (append-nil night)) at),
  )
  passes_stand (p ∷ ps) night old new x at h =
      let first = pass_stays defs (net_of defs) tree few law p.ws x at.reached at.written (old p.ws) (at.nodes_ p.ws h.1.ws_in) p.trace
      h.1.after (λ a f hears for. heard_sent night p old h.0 x at h.1 a f hears for) h.1.turn in
      let behind : StandsAt defs (night ++ happened_in p) h.0 first.0 =
      stands_next night p old h.0 x first.0 h.1.after at h.1.ws_in first.1 h.1.then_ h.1.written in
      let rest = passes_stand ps (night ++ happened_in p) h.0 new first.0 behind h.2 in (
        rest.0,
        subst (λ (l : Night). StandsAt defs l new rest.0) (append_assoc night (happened_in p) (happened ps)) rest.1,
      )

  -- a pass in which nothing comes from outside
  module _ (night : Night) (p : Pass) (old new : Nodes) (x : World) (at : StandsAt defs night old x) (inside : IsInside reads p)
      (short : IsShortFrom x) (h : Passes defs night p old new) where
    it : PassWay (net_of defs) reads p.ws x (old p.ws) h.after p.trace
    it =
        pass_way defs tree few law reads p.ws h.ws_in x at.reached at.written (old p.ws) (at.nodes_ p.ws h.ws_in) p.trace
        h.after inside.each inside.stands (λ e k. h.written e (contains_of e (kept p.trace) k))
        (λ a f hears for. heard_sent night p old new x at h a f hears for) (λ y s. short y s p.ws h.ws_in) h.turn

    abbrev its_part : Night
    its_part = happened_in p

    stay : Stays (net_of defs) p.ws x it.world (old p.ws).node h.after.node p.trace
    stay = way_stays (net_of defs) reads p.ws x it.world (old p.ws).node h.after.node p.trace it.way

    is_here : new p.ws ≡ h.after
    is_here = new_here night p old new x it.world h.after at h.ws_in stay h.then_ h.written

    is_there : (v : ℕ) → v ≢ p.ws → new v ≡ old v
    is_there v other = new_there night p old new x it.world h.after at h.ws_in stay h.then_ h.written v other

    hears_of : (b a : ℕ) → ((b == p.ws) ≡ true) × (b ≡ p.ws) ⊎ ((b == p.ws) ≡ false) × (b ≢ p.ws)
        → HeardOf (net_of defs) reads b x it.world it.way.stretch (old b) (new b) a
    hears_of b a (inl t) =
        subst (λ (v : ℕ). HeardOf (net_of defs) reads v x it.world it.way.stretch (old v) (new v) a) (sym t.1)
        (subst (λ (n : Running). HeardOf (net_of defs) reads p.ws x it.world it.way.stretch (old p.ws) n a) (sym is_here)
        (it.hears a))
    hears_of b a (inr t) = record {
      more = [];
      grows = ap (λ (n : Running). (n.heard a).frames) (is_there b t.1) ∙ sym (append-nil ((old b).heard a).frames);
      comes = λ f k. absurd k;
    }

    posts_of : (a b : ℕ) → ((a == p.ws) ≡ true) × (a ≡ p.ws) ⊎ ((a == p.ws) ≡ false) × (a ≢ p.ws)
        → PostedIn it.world a b (x.packets a b) (it.world.packets a b) its_part
    posts_of a b (inl t) =
        subst (λ (v : ℕ). PostedIn it.world v b (x.packets v b) (it.world.packets v b) its_part) (sym t.1) (record {
          rest = (it.way.posts b).rest;
          more = (it.way.posts b).more;
          each = λ q k. let e = (it.way.posts b).each q k in (e.0, e.1, pass_has p.ws _ p.trace e.2);
        })
    posts_of a b (inr t) = record {
      rest = [];
      more = it.way.lanes a b t.1 ∙ sym (append-nil (x.packets a b));
      each = λ q k. absurd k;
    }

    pub pass_went : Went defs reads night its_part (p ∷ []) old new x
    pass_went = record {
      world = it.world;
      stretch = it.way.stretch;
      at = stands_next night p old new x it.world h.after at h.ws_in stay h.then_ h.written;
      more = own_of p.ws (kept p.trace);
      history_ = it.way.history_;
      turned = λ q k.
          elim k [
            | inl e ↦ subst (λ (q : Pass). IsAmong (Take q.ws (Turn (reads q.ws))) it.way.stretch.steps) e it.turned
            | inr none ↦ absurd none
          ];
      hears = λ b a. hears_of b a (eqb_tells b p.ws);
      posts = λ a b. posts_of a b (eqb_tells a p.ws);
    }

  heard_on : (b a : ℕ) (x y z : World) (s : Stretch (net_of defs) reads x y) (t : Stretch (net_of defs) reads y z)
      (j : JoinedStretch (net_of defs) reads x y z s t) (l m n : Running) → HeardOf (net_of defs) reads b x y s l m a
      → HeardOf (net_of defs) reads b y z t m n a → HeardOf (net_of defs) reads b x z j.whole l n a
  heard_on b a x y z s t j l m n g h = record {
    more = g.more ++ h.more;
    grows = h.grows ∙ ap (λ k. k ++ h.more) g.grows ∙ append_assoc (l.heard a).frames g.more h.more;
    comes = λ f k.
        elim (in_either f g.more h.more k) [
          | inl i ↦ delivers_on (net_of defs) reads b a x y x z s j.whole f j.first (g.comes f i)
          | inr i ↦ delivers_on (net_of defs) reads b a y z x z t j.whole f j.then_ (h.comes f i)
        ];
  }

  pub went_on : (night front back : Night) (ps qs : List Pass) (old middle new : Nodes) (x : World)
      → (g : Went defs reads night front ps old middle x) → Went defs reads (night ++ front) back qs middle new g.world
      → Went defs reads night (front ++ back) (ps ++ qs) old new x
  went_on night front back ps qs old middle new x g h =
      let j = stretch_on (net_of defs) reads x g.world h.world g.stretch h.stretch in
      record {
        world = h.world;
        stretch = j.whole;
        at = subst (λ (n : Night). StandsAt defs n new h.world) (append_assoc night front back) h.at;
        more = g.more ++ h.more;
        history_ = h.history_ ∙ ap (λ l. l ++ h.more) g.history_ ∙ append_assoc x.history g.more h.more;
        turned = λ p k.
            elim (in_either p ps qs k) [
              | inl i ↦ j.among_first (Take p.ws (Turn (reads p.ws))) (g.turned p i)
              | inr i ↦ j.among_then (Take p.ws (Turn (reads p.ws))) (h.turned p i)
            ];
        hears = λ b a.
            heard_on b a x g.world h.world g.stretch h.stretch j (old b) (middle b) (new b) (g.hears b a) (h.hears b a);
        posts = λ a b.
            posted_in_on g.world h.world a b (x.packets a b) (g.world.packets a b) (h.world.packets a b) front back h.more
            h.history_ (g.posts a b) (h.posts a b);
      }

  went_none : (night : Night) (old new : Nodes) (x : World) → new ≡ old → StandsAt defs night old x → Went defs reads night [] [] old new x
  went_none night old new x same at =
      subst (λ (n : Nodes). Went defs reads night [] [] old n x) (sym same) (record {
        world = x;
        stretch = stretch_none (net_of defs) reads x;
        at = subst (λ (n : Night). StandsAt defs n old x) (sym (append-nil night)) at;
        more = [];
        history_ = sym (append-nil x.history);
        turned = λ p k. absurd k;
        hears = λ b a. record { more = []; grows = sym (append-nil ((old b).heard a).frames); comes = λ f k. absurd k };
        posts = λ a b. record { rest = []; more = sym (append-nil (x.packets a b)); each = λ p k. absurd k };
      })

  pub passes_went : (ps : List Pass) (night : Night) (old new : Nodes) (x : World) → StandsAt defs night old x → IsShortFrom x
      → AllByRecursion (IsInside reads) ps → ArePasses defs night ps old new → Went defs reads night (happened ps) ps old new x
  passes_went [] night old new x at short inside h = went_none night old new x h at
  passes_went (p ∷ ps) night old new x at short inside h =
      let first : Went defs reads night (happened_in p) (p ∷ []) old h.0 x = pass_went night p old h.0 x at inside.0 short h.1 in
      let rest : Went defs reads (night ++ happened_in p) (happened ps) ps h.0 new first.world =
      passes_went ps (night ++ happened_in p) h.0 new first.world first.at
      (λ y s. short y (stretch_on (net_of defs) reads x first.world y first.stretch s).whole) inside.1 h.2 in
      went_on night (happened_in p) (happened ps) (p ∷ []) ps old h.0 new x first rest
