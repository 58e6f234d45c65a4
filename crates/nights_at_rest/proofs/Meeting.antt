-- Rounds of running nodes are rounds of frames, and so they come to rest.
use Rattle.std.proofs.Common.{[], ◌++◌, ◌+◌, ◌<◌, ◌≤◌, ◌≡◌, ◌∙◌, ◌∷◌, ◌⊎◌, ℕ, List, Some, ap, append_assoc, arith, inl, inr, length, refl, subst, suc, sym, true, zero}
use Rattle.std.proofs.lemmas.Bool.{eq-eqb}
use Rattle.std.proofs.lemmas.List.{append_cancel_left}
use Rattle.std.proofs.lemmas.List.Concat.{flat_map-append}
use Rattle.std.specs.List.{AllByRecursion, list_all}
use Rattle.std.specs.Prelude.{◌&&◌, slice_get}
use Rattle.lemmas.proofs.Lists.{all_left, all_right}
use Rattle.lemmas.proofs.Options.{some_is}
use Rattle.composer_parser.specs.declared.Defs.{Defs}
use Rattle.model.specs.Types.{Entry, Events, Net, Packet, Take, Turn}
use Rattle.model.specs.Invariant.{Invariant}
use Rattle.model.specs.Kept.{HasKept}
use Rattle.model.specs.Network.{IsTree, are_neighbours, node_count}
use Rattle.model.specs.PresentNet.{present_net}
use Rattle.model.specs.Sessions.{Session}
use Rattle.model.specs.Words.{nth}
use Rattle.model.specs.World.{World, view_at}
use Rattle.model_laws.proofs.PresentNets.{by_tree}
use Rattle.mail_frames.specs.declared.frames.Frame.{Frame}
use Rattle.mail_frames.specs.Spelling.{frame_bytes}
use Rattle.workload_defs.specs.Nets.{net_of}
use Rattle.agent_core.specs.Nodes.{present_in, view_in}
use Rattle.node_inputs.specs.Traces.{Event}
use Rattle.network_runs.specs.Happenings.{Does, Night, kept_at}
use Rattle.network_runs.proofs.Carrying.{IsFrameIn, ReadLaw}
use Rattle.network_runs.proofs.Members.{IsIn, contains_of, in_either, in_of}
use Rattle.network_runs.proofs.Reading.{read_law}
use Rattle.network_runs.proofs.Worlds.{invariant}
use Rattle.rest_laws.specs.Gains.{gained}
use Rattle.rest_laws.specs.Leads.{next_packet}
use Rattle.rest_laws.specs.Left.{bound_of}
use Rattle.rest_laws.specs.Rest.{HasDoneItsWork, IsAtRest, net_at}
use Rattle.rest_laws.specs.Rounds.{AreLinked, IsAmong}
use Rattle.rest_laws.specs.Short.{are_answers_short, can_count, has_short_answer}
use Rattle.rest_laws.specs.ToRest.{AlwaysShort}
use Rattle.rest_laws.proofs.KeptWhole.{kept_whole}
use Rattle.rest_laws.proofs.Shorts.{always_short}
use Rattle.rest_laws.proofs.Taken.{count_at}
use Rattle.nights_at_rest.specs.Frames.{AreFrameRounds, BeginAtRestBut, ComesIn, IsFrameRound, Stretch}
use Rattle.nights_at_rest.specs.NodeRounds.{AreNodeRounds, AreNodesLinked, IsInside, IsNodeRound, IsSentIn, NodesRestBut, RestsBy, behind_round}
use Rattle.nights_at_rest.specs.Passes.{ArePasses, HearsFrom, Pass, StandBetween, happened, happened_in}
use Rattle.nights_at_rest.specs.Still.{Nodes, NodesStandFor, have_short_answers}
use Rattle.nights_at_rest.proofs.Few.{few as few_rounds}
use Rattle.nights_at_rest.proofs.Going.{IsShortFrom, PostedIn, StandsAt, Went, at_of, between_of, passes_stand, passes_went, posted_in_on}
use Rattle.nights_at_rest.proofs.Hearing.{brings_it, named}
use Rattle.nights_at_rest.proofs.Arriving.{Delivers}
use Rattle.nights_at_rest.proofs.Posts.{near_low}
use Rattle.nights_at_rest.proofs.Ways.{stretch_on}

-- a packet behind those that were there is one of the new ones
new_one : {X : Type 0} (xs ys : List X) (k : ℕ) (x : X) → 1 + length xs ≤ k → nth (xs ++ ys) k ≡ Some x → IsIn x ys
new_one xs ys zero x low there = absurd (omega (arith, low))
new_one xs ys (suc i) x low there = go xs ys i (omega (arith, low)) there
  where
    found : {X : Type 0} (ys : List X) (i : ℕ) (x : X) → slice_get ys i ≡ Some x → IsIn x ys
    found [] i x there = cc
    found (y ∷ ys) zero x there = inl (some_is there)
    found (y ∷ ys) (suc i) x there = inr (found ys i x there)

    go : {X : Type 0} {x : X} (xs ys : List X) (i : ℕ) → length xs ≤ i → slice_get (xs ++ ys) i ≡ Some x → IsIn x ys
    go {X} {x} [] ys i low there = found ys i x there
    go (z ∷ xs) ys zero low there = absurd (omega (arith, low))
    go (z ∷ xs) ys (suc i) low there = go xs ys i (omega (arith, low)) there

-- the neighbours that nodes have in the world
module _ (defs : Defs) (tree : IsTree (net_of defs)) (nodes : Nodes) (x : World) (stand : NodesStandFor defs nodes x) where
  present_is : (n : ℕ) → n < node_count (net_of defs) → present_in (nodes n).node ≡ net_at (net_of defs) x n
  present_is n n_in = λ i. present_net ((stand n n_in).net_ i) (view i)
    where
      view : view_in (nodes n).node ≡ view_at x n
      view = λ i f. (stand n n_in).kept_.holds_them f i

  pub linked_of : AreNodesLinked defs nodes → AreLinked (net_of defs) x
  linked_of linked n m n_in near =
      let ends = linked n m n_in (subst (λ (N : Net). are_neighbours N n m ≡ true) (sym (present_is n n_in)) near) in
      let m_in : m < node_count (net_of defs) =
      subst (λ (c : ℕ). m < c) (count_at (net_of defs) x n)
      (near_low (net_at (net_of defs) x n) n m (by_tree (net_of defs) (view_at x n (Events 0)) tree)
      (subst (λ (c : ℕ). n < c) (sym (count_at (net_of defs) x n)) n_in) near) in (
        subst (λ (s : Session). s.links m ≡ true) (stand n n_in).session_ ends.0,
        subst (λ (s : Session). s.links n ≡ true) (stand m m_in).session_ ends.1,
      )

module _ (defs : Defs) (tree : IsTree (net_of defs)) (few : node_count (net_of defs) ≤ 65536) (reads : ℕ → ℕ) where
  abbrev pub law : ReadLaw (net_of defs)
  law = read_law (net_of defs) few

  -- one round
  module _ (night : Night) (old new : Nodes) (x : World) (at : StandsAt defs night old x)
      (short : IsShortFrom defs tree few law reads x) (r : IsNodeRound defs reads night old new) where
    front_inside : AllByRecursion (IsInside reads) (r.turning ++ r.arriving)
    front_inside = all_left (IsInside reads) (r.turning ++ r.arriving) r.answering r.each

    pub one : Went defs reads night (happened r.turning) r.turning old r.turned x
    one =
        passes_went defs tree few law reads r.turning night old r.turned x at short
        (all_left (IsInside reads) r.turning r.arriving front_inside) r.to_turned

    pub two : Went defs reads (night ++ happened r.turning) (happened r.arriving) r.arriving r.turned r.arrived one.world
    two =
        passes_went defs tree few law reads r.arriving (night ++ happened r.turning) r.turned r.arrived one.world one.at
        (λ y s. short y (stretch_on (net_of defs) reads x one.world y one.stretch s).whole)
        (all_right (IsInside reads) r.turning r.arriving front_inside) r.to_arrived

    abbrev pub to_two : Stretch (net_of defs) reads x two.world
    to_two = (stretch_on (net_of defs) reads x one.world two.world one.stretch two.stretch).whole

    pub three : Went defs reads ((night ++ happened r.turning) ++ happened r.arriving) (happened r.answering) r.answering r.arrived new
        two.world
    three =
        passes_went defs tree few law reads r.answering ((night ++ happened r.turning) ++ happened r.arriving) r.arrived new
        two.world two.at (λ y s. short y (stretch_on (net_of defs) reads x two.world y to_two s).whole)
        (all_right (IsInside reads) (r.turning ++ r.arriving) r.answering r.each) r.to_end

    -- a frame of a packet that stands in a world comes where it is delivered
    module _ (a b : ℕ) (p : Packet) (f : Frame) where
      comes_by : (night : Night) (nodes : Nodes) (z : World) → StandsAt defs night nodes z → IsIn p (z.packets a b)
          → IsFrameIn z.history p f → (u v : World) (s : Stretch (net_of defs) reads u v)
          → Delivers (net_of defs) reads b a u v s f → ComesIn (net_of defs) reads u v s a b p
      comes_by night nodes z zat sent its u v s d =
          d.comes z p (brings_it z a b (law.reads z zat.reached zat.written) p f f d.heard d.input sent its refl d.stands d.is)

      -- what was heard in two or three stretches was heard in one of them
      in_two : (h : HearsFrom (old b) (r.arrived b) a f)
          → IsIn f (one.hears b a).more ⊎ IsIn f (two.hears b a).more
      in_two h =
          in_either f (one.hears b a).more (two.hears b a).more (subst (IsIn f) same (in_of f h.more h.among))
        where
          same : h.more ≡ (one.hears b a).more ++ (two.hears b a).more
          same =
              append_cancel_left ((old b).heard a).frames h.more ((one.hears b a).more ++ (two.hears b a).more)
              (sym h.grows ∙ (two.hears b a).grows ∙ ap (λ k. k ++ (two.hears b a).more) (one.hears b a).grows
              ∙ append_assoc ((old b).heard a).frames (one.hears b a).more (two.hears b a).more)

      in_three : (h : HearsFrom (old b) (new b) a f)
          → IsIn f (one.hears b a).more ⊎ (IsIn f (two.hears b a).more ⊎ IsIn f (three.hears b a).more)
      in_three h =
          elim (in_either f (one.hears b a).more ((two.hears b a).more ++ (three.hears b a).more)
          (subst (IsIn f) same (in_of f h.more h.among))) [
            | inl k ↦ inl k
            | inr k ↦ inr (in_either f (two.hears b a).more (three.hears b a).more k)
          ]
        where
          same : h.more ≡ (one.hears b a).more ++ ((two.hears b a).more ++ (three.hears b a).more)
          same =
              append_cancel_left ((old b).heard a).frames h.more ((one.hears b a).more ++ ((two.hears b a).more ++ (three.hears b a).more))
              (sym h.grows ∙ (three.hears b a).grows ∙ ap (λ k. k ++ (three.hears b a).more) (two.hears b a).grows
              ∙ append_assoc ((r.turned b).heard a).frames (two.hears b a).more (three.hears b a).more
              ∙ ap (λ k. k ++ ((two.hears b a).more ++ (three.hears b a).more)) (one.hears b a).grows
              ∙ append_assoc ((old b).heard a).frames (one.hears b a).more ((two.hears b a).more ++ (three.hears b a).more))

    in_world : (y : World) (a b k : ℕ) (p : Packet) → nth (y.packets a b) k ≡ Some p → IsIn p (y.packets a b)
    in_world y a b k p there = found (y.packets a b) k there
      where
        found : (ps : List Packet) (k : ℕ) → nth ps k ≡ Some p → IsIn p ps
        found ps zero there = cc
        found ps (suc i) there = new_one [] ps (suc i) p (omega arith) there

    sent_of : (a b k : ℕ) (p : Packet) → next_packet x a b ≤ k → nth (one.world.packets a b) k ≡ Some p
        → ComesIn (net_of defs) reads x one.world one.stretch a b p ⊎ ComesIn (net_of defs) reads one.world two.world two.stretch a b p
    sent_of a b k p low there =
        let new_ : IsIn p (one.posts a b).rest =
        new_one (x.packets a b) (one.posts a b).rest k p low
        (subst (λ (ps : List Packet). nth ps k ≡ Some p) (one.posts a b).more there) in
        let its = (one.posts a b).each p new_ in
        elim (in_two a b p its.0 (r.sent a b its.0 (contains_of _ (happened r.turning) its.2))) [
          | inl i ↦ inl (comes_by a b p its.0 _ r.turned one.world one.at (in_world one.world a b k p there) its.1 x one.world one.stretch
              ((one.hears b a).comes its.0 i))
          | inr i ↦ inr (comes_by a b p its.0 _ r.turned one.world one.at (in_world one.world a b k p there) its.1 one.world two.world
              two.stretch ((two.hears b a).comes its.0 i))
        ]

    answers_of : (a b k : ℕ) (p : Packet) → next_packet x a b ≤ k → nth (two.world.packets a b) k ≡ Some p
        → ComesIn (net_of defs) reads x one.world one.stretch a b p
        ⊎ (ComesIn (net_of defs) reads one.world two.world two.stretch a b p
        ⊎ ComesIn (net_of defs) reads two.world three.world three.stretch a b p)
    answers_of a b k p low there =
        let posts : PostedIn two.world a b (x.packets a b) (two.world.packets a b) (happened r.turning ++ happened r.arriving) =
        posted_in_on one.world two.world a b (x.packets a b) (one.world.packets a b) (two.world.packets a b) (happened r.turning)
        (happened r.arriving) two.more two.history_ (one.posts a b) (two.posts a b) in
        let new_ : IsIn p posts.rest =
        new_one (x.packets a b) posts.rest k p low (subst (λ (ps : List Packet). nth ps k ≡ Some p) posts.more there) in
        let its = posts.each p new_ in
        let sent : IsSentIn (r.turning ++ r.arriving) a b its.0 =
        contains_of _ (happened (r.turning ++ r.arriving))
        (subst (IsIn (Does a (Event.Sends (record { to = b; bytes = frame_bytes its.0; ok = true }))))
        (sym (flat_map-append happened_in r.turning r.arriving)) its.2) in
        elim (in_three a b p its.0 (r.answers a b its.0 sent)) [
          | inl i ↦ inl (comes_by a b p its.0 _ r.arrived two.world two.at (in_world two.world a b k p there) its.1 x one.world one.stretch
              ((one.hears b a).comes its.0 i))
          | inr (inl i) ↦ inr (inl (comes_by a b p its.0 _ r.arrived two.world two.at (in_world two.world a b k p there) its.1 one.world
              two.world two.stretch ((two.hears b a).comes its.0 i)))
          | inr (inr i) ↦ inr (inr (comes_by a b p its.0 _ r.arrived two.world two.at (in_world two.world a b k p there) its.1 two.world
              three.world three.stretch ((three.hears b a).comes its.0 i)))
        ]

    abbrev pub end_of : World
    end_of = three.world

    pub is_round : IsFrameRound (net_of defs) reads x three.world
    is_round = record {
      turned = one.world;
      arrived = two.world;
      turning = one.stretch;
      arriving = two.stretch;
      answering = three.stretch;
      linked = linked_of defs tree old x at.nodes_ r.linked;
      turns = λ n n_in.
          let p = r.turns n n_in in
          subst (λ (v : ℕ). IsAmong (Take v (Turn (reads v))) one.stretch.steps) p.2
          (one.turned p.0 (in_of p.0 r.turning p.1));
      sent = sent_of;
      answers = answers_of;
    }

    pub round_went : Stretch (net_of defs) reads x three.world
    round_went = (stretch_on (net_of defs) reads x two.world three.world to_two three.stretch).whole

    pub stands_behind : StandsAt defs (behind_round defs reads night old new r) new three.world
    stands_behind = three.at

  -- a night at rest
  pub rests_by : (night : Night) (nodes : Nodes) (x : World) → StandsAt defs night nodes x
      → IsAtRest (net_of defs) reads x × HasDoneItsWork (net_of defs) reads x → RestsBy defs reads night nodes
  rests_by night nodes x at rest = (
    x,
    between_of defs night nodes x at,
    record {
      rest = rest.0;
      work = rest.1;
      disks =
          kept_whole (net_of defs) x (λ w. kept_at w night)
          (λ w w_in. subst (λ (k : List Entry). HasKept (net_of defs) x w k) (at.disks w w_in) (at.nodes_ w w_in).kept_) reads tree
          (invariant (net_of defs) x at.reached) rest.0;
    },
  )

  -- so many rounds of nodes are so many of frames
  record Rounds (k : ℕ) (night : Night) (old new : Nodes) (x : World) (r : AreNodeRounds defs reads k night old new) : Type 0 where
    pub end_ : World
    pub rounds : AreFrameRounds (net_of defs) reads k x end_
    pub tells : (n : ℕ) → BeginAtRestBut n (net_of defs) reads k x end_ rounds → NodesRestBut n defs reads k night old new r

  rounds_of : (k : ℕ) (night : Night) (old new : Nodes) (x : World) → StandsAt defs night old x
      → IsShortFrom defs tree few law reads x → (r : AreNodeRounds defs reads k night old new) → Rounds k night old new x r
  rounds_of zero night old new x at short r = record { end_ = x; rounds = refl; tells = λ n h. tt }
  rounds_of (suc k) night old new x at short r =
      one_more
      (rounds_of k (behind_round defs reads night old r.0 r.1) r.0 new (end_of night old r.0 x at short r.1)
      (stands_behind night old r.0 x at short r.1)
      (λ y s. short y (stretch_on (net_of defs) reads x (end_of night old r.0 x at short r.1) y
      (round_went night old r.0 x at short r.1) s).whole) r.2)
    where
      one_more : Rounds k (behind_round defs reads night old r.0 r.1) r.0 new (end_of night old r.0 x at short r.1) r.2
          → Rounds (suc k) night old new x r
      one_more later = record {
        end_ = later.end_;
        rounds = (end_of night old r.0 x at short r.1, is_round night old r.0 x at short r.1, later.rounds);
        tells = tells;
      }
        where
          tells : (n : ℕ)
              → BeginAtRestBut n (net_of defs) reads (suc k) x later.end_
              (end_of night old r.0 x at short r.1, is_round night old r.0 x at short r.1, later.rounds)
              → NodesRestBut n defs reads (suc k) night old new r
          tells zero h = (rests_by night old x at h.0, later.tells zero h.1)
          tells (suc n) (inl h) = inl (rests_by night old x at h.0, later.tells (suc n) h.1)
          tells (suc n) (inr h) = inr (later.tells n h)

  pub nodes_rest : (k n : ℕ) (night : Night) (old new : Nodes) (x : World) → StandBetween defs night old x
      → have_short_answers defs night ≡ true → bound_of (net_of defs) (λ w. reads w ∷ []) x ≤ gained (net_of defs) x + n
      → (r : AreNodeRounds defs reads k night old new) → NodesRestBut n defs reads k night old new r
  unfolding are_answers_short
  nodes_rest k n night old new x s short low r =
      let all = rounds_of k night old new x at shorts_from r in
      all.tells n (few_rounds (net_of defs) reads k n x all.end_ tree inv low all.rounds)
    where
      at : StandsAt defs night old x
      at = at_of defs night old x tree few s

      inv : Invariant (net_of defs) x
      inv = invariant (net_of defs) x at.reached

      shorts : are_answers_short (net_of defs) x ≡ true
      shorts =
          subst
          (λ (G : List Entry). (can_count (node_count (net_of defs)) && list_all (λ (e : Entry). has_short_answer e.body) G) ≡ true)
          (sym at.history_) short

      always : AlwaysShort (net_of defs) (λ w. reads w ∷ []) x
      always = always_short (net_of defs) (λ w. reads w ∷ []) x inv (named (net_of defs) x at.reached) shorts

      shorts_from : IsShortFrom defs tree few law reads x
      shorts_from y s w w_in =
          always y (record { steps = s.steps; keep = s.keep; taken = s.taken }) w (reads w) w_in
          (rw (eq-eqb (reads w) (reads w) refl) refl)

  -- whatever passes there are, the night still stands for a world
  pub passes_between : (ps : List Pass) (night : Night) (old new : Nodes) (x : World) → StandBetween defs night old x
      → ArePasses defs night ps old new → (y : World) × StandBetween defs (night ++ happened ps) new y
  passes_between ps night old new x s h =
      let it = passes_stand defs tree few law reads ps night old new x (at_of defs night old x tree few s) h in
      (it.0, between_of defs (night ++ happened ps) new it.0 it.1)
