-- What the steps of a round send: turns mail, deliveries of mail acknowledgements, and deliveries of those nothing.
use Rattle.std.proofs.Common.{◌≡◌, ◌≢◌, ℕ, ◌+◌, ◌<◌, Bool, true, false, ◌&&◌, ◌||◌, ◌⊎◌, inl, inr}
use Rattle.std.proofs.Common.{List, [], ◌∷◌, ◌++◌, length, map, refl, ap, sym, subst, ◌∙◌, arith, Option, Some, None, cond}
use Rattle.std.proofs.lemmas.Bool.Decides.{eqb_tells}
use Rattle.std.proofs.lemmas.List.{append-nil, append_assoc}
use Rattle.std.specs.List.{AllByRecursion}
use Rattle.std.specs.Option.{option_map_or}
use Rattle.std.specs.Prelude.{filter}
use Rattle.lemmas.proofs.Lists.{all_append, all_map, all_such, flat_all}
use Rattle.model.specs.Types.{Ack, Body, Entry, Events, Feed, Input, Kill, Launch, Launched, Mail, Net, Obeyed, Out, Packet, Send, Turn}
use Rattle.model.specs.Words.{below, some_is}
use Rattle.model.specs.Network.{IsTree, are_neighbours, hop, node_count}
use Rattle.model.specs.History.{View, view_with}
use Rattle.model.specs.Catalogue.{StreamJob, job}
use Rattle.model.specs.Facts.{open_launch}
use Rattle.model.specs.FreeSteps.{recounted}
use Rattle.model.specs.PresentNet.{present_net}
use Rattle.model.specs.NewEntry.{makes}
use Rattle.model.specs.Forwarding.{to_send}
use Rattle.model.specs.Sessions.{Session, next_session}
use Rattle.model.specs.Step.{Effect, effect, outs_of, outs_of_body, sends}
use Rattle.model.specs.Workstations.{ws_in_feed}
use Rattle.model.specs.World.{Origin, World, apply_effect, packets_to, view_at}
use Rattle.model_laws.proofs.Lists.{all_both, all_filter, each_such, is_at-true}
use Rattle.model_laws.proofs.Options.{filter_all}
use Rattle.model_laws.proofs.PresentNets.{by_one, by_tree, no_own_hop, one_count}
use Rattle.model_laws.proofs.Steps.{step_of}
use Rattle.rest_laws.specs.Rest.{net_at}
use Rattle.rest_laws.proofs.Ahead.{low_numbers}

-- two workstations of the network
abbrev pub Near : Net → ℕ → ℕ → Type 0
Near net a b = (a < node_count net) × (b < node_count net) × (a ≢ b)

abbrev pub FeedIsIn : Net → Feed → Type 0
FeedIsIn net f = AllByRecursion (λ w. w < node_count net) (ws_in_feed f)

abbrev pub IsMail : Packet → Type 0
IsMail (Mail f k) = Unit {0}
IsMail (Ack f n) = ⊥

abbrev pub IsAck : Net → Packet → Type 0
IsAck net (Mail f k) = ⊥
IsAck net (Ack f n) = FeedIsIn net f

abbrev pub IsNone : Packet → Type 0
IsNone p = ⊥

-- what was sent from x to y: packets of this kind, between workstations of the network
pub record Sent (net : Net) (P : Packet → Type 0) (x y : World) (a b : ℕ) : Type 0 where
  pub rest : List Packet
  pub more : y.packets a b ≡ x.packets a b ++ rest
  pub each : AllByRecursion P rest
  pub near : (rest ≡ []) ⊎ Near net a b

abbrev pub Sends : Net → (Packet → Type 0) → World → World → Type 0
Sends net P x y = (a b : ℕ) → Sent net P x y a b

pub sends_self : (net : Net) (P : Packet → Type 0) (x y : World) → x ≡ y → Sends net P x y
sends_self net P x y e a b =
    record {
      rest = [];
      more = ap (λ (z : World). z.packets a b) (sym e) ∙ sym (append-nil (x.packets a b));
      each = tt;
      near = inl refl;
    }

pub sends_on : (net : Net) (P : Packet → Type 0) (x y z : World) → Sends net P x y → Sends net P y z → Sends net P x z
sends_on net P x y z h k a b =
    record {
      rest = (h a b).rest ++ (k a b).rest;
      more =
          (k a b).more ∙ ap (λ l. l ++ (k a b).rest) (h a b).more
          ∙ append_assoc (x.packets a b) (h a b).rest (k a b).rest;
      each = all_append P (h a b).rest (k a b).rest (h a b).each (k a b).each;
      near = either (h a b).near (k a b).near;
    }
  where
    either : (((h a b).rest ≡ []) ⊎ Near net a b) → (((k a b).rest ≡ []) ⊎ Near net a b)
        → (((h a b).rest ++ (k a b).rest) ≡ []) ⊎ Near net a b
    either (inl e) (inl f) = inl (rw (e, f) refl)
    either (inl e) (inr n) = inr n
    either (inr n) f = inr n

-- what a node gives out, to others of the network
abbrev pub IsOut : Net → (Packet → Type 0) → ℕ → Out → Type 0
IsOut net P w (Send to p) = P p × Near net w to
IsOut net P w (Launch j n work) = Unit {0}
IsOut net P w (Out.Kill j n) = Unit {0}

outs_to : (net : Net) (P : Packet → Type 0) (w b : ℕ) (outs : List Out) → AllByRecursion (IsOut net P w) outs
    → AllByRecursion P (packets_to b outs) × ((packets_to b outs ≡ []) ⊎ Near net w b)
outs_to net P w b [] h = (tt, inl refl)
outs_to net P w b (Send to p ∷ outs) h =
    elim (eqb_tells to b) [
      | inl e ↦ rw e.0 ((h.0.0, (outs_to net P w b outs h.1).0), inr (subst (Near net w) e.1 h.0.1))
      | inr e ↦ rw e.0 (outs_to net P w b outs h.1)
    ]
outs_to net P w b (Launch j n work ∷ outs) h = outs_to net P w b outs h.1
outs_to net P w b (Out.Kill j n ∷ outs) h = outs_to net P w b outs h.1

pub sends_after : (net : Net) (P : Packet → Type 0) (x : World) (w : ℕ) (o : Origin) (d : Effect)
    → AllByRecursion (IsOut net P w) d.outs → Sends net P x (apply_effect x w o d)
unfolding apply_effect
sends_after net P x w o d h a b =
    elim (eqb_tells a w) [
      | inl e ↦ record {
        rest = packets_to b d.outs;
        more = rw e.0 (ap (λ (i : ℕ). x.packets i b ++ packets_to b d.outs) (sym e.1));
        each = (outs_to net P w b d.outs h).0;
        near = subst (λ (i : ℕ). (packets_to b d.outs ≡ []) ⊎ Near net i b) (sym e.1) (outs_to net P w b d.outs h).1;
      }
      | inr e ↦ record {
        rest = [];
        more = rw e.0 (sym (append-nil (x.packets a b)));
        each = tt;
        near = inl refl;
      }
    ]

-- a turn
body_outs : (net : Net) (w v : ℕ) (V : View) (b : Body) → AllByRecursion (IsOut net IsMail w) (outs_of_body v V b)
unfolding outs_of_body
body_outs net w v V (Launched j n seen) = go (job V j)
  where
    go : (o : Option StreamJob)
        → AllByRecursion (IsOut net IsMail w) (option_map_or (λ (p : StreamJob). Launch j n p.doc.work ∷ []) o [])
    go None = tt
    go (Some p) = (tt, tt)
body_outs net w v V (Obeyed a k (Kill j)) = go (open_launch j (V (Events v)))
  where
    go : (o : Option ℕ) → AllByRecursion (IsOut net IsMail w) (option_map_or (λ n. Out.Kill j n ∷ []) o [])
    go None = tt
    go (Some n) = (tt, tt)
body_outs net w v V _ = tt

made_outs : (net : Net) (w : ℕ) (V : View) (made : Option Entry)
    → AllByRecursion (IsOut net IsMail w) (option_map_or (λ (e : Entry). outs_of_body w V e.body) made [])
made_outs net w V None = tt
made_outs net w V (Some e) = body_outs net w w V e.body

mail_outs : (net : Net) (w : ℕ) (N : Net) (V : View) (s : Session) → IsTree N → node_count N ≡ node_count net
    → w < node_count net → AllByRecursion (IsOut net IsMail w) (sends N w V s)
unfolding sends
mail_outs net w N V s tree count w_in =
    flat_all (IsOut net IsMail w) (λ m. map (λ (p : Feed × ℕ). Send m (Mail p.0 p.1)) (to_send N V w m (s.acked m))) ms
    (all_such (Near net w) (λ m. AllByRecursion (IsOut net IsMail w) (map (λ (p : Feed × ℕ). Send m (Mail p.0 p.1)) (to_send N V w m (s.acked m)))) ms
    (λ m near. all_map (IsOut net IsMail w) (λ (p : Feed × ℕ). Send m (Mail p.0 p.1)) (to_send N V w m (s.acked m))
    (each_such (λ (p : Feed × ℕ). Unit {0} × Near net w m) (to_send N V w m (s.acked m)) (λ p. (tt, near)))) nears)
  where
    linked : ℕ → Bool
    linked m = are_neighbours N w m && s.links m

    ms : List ℕ
    ms = filter (λ m. are_neighbours N w m && s.links m) (below (node_count N))

    twice : (a b c : Bool) → ((a || b) && c) ≡ true → (a ≡ true → ⊥) → (b ≡ true → ⊥) → ⊥
    twice true b c h p q = p refl
    twice false true c h p q = q refl
    twice false false c h p q = cc

    other : (m : ℕ) → (are_neighbours N w m && s.links m) ≡ true → w ≢ m
    other m h same =
        twice (some_is (hop N w) m) (some_is (hop N m) w) (s.links m) h
        (λ k. no_own_hop N tree w (is_at-true (hop N w) m k ∙ ap Some (sym same)))
        (λ k. no_own_hop N tree w (ap (hop N) same ∙ is_at-true (hop N m) w k))

    nears : AllByRecursion (Near net w) (filter (λ m. are_neighbours N w m && s.links m) (below (node_count N)))
    nears =
        all_both (λ m. m < 0 + node_count N) (λ m. (are_neighbours N w m && s.links m) ≡ true) (Near net w)
        (filter (λ m. are_neighbours N w m && s.links m) (below (node_count N)))
        (λ m low h. (w_in, omega (arith, low, count), other m h))
        (all_filter (λ m. m < 0 + node_count N) (λ m. are_neighbours N w m && s.links m) (below (node_count N))
        (low_numbers 0 (node_count N)))
        (filter_all (λ m. are_neighbours N w m && s.links m) (below (node_count N)))

pub sends_counted : (net : Net) (P : Packet → Type 0) (x z : World) → Sends net P (recounted x) z → Sends net P x z
sends_counted net P x z h a b =
    let s : Sent net P (recounted x) z a b = h a b in
    record { rest = s.rest; more = s.more; each = s.each; near = s.near }

pub turn_sends : (net : Net) (x : World) (w t : ℕ) → IsTree net → w < node_count net
    → AllByRecursion (IsOut net IsMail w) (step_of net x w (Input.Local (Turn t))).outs
unfolding effect outs_of
turn_sends net x w t tree w_in =
    all_append (IsOut net IsMail w) _ _ (made_outs net w later made)
    (mail_outs net w (present_net net later) later _ (by_tree net (later (Events 0)) tree)
    (one_count net (present_net net later) (by_one net (later (Events 0)))) w_in)
  where
    made : Option Entry
    made = makes (net_at net x w) w (view_at x w) (x.sessions w) (Input.Local (Turn t))

    later : View
    later = view_with (view_at x w) (makes (net_at net x w) w (view_at x w) (x.sessions w) (Input.Local (Turn t)))

-- a delivery
pub mail_sends : (net : Net) (x : World) (b a : ℕ) (e : Entry) → Near net b a → FeedIsIn net e.feed
    → AllByRecursion (IsOut net (IsAck net) b) (step_of net x b (Input.Mail a e)).outs
unfolding effect outs_of next_session
mail_sends net x b a e near feed_in = go ((x.sessions b).links a)
  where
    go : (up : Bool) → AllByRecursion (IsOut net (IsAck net) b)
        (cond up (Send a (Ack e.feed (length (view_with (view_at x b) (makes (net_at net x b) b (view_at x b) (x.sessions b) (Input.Mail a e)) e.feed))) ∷ []) [])
    go true = ((feed_in, near), tt)
    go false = tt

pub ack_sends : (net : Net) (x : World) (b a : ℕ) (f : Feed) (n : ℕ)
    → AllByRecursion (IsOut net IsNone b) (step_of net x b (Input.Ack a f n)).outs
unfolding effect outs_of
ack_sends net x b a f n = tt
