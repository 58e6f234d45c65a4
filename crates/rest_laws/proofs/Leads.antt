-- A turn that is not quiet leads on.
use Rattle.std.proofs.Common.{◌≡◌, ◌≢◌, ℕ, zero, suc, ◌+◌, ◌-◌, ◌<◌, ◌≤◌, Bool, true, false, ◌&&◌, not, inl}
use Rattle.std.proofs.Common.{inr, List, [], ◌∷◌, ◌++◌, length, take, map, refl, ap, sym, subst, ◌∙◌, arith, Option, Some}
use Rattle.std.proofs.Common.{None, ◌||◌, ◌⊎◌}
use Rattle.std.proofs.lemmas.Bool.{eq-eqb}
use Rattle.std.proofs.lemmas.Bool.Decides.{eqb_tells}
use Rattle.std.proofs.lemmas.List.{length-take}
use Rattle.std.specs.List.{AllByRecursion}
use Rattle.std.specs.Option.{option_map_or}
use Rattle.std.specs.Prelude.{Ok, eqb, filter, flat_map, is_some, option_map, slice_get}
use Rattle.lemmas.proofs.Lists.{same_head}
use Rattle.model.specs.Types.{Ack, Body, Deliver, Entry, Feed, Input, LimitName, Local, Mail, Net, Out, Packet, Send, Take}
use Rattle.model.specs.Types.{Turn}
use Rattle.model.specs.Words.{below, nth, numbers_from, some_is, with_at}
use Rattle.model.specs.Equalities.{feed_eq}
use Rattle.model.specs.Network.{IsTree, are_neighbours, hop, node_count}
use Rattle.model.specs.History.{Holding, View, list_of, maker, view_with}
use Rattle.model.specs.PresentNet.{present_net}
use Rattle.model.specs.Forwarding.{feeds, forwards, places_beyond, to_send}
use Rattle.model.specs.Sessions.{next_session}
use Rattle.model.specs.NewEntry.{accepts, makes}
use Rattle.model.specs.StepFaults.{StepFault, step_fault}
use Rattle.model.specs.Step.{Effect, effect, node_step, outs_of, sends, unless_fault}
use Rattle.model.specs.World.{Origin, World, apply_effect, as_refusal, delivery, holding_with, mark_delivered}
use Rattle.model.specs.World.{node_effect, packet_input, packets_to, reached_limit, result_map, step, view_at}
use Rattle.model.specs.World.{within_limits}
use Rattle.model.specs.Invariant.{Invariant}
use Rattle.model_laws.proofs.Feeds.{feed_cases}
use Rattle.model_laws.proofs.Lists.{is_at-true}
use Rattle.model_laws.proofs.Options.{filter_all}
use Rattle.model_laws.proofs.PresentNets.{by_tree, no_own_hop}
use Rattle.model_laws.proofs.Steps.{step_of}
use Rattle.rest_laws.specs.Leads.{BringsMore, HasMore, IsLinkedBack, LeadsOn, next_packet}
use Rattle.rest_laws.specs.Rest.{IsQuiet, leaves, net_at}

-- words
feed_told : (f g : Feed) → f ≡ g → feed_eq f g ≡ true
feed_told f g same = go (feed_cases f g)
  where
    go : (((feed_eq f g ≡ true) × (f ≡ g)) ⊎ ((feed_eq f g ≡ false) × (f ≢ g))) → feed_eq f g ≡ true
    go (inl k) = k.0
    go (inr k) = absurd (k.1 same)

nth_after : {A : Type 0} (xs ys : List A) (a : A) → nth (xs ++ a ∷ ys) (1 + length xs) ≡ Some a
nth_after xs ys a = let e : 1 + length xs ≡ suc (length xs) = omega arith in rw e (go xs ys a)
  where
    go : {A : Type 0} (xs ys : List A) (a : A) → slice_get (xs ++ a ∷ ys) (length xs) ≡ Some a
    go [] ys a = refl
    go (x ∷ xs) ys a = go xs ys a

-- steps that were taken
went : (o : Option LimitName) (f : Option StepFault) (d : Effect) (g : Effect → World) (y : World)
    → result_map g (within_limits o (as_refusal (unless_fault f d))) ≡ Ok y → (f ≡ None) × (g d ≡ y)
went None None d g y e = (refl, cc)
went None (Some f) d g y e = cc
went (Some l) f d g y e = cc

pub took : (net : Net) (x y : World) (w : ℕ) (l : Local) → step net x (Take w l) ≡ Ok y
    → (step_fault (net_at net x w) w (view_at x w) (x.sessions w) (Input.Local l) ≡ None)
    × (apply_effect x w Origin.Own (step_of net x w (Input.Local l)) ≡ y)
unfolding step node_effect node_step
took net x y w l e =
    went (reached_limit x) (step_fault (net_at net x w) w (view_at x w) (x.sessions w) (Input.Local l))
    (step_of net x w (Input.Local l)) (apply_effect x w Origin.Own) y e

came_by : (net : Net) (x y : World) (a b k : ℕ) (o : Option Input)
    → result_map (λ d. mark_delivered (apply_effect x b Origin.Mailed d) a b k) (node_effect net x b o) ≡ Ok y
    → (i : Input) × (o ≡ Some i) × (mark_delivered (apply_effect x b Origin.Mailed (step_of net x b i)) a b k ≡ y)
unfolding node_effect node_step
came_by net x y a b k None e = cc
came_by net x y a b k (Some i) e = (
  i,
  refl,
  (went (reached_limit x) (step_fault (net_at net x b) b (view_at x b) (x.sessions b) i)
      (step_of net x b i) (λ d. mark_delivered (apply_effect x b Origin.Mailed d) a b k) y e).1,
)

pub came : (net : Net) (x y : World) (a b k : ℕ) → step net x (Deliver a b k) ≡ Ok y
    → (i : Input) × (delivery x a b k ≡ Some i)
    × (mark_delivered (apply_effect x b Origin.Mailed (step_of net x b i)) a b k ≡ y)
unfolding step
came net x y a b k e = came_by net x y a b k (delivery x a b k) e

-- all that counts here is as before
pub record Stays (x y : World) : Type 0 where
  pub history : y.history ≡ x.history
  pub holdings : (v : ℕ) (f : Feed) → y.holdings v f ≡ x.holdings v f
  pub acked : (v u : ℕ) (f : Feed) → (y.sessions v).acked u f ≡ (x.sessions v).acked u f
  pub links : (v u : ℕ) → (y.sessions v).links u ≡ (x.sessions v).links u

pub view_stays : (x y : World) → Stays x y → (v : ℕ) (f : Feed) → view_at y v f ≡ view_at x v f
view_stays x y h v f = rw (h.history, h.holdings v f) refl

pub stays_after : (x : World) (w : ℕ) (o : Origin) (d : Effect) → d.made ≡ None
    → ((u : ℕ) (f : Feed) → d.session.acked u f ≡ (x.sessions w).acked u f)
    → ((u : ℕ) → d.session.links u ≡ (x.sessions w).links u) → Stays x (apply_effect x w o d)
unfolding apply_effect
stays_after x w o d none same_acked same_links =
    record {
      history = before o;
      holdings = holdings;
      acked = acked;
      links = links;
    }
  where
    before : (o : Origin) → (apply_effect x w o d).history ≡ x.history
    before Origin.Own = rw none refl
    before Origin.Mailed = rw none refl

    holdings : (v : ℕ) (f : Feed) → with_at w (holding_with (x.holdings w) d.made) x.holdings v f ≡ x.holdings v f
    holdings v f =
        elim (eqb_tells v w) [
          | inl e ↦ rw (e.0, none) (ap (λ i. x.holdings i f) (sym e.1))
          | inr e ↦ rw e.0 refl
        ]

    acked : (v u : ℕ) (f : Feed) → (with_at w d.session x.sessions v).acked u f ≡ (x.sessions v).acked u f
    acked v u f =
        elim (eqb_tells v w) [
          | inl e ↦ rw e.0 (same_acked u f ∙ ap (λ i. (x.sessions i).acked u f) (sym e.1))
          | inr e ↦ rw e.0 refl
        ]

    links : (v u : ℕ) → (with_at w d.session x.sessions v).links u ≡ (x.sessions v).links u
    links v u =
        elim (eqb_tells v w) [
          | inl e ↦ rw e.0 (same_links u ∙ ap (λ i. (x.sessions i).links u) (sym e.1))
          | inr e ↦ rw e.0 refl
        ]

-- a kept entry raises its feed
pub raised_here : (x : World) (w : ℕ) (o : Origin) (d : Effect) (e : Entry) → d.made ≡ Some e
    → (apply_effect x w o d).holdings w e.feed ≡ suc (x.holdings w e.feed)
unfolding apply_effect
raised_here x w o d e made = rw (eq-eqb w w refl, made, feed_told e.feed e.feed refl) refl

-- what is sent goes behind the packets that were sent before
pub sent_first : (x : World) (w : ℕ) (o : Origin) (d : Effect) (to : ℕ) (p : Packet) (outs : List Out)
    → d.outs ≡ Send to p ∷ outs → nth ((apply_effect x w o d).packets w to) (next_packet x w to) ≡ Some p
unfolding apply_effect
sent_first x w o d to p outs e =
    rw (eq-eqb w w refl, e, eq-eqb to to refl) (nth_after (x.packets w to) (packets_to to outs) p)

sent_elsewhere : (x : World) (w : ℕ) (o : Origin) (d : Effect) (v to : ℕ) → v ≢ w
    → (apply_effect x w o d).packets v to ≡ x.packets v to
unfolding apply_effect
sent_elsewhere x w o d v to other =
    elim (eqb_tells v w) [ inl e ↦ absurd (other e.1) | inr e ↦ rw e.0 refl ]

-- the first that a neighbour is sent
first_beyond : (V : View) (acked : Holding) (fs : List Feed) (p : Feed × ℕ) (ps : List (Feed × ℕ))
    → flat_map (places_beyond V acked) fs ≡ p ∷ ps → (p.1 ≡ 1 + acked p.0) × (acked p.0 < length (V p.0))
unfolding places_beyond
first_beyond V acked [] p ps e = cc
first_beyond V acked (f ∷ fs) p ps e =
    go (length (V f) - acked f) refl e (λ k. first_beyond V acked fs p ps k)
  where
    go : (c : ℕ) → length (V f) - acked f ≡ c
        → map (λ i. (f, i)) (numbers_from (1 + acked f) c) ++ flat_map (places_beyond V acked) fs ≡ p ∷ ps
        → (flat_map (places_beyond V acked) fs ≡ p ∷ ps
        → (p.1 ≡ 1 + acked p.0) × (acked p.0 < length (V p.0)))
        → (p.1 ≡ 1 + acked p.0) × (acked p.0 < length (V p.0))
    go zero g k more = more k
    go (suc c) g k more =
        subst (λ (p : Feed × ℕ). (p.1 ≡ 1 + acked p.0) × (acked p.0 < length (V p.0)))
        (same_head k) (refl, omega (arith, g))

first_taken : {A : Type 0} (n : ℕ) (xs : List A) (p : A) (ps : List A) → take (suc n) xs ≡ p ∷ ps
    → (rest : List A) × (xs ≡ p ∷ rest)
first_taken n [] p ps e = cc
first_taken n (x ∷ xs) p ps e = (xs, ap (λ q. q ∷ xs) (same_head e))

pub record FirstSent (Q : ℕ → Type 0) (V : View) (acked : ℕ → Holding) (o : Out) : Type 0 where
  pub to : ℕ
  pub feed : Feed
  pub is : o ≡ Send to (Mail feed (1 + acked to feed))
  pub more : acked to feed < length (V feed)
  pub near : Q to

first_sent : (Q : ℕ → Type 0) (N : Net) (V : View) (n : ℕ) (acked : ℕ → Holding) (ms : List ℕ) (o : Out)
    (os : List Out) → AllByRecursion Q ms
    → flat_map (λ m. map (λ (p : Feed × ℕ). Send m (Mail p.0 p.1)) (to_send N V n m (acked m))) ms ≡ o ∷ os
    → FirstSent Q V acked o
unfolding to_send
first_sent Q N V n acked [] o os all e = cc
first_sent Q N V n acked (m ∷ ms) o os all e =
    go (to_send N V n m (acked m)) refl e (λ k. first_sent Q N V n acked ms o os all.1 k)
  where
    go : (ps : List (Feed × ℕ)) → to_send N V n m (acked m) ≡ ps
        → map (λ (p : Feed × ℕ). Send m (Mail p.0 p.1)) ps
        ++ flat_map (λ m. map (λ (p : Feed × ℕ). Send m (Mail p.0 p.1)) (to_send N V n m (acked m))) ms ≡ o ∷ os
        → (flat_map (λ m. map (λ (p : Feed × ℕ). Send m (Mail p.0 p.1)) (to_send N V n m (acked m))) ms ≡ o ∷ os
        → FirstSent Q V acked o)
        → FirstSent Q V acked o
    go [] g k more = more k
    go (p ∷ ps) g k more =
        let whole : (rest : List (Feed × ℕ)) × (flat_map (places_beyond V (acked m)) (filter (forwards N V n m)
        (feeds N)) ≡ p ∷ rest) = first_taken 7 _ p ps g in
        let first : (p.1 ≡ 1 + acked m p.0) × (acked m p.0 < length (V p.0)) =
        first_beyond V (acked m) (filter (forwards N V n m) (feeds N)) p whole.0 whole.1 in
        record {
          to = m;
          feed = p.0;
          is =
              sym (same_head k) ∙ ap (λ i. Send m (Mail p.0 i)) first.0;
          more = first.1;
          near = all.0;
        }

-- marking a packet as delivered changes nothing of this, and what stays twice stays
is_there : (z : World) (n m p : ℕ) (f : Feed) (len : ℕ) → nth (z.packets m n) p ≡ Some (Ack f len)
    → is_some (delivery z m n p) ≡ true
unfolding packet_input
is_there z n m p f len there = rw there refl

pub marked : (x y z : World) (a b k : ℕ) → Stays x y → Stays y z → Stays x (mark_delivered z a b k)
unfolding mark_delivered
marked x y z a b k h g =
    record {
      history = g.history ∙ h.history;
      holdings = λ v f. g.holdings v f ∙ h.holdings v f;
      acked = λ v u f. g.acked v u f ∙ h.acked v u f;
      links = λ v u. g.links v u ∙ h.links v u;
    }

-- the third step: n hears of more
module _ (net : Net) (x : World) (n m : ℕ) (inv : Invariant net x) where
  length_at : (v : ℕ) (f : Feed) → length (view_at x v f) ≡ x.holdings v f
  length_at v f = omega (arith, length-take (x.holdings v f) (list_of x.history f), inv.within v f)

  heard_more : (z : World) → Stays x z → (f : Feed) (len : ℕ) (made : Option Entry)
      → (x.sessions n).acked m f < len → (x.sessions n).acked m f < length (view_at x n f)
      → (x.sessions n).acked m f < (next_session (view_at z n) (z.sessions n) (Input.Ack m f len) made).acked m f
  unfolding next_session
  heard_more z same f len made more here =
      rw (eq-eqb m m refl, feed_told f f refl)
      (let a : (z.sessions n).acked m f ≡ (x.sessions n).acked m f = same.acked n m f in
      let v : length (view_at z n f) ≡ length (view_at x n f) = ap length (view_stays x z same n f) in
      omega (arith, a, v, more, here))

  pub answer_brings : (z : World) → Stays x z → (q : ℕ) (f : Feed) (len : ℕ)
      → nth (z.packets m n) q ≡ Some (Ack f len) → (x.sessions n).acked m f < len
      → (x.sessions n).acked m f < length (view_at x n f) → (u : World)
      → step net z (Deliver m n q) ≡ Ok u → HasMore x u
  unfolding packet_input apply_effect mark_delivered effect
  answer_brings z same q f len there more here u e =
      let t = came net z u m n q e in
      let is : Input.Ack m f len ≡ t.0 =
      one (Input.Ack m f len) t.0
      (subst (λ o. option_map_or (packet_input z m) o None ≡ Some t.0) there t.1) in
      HasMore.acked n m f
      (subst (λ (u : World). (x.sessions n).acked m f < (u.sessions n).acked m f) t.2
      (subst (λ (i : Input). (x.sessions n).acked m f
      < ((mark_delivered (apply_effect z n Origin.Mailed (step_of net z n i)) m n q).sessions n).acked m f) is
      (rw (eq-eqb n n refl) (heard_more z same f len _ more here))))
    where
      one : (i j : Input) → Some i ≡ Some j → i ≡ j
      one i j e = cc

  -- the second step: m keeps the entry, or answers that it holds more
  mailed : Feed → Body → Entry
  mailed f b = record { feed = f; place = 1 + (x.sessions n).acked m f; body = b }

  kept_more : (y : World) → Stays x y → (p : ℕ) (f : Feed) (b : Body)
      → (step_of net y m (Input.Mail n (mailed f b))).made ≡ Some (mailed f b)
      → HasMore x (mark_delivered (apply_effect y m Origin.Mailed (step_of net y m (Input.Mail n (mailed f b)))) n m
      p)
  unfolding mark_delivered mailed
  kept_more y same p f b made =
      HasMore.held m f
      (let r : (apply_effect y m Origin.Mailed (step_of net y m (Input.Mail n (mailed f b)))).holdings m f
      ≡ suc (y.holdings m f) =
      raised_here y m Origin.Mailed (step_of net y m (Input.Mail n (mailed f b))) (mailed f b) made in
      omega (arith, r, same.holdings m f))

  -- who does not keep the next one has it already
  has_it : (y : World) → Stays x y → (f : Feed) (b : Body) → accepts m (view_at y m) (mailed f b) ≡ false
      → (x.sessions n).acked m f < length (view_at x n f) → (x.sessions n).acked m f < length (view_at y m f)
  unfolding accepts mailed
  has_it y same f b not_kept more =
      let l : length (view_at y m f) ≡ x.holdings m f = ap length (view_stays x y same m f) ∙ length_at m f in
      elim (eqb_tells (1 + (x.sessions n).acked m f) (1 + length (view_at y m f))) [
        | inl e ↦ elim (eqb_tells (maker f) m) [
          | inl k ↦ omega (arith, inv.own m f k.1, inv.within n f, length_at n f, more, l)
          | inr k ↦ absurd (clash (eqb (1 + (x.sessions n).acked m f) (1 + length (view_at y m f))) (eqb (maker f) m)
              e.0 k.0 not_kept)
        ]
        | inr e ↦ omega (arith, e.1, inv.acked_there n m f, l)
      ]
    where
      clash : (a b : Bool) → a ≡ true → b ≡ false → (a && not b) ≡ false → ⊥
      clash a true h k e = cc
      clash true false h k e = cc
      clash false false h k e = cc

  answered : (y : World) (f : Feed) (b : Body) → accepts m (view_at y m) (mailed f b) ≡ false
      → (y.sessions m).links n ≡ true
      → (step_of net y m (Input.Mail n (mailed f b))).outs ≡ Send n (Ack f (length (view_at y m f))) ∷ []
  unfolding effect makes outs_of next_session view_with mailed
  answered y f b not_kept up = rw (not_kept, up) refl

  -- m's answer: it holds more than n knew
  pub record Answers (y z : World) (f : Feed) : Type 0 where
    pub len : ℕ
    pub there : nth (z.packets m n) (next_packet y m n) ≡ Some (Ack f len)
    pub more : (x.sessions n).acked m f < len
    pub stays : Stays x z

  brought : (y : World) → Stays x y → (x.sessions m).links n ≡ true → (p : ℕ) (f : Feed) (b : Body)
      → (x.sessions n).acked m f < length (view_at x n f) → (c : Bool)
      → accepts m (view_at y m) (mailed f b) ≡ c
      → HasMore x (mark_delivered (apply_effect y m Origin.Mailed (step_of net y m (Input.Mail n (mailed f b)))) n m p)
      ⊎ Answers y (mark_delivered (apply_effect y m Origin.Mailed (step_of net y m (Input.Mail n (mailed f b)))) n m
      p) f
  unfolding effect makes next_session mailed mark_delivered
  brought y same up p f b more true k = inl (kept_more y same p f b (rw k refl))
  brought y same up p f b more false k =
      inr (record {
        len = length (view_at y m f);
        there =
            sent_first y m Origin.Mailed (step_of net y m (Input.Mail n (mailed f b))) n
            (Ack f (length (view_at y m f))) [] (answered y f b k (same.links m n ∙ up));
        more = has_it y same f b k more;
        stays =
            marked x y (apply_effect y m Origin.Mailed (step_of net y m (Input.Mail n (mailed f b)))) n m p same
            (stays_after y m Origin.Mailed (step_of net y m (Input.Mail n (mailed f b))) (rw k refl) (λ u g. refl)
            (λ u. refl));
      })

  pub packet_brings : (y : World) → Stays x y → (x.sessions m).links n ≡ true → (p : ℕ) (f : Feed)
      → nth (y.packets n m) p ≡ Some (Mail f (1 + (x.sessions n).acked m f))
      → (x.sessions n).acked m f < length (view_at x n f) → (z : World) → step net y (Deliver n m p) ≡ Ok z
      → HasMore x z ⊎ Answers y z f
  unfolding packet_input mailed
  packet_brings y same up p f there more z e =
      let t = came net y z n m p e in
      subst (λ (z : World). HasMore x z ⊎ Answers y z f) t.2
      (opened (nth (list_of y.history f) (1 + (x.sessions n).acked m f)) t.0
      (subst (λ o. option_map_or (packet_input y n) o None ≡ Some t.0) there t.1))
    where
      opened : (o : Option Body) (i : Input) → option_map (λ b. Input.Mail n (mailed f b)) o ≡ Some i
          → HasMore x (mark_delivered (apply_effect y m Origin.Mailed (step_of net y m i)) n m p)
          ⊎ Answers y (mark_delivered (apply_effect y m Origin.Mailed (step_of net y m i)) n m p) f
      opened None i k = cc
      opened (Some b) i k =
          subst (λ (i : Input). HasMore x (mark_delivered (apply_effect y m Origin.Mailed (step_of net y m i)) n m p)
          ⊎ Answers y (mark_delivered (apply_effect y m Origin.Mailed (step_of net y m i)) n m p) f)
          (one (Input.Mail n (mailed f b)) i k)
          (brought y same up p f b more (accepts m (view_at y m) (mailed f b)) refl)
        where
          one : (i j : Input) → Some i ≡ Some j → i ≡ j
          one i j e = cc

  packet_leads : (y : World) → Stays x y → (x.sessions m).links n ≡ true → y.packets m n ≡ x.packets m n
      → (p : ℕ) (f : Feed) → nth (y.packets n m) p ≡ Some (Mail f (1 + (x.sessions n).acked m f))
      → (x.sessions n).acked m f < length (view_at x n f) → (z : World) → step net y (Deliver n m p) ≡ Ok z
      → BringsMore net x z n m
  packet_leads y same up none_new p f there more z e = go (packet_brings y same up p f there more z e)
    where
      go : (HasMore x z ⊎ Answers y z f) → BringsMore net x z n m
      go (inl h) = BringsMore.at_once h
      go (inr a) =
          let answer : nth (z.packets m n) (next_packet x m n) ≡ Some (Ack f a.len) =
          subst (λ (ps : List Packet). nth (z.packets m n) (1 + length ps) ≡ Some (Ack f a.len)) none_new a.there in
          BringsMore.by_answer (is_there z n m (next_packet x m n) f a.len answer)
          (answer_brings z a.stays (next_packet x m n) f a.len answer a.more more)

-- a mail that names an entry that is there is an input
mail_there : (y : World) (n m p : ℕ) (f : Feed) (k : ℕ) → nth (y.packets n m) p ≡ Some (Mail f k) → 0 < k
    → k ≤ length (list_of y.history f) → is_some (delivery y n m p) ≡ true
unfolding packet_input
mail_there y n m p f zero there low high = absurd (omega (arith, low))
mail_there y n m p f (suc k) there low high = rw there (mapped (slice_get (list_of y.history f) k)
    (inside (list_of y.history f) k (omega (arith, high))))
  where
    mapped : (o : Option Body) → is_some o ≡ true
        → is_some (option_map (λ b. Input.Mail n (record { feed = f; place = suc k; body = b })) o) ≡ true
    mapped None h = cc
    mapped (Some b) h = refl

    inside : {A : Type 0} (xs : List A) (k : ℕ) → k < length xs → is_some (slice_get xs k) ≡ true
    inside [] k low = absurd (omega (arith, low))
    inside (x ∷ xs) zero low = refl
    inside (x ∷ xs) (suc k) low = inside xs k (omega (arith, low))

-- the first step: the turn
module _ (net : Net) (x : World) (n t : ℕ) (tree : IsTree net) (inv : Invariant net x)
    (back : IsLinkedBack net x n) where
  unfoldable pub turn : Effect
  turn = step_of net x n (Input.Local (Turn t))

  unfoldable pub after : World
  after = apply_effect x n Origin.Own turn

  unfoldable pub IsNear : ℕ → Type 0
  IsNear m = (are_neighbours (net_at net x n) n m && (x.sessions n).links m) ≡ true

  pub not_itself : (m : ℕ) → IsNear m → m ≢ n
  unfolding IsNear
  not_itself m near same =
      twice (some_is (hop (net_at net x n) n) m) (some_is (hop (net_at net x n) m) n) ((x.sessions n).links m) near
      (λ h. no_own_hop (net_at net x n) (by_tree net (view_at x n (Rattle.model.specs.Types.Events 0)) tree) n
      (is_at-true (hop (net_at net x n) n) m h ∙ ap Some same))
      (λ h. no_own_hop (net_at net x n) (by_tree net (view_at x n (Rattle.model.specs.Types.Events 0)) tree) n
      (ap (hop (net_at net x n)) (sym same) ∙ is_at-true (hop (net_at net x n) m) n h))
    where
      twice : (a b c : Bool) → ((a || b) && c) ≡ true → (a ≡ true → ⊥) → (b ≡ true → ⊥) → ⊥
      twice true b c h p q = p refl
      twice false true c h p q = q refl
      twice false false c h p q = cc

  pub both_parts : (a b : Bool) → (a && b) ≡ true → (a ≡ true) × (b ≡ true)
  both_parts true true h = (refl, refl)
  both_parts true false h = cc
  both_parts false b h = cc

  pub sends_first : (o : Out) (os : List Out) → turn.made ≡ None → turn.outs ≡ o ∷ os
      → FirstSent IsNear (view_at x n) (x.sessions n).acked o
  unfolding turn effect outs_of sends next_session view_with IsNear
  sends_first o os none outs =
      first_sent IsNear (net_at net x n) (view_at x n) n (x.sessions n).acked
      (filter (λ m. are_neighbours (net_at net x n) n m && (x.sessions n).links m)
      (below (node_count (net_at net x n)))) o os
      (filter_all (λ m. are_neighbours (net_at net x n) n m && (x.sessions n).links m)
      (below (node_count (net_at net x n))))
      (subst (λ (e : Option Entry). outs_of (present_net net (view_with (view_at x n) e)) n
      (view_with (view_at x n) e) (next_session (view_at x n) (x.sessions n) (Input.Local (Turn t)) e)
      (Input.Local (Turn t)) e ≡ o ∷ os) none outs)

  pub turn_stays : turn.made ≡ None → Stays x after
  unfolding turn effect next_session after
  turn_stays none = stays_after x n Origin.Own turn none (λ u f. refl) (λ u. refl)

  leads_by_packet : (o : Out) (os : List Out) → turn.made ≡ None → turn.outs ≡ o ∷ os → LeadsOn net x after n
  unfolding after IsNear
  leads_by_packet o os none outs =
      let s : FirstSent IsNear (view_at x n) (x.sessions n).acked o = sends_first o os none outs in
      let near : (are_neighbours (net_at net x n) n s.to ≡ true) × ((x.sessions n).links s.to ≡ true) =
      both_parts (are_neighbours (net_at net x n) n s.to) ((x.sessions n).links s.to) s.near in
      let there : nth (after.packets n s.to) (next_packet x n s.to)
      ≡ Some (Mail s.feed (1 + (x.sessions n).acked s.to s.feed)) =
      sent_first x n Origin.Own turn s.to (Mail s.feed (1 + (x.sessions n).acked s.to s.feed)) os
      (outs ∙ ap (λ p. p ∷ os) s.is) in
      let same : Stays x after = turn_stays none in
      LeadsOn.by_packet s.to
      (mail_there after n s.to (next_packet x n s.to) s.feed (1 + (x.sessions n).acked s.to s.feed) there (omega arith)
      (subst (λ h. 1 + (x.sessions n).acked s.to s.feed ≤ length (list_of h s.feed)) (sym same.history)
      (omega (arith, s.more, length_at net x n n inv n s.feed, inv.within n s.feed))))
      (packet_leads net x n s.to inv after same (back s.to near.0 near.1)
      (sent_elsewhere x n Origin.Own turn s.to n (not_itself s.to s.near)) (next_packet x n s.to) s.feed there s.more)

  turn_leads : (IsQuiet net x n t → ⊥)
      → step_fault (net_at net x n) n (view_at x n) (x.sessions n) (Input.Local (Turn t)) ≡ None
      → LeadsOn net x after n
  unfolding node_step turn after
  turn_leads not_quiet faultless = go turn.made refl turn.outs refl
    where
      quiet_then : turn.made ≡ None → turn.outs ≡ []
          → result_map leaves (unless_fault (step_fault (net_at net x n) n (view_at x n) (x.sessions n)
          (Input.Local (Turn t))) turn) ≡ Ok (None, [])
      quiet_then none outs = rw (faultless, none, outs) refl

      go : (made : Option Entry) → turn.made ≡ made → (outs : List Out) → turn.outs ≡ outs → LeadsOn net x after n
      go (Some e) h outs k =
          LeadsOn.at_once (HasMore.held n e.feed
          (let r : after.holdings n e.feed ≡ suc (x.holdings n e.feed) =
          raised_here x n Origin.Own turn e h in omega (arith, r)))
      go None h [] k = absurd (not_quiet (quiet_then h k))
      go None h (o ∷ os) k = leads_by_packet o os h k

pub leads : (net : Net) (x y : World) (n t : ℕ) → IsTree net → Invariant net x → IsLinkedBack net x n
    → step net x (Take n (Turn t)) ≡ Ok y → (IsQuiet net x n t → ⊥) → LeadsOn net x y n
unfolding after turn
leads net x y n t tree inv back e not_quiet =
    let p : (step_fault (net_at net x n) n (view_at x n) (x.sessions n) (Input.Local (Turn t)) ≡ None)
    × (apply_effect x n Origin.Own (step_of net x n (Input.Local (Turn t))) ≡ y) = took net x y n (Turn t) e in
    subst (λ (y : World). LeadsOn net x y n) p.1 (turn_leads net x n t tree inv back not_quiet p.0)
