-- A packet that is delivered.
use Rattle.std.proofs.Common.{Err, List, None, Ok, Option, Result, Some, ap, arith, length, refl, ℕ, ◌<◌, ◌∙◌, ◌≡◌, ◌≤◌}
use Rattle.std.proofs.Common.{option_map, subst, suc, sym, take, zero}
use Rattle.std.proofs.lemmas.Bool.Decides.{eqb_tells}
use Rattle.std.proofs.Common.{inl, inr}
use Rattle.std.specs.List.{AllByRecursion}
use Rattle.std.specs.Option.{option_map_or}
use Rattle.std.specs.Prelude.{◌==◌, IfErr, IfOk, option_and_then, slice_get, slice_set}
use Rattle.lemmas.proofs.Lists.{get_take, got_below}
use Rattle.model.specs.Types.{Ack, Body, Deliver, Feed, Input, Mail, Net, Packet}
use Rattle.model.specs.Words.{nth}
use Rattle.model.specs.Network.{node_count}
use Rattle.model.specs.History.{list_of}
use Rattle.model.specs.Invariant.{IsBacked}
use Rattle.model.specs.Step.{Effect}
use Rattle.model.specs.World as model
use Rattle.model.specs.World.{Origin, apply_effect, delivery, mark_delivered, node_effect, packet_input, reached_limit}
use Rattle.model.specs.World.{view_at}
use Rattle.model.specs.Kept.{kept_in, made_by, only_if}
use Rattle.model_laws.proofs.Options.{slice_get_all, there_if}
use Rattle.agent_core.specs.Steps.{effect_in}
use Rattle.agent_core.specs.declared.Step.{Step}
use Rattle.network_world.specs.Stations.{Journal, Lane, Station, WorldState, lane_of, station_of}
use Rattle.network_world.specs.Refusals.{limit_at}
use Rattle.network_world.specs.Standing.{IsReached, IsRefusalDue, IsWorld, LaneStandsFor, StandsFor, Steps}
use Rattle.network_world.specs.Journals.{CanNote, HasNoted, HasRoom, IsLimitDue, seen}
use Rattle.network_world.specs.Moves.{GoesOn, HasTakenAt, IsInputDue, IsMarkedAt}
use Rattle.network_world.specs.Deliveries.{IsBrought, IsNotBrought, IsOpened, input_by, named_at}
use Rattle.network_world.specs.declared.journals.Journal as raw
use Rattle.network_world.specs.declared.refusals.StepRefused.{StepRefused}
use Rattle.network_world.specs.declared.refusals.StepRefused.TheVariants as refused
use Rattle.network_world.proofs.Lists.{set_elsewhere, set_there}
use Rattle.network_world.proofs.After.{EachGoesOn, count_stays, each_goes_on, each_marked, journal_after, journal_marked}
use Rattle.network_world.proofs.After.{reached_next, stands_after}
use Rattle.network_world.proofs.Effects.{deliver_err, deliver_ok, effect_limit, effect_none, effect_ok, node_refuses}
use Rattle.network_world.proofs.Effects.{same_limit}
use Rattle.network_world.proofs.Noting.{sent_after, sent_marked, step_can_be_noted}
use Rattle.network_world.proofs.Taking.{KeepsLaw, SentLaw, taken_effect}

-- each mail of a world that is reached names an entry that its sender holds, and no node holds more than there is
abbrev pub BackedLaw : Type 0
BackedLaw =
    (net : Net) (x : model.World) → IsReached net x → (a b : ℕ)
    → AllByRecursion (IsBacked (x.holdings a)) (x.packets a b)

abbrev pub WithinLaw : Type 0
WithinLaw =
    (net : Net) (x : model.World) → IsReached net x → (w : ℕ) (f : Feed)
    → x.holdings w f ≤ length (list_of x.history f)

-- a lane of the program has what was sent
pub lane_there : (s : WorldState) (x : model.World) (a b : ℕ) → StandsFor s x → a < node_count s.net
    → b < node_count s.net → (l : Lane) × (lane_of s a b ≡ Some l) × LaneStandsFor x a b l
lane_there s x a b old in_a in_b =
    let t = got_below s.stations a (omega (arith, in_a, old.station_count)) in
    let from = old.stations_ a t.0 t.1 in
    let l = got_below t.0.lanes b (omega (arith, in_b, from.lane_count)) in (
      l.0,
      ap (λ (o : Option Station). option_and_then (λ (u : Station). slice_get u.lanes b) o) t.1 ∙ l.1,
      from.lanes_ b l.0 l.1,
    )

pub packet_there : (s : WorldState) (x : model.World) (a b k : ℕ) (p : Option Packet) → StandsFor s x
    → a < node_count s.net → b < node_count s.net
    → p ≡ option_and_then (λ (l : Lane). nth l.packets k) (lane_of s a b) → nth (x.packets a b) k ≡ p
packet_there s x a b k p old in_a in_b is =
    let l = lane_there s x a b old in_a in_b in
    sym
    (is ∙ ap (option_and_then (λ (m : Lane). nth m.packets k)) l.1 ∙ ap (λ (ps : List Packet). nth ps k) l.2.packets_)

nth_taken : {X : Type 0} (xs : List X) (h k : ℕ) → 0 < k → k ≤ h → nth (take h xs) k ≡ nth xs k
nth_taken xs h zero above low = absurd (omega (arith, above))
nth_taken xs h (suc k) above low = get_take xs h k (omega (arith, low))

packet_is : (x : model.World) (a : ℕ) (p : Packet) → IsBacked (x.holdings a) p
    → packet_input x a p ≡ input_by a p (named_at x a p)
unfolding packet_input
packet_is x a (Mail f k) backed =
    ap (λ (o : Option Body). option_map (λ b. Input.Mail a (record { feed = f; place = k; body = b })) o)
    (sym (nth_taken (list_of x.history f) (x.holdings a f) k backed.0 backed.1))
packet_is x a (Ack f n) backed = refl

pub packet_backed : (net : Net) (x : model.World) (a b k : ℕ) (p : Packet) → BackedLaw → IsReached net x
    → nth (x.packets a b) k ≡ Some p → IsBacked (x.holdings a) p
packet_backed net x a b zero p law reached e = cc
packet_backed net x a b (suc k) p law reached e =
    there_if (IsBacked (x.holdings a)) (slice_get (x.packets a b) k) p
    (slice_get_all (IsBacked (x.holdings a)) (x.packets a b) k (law net x reached a b)) e

delivery_is : (x : model.World) (a b k : ℕ) (p : Packet) → nth (x.packets a b) k ≡ Some p
    → IsBacked (x.holdings a) p → delivery x a b k ≡ input_by a p (named_at x a p)
delivery_is x a b k p e backed =
    ap (λ (o : Option Packet). option_map_or (packet_input x a) o None) e ∙ packet_is x a p backed

delivery_none : (x : model.World) (a b k : ℕ) → nth (x.packets a b) k ≡ None → delivery x a b k ≡ None
delivery_none x a b k e = ap (λ (o : Option Packet). option_map_or (packet_input x a) o None) e

-- no packet of this number
pub none_brought : (s : WorldState) (a b k : ℕ) → a < node_count s.net → b < node_count s.net
    → None ≡ option_and_then (λ (l : Lane). nth l.packets k) (lane_of s a b) → IsNotBrought s a b k refused.NoPacket
none_brought s a b k in_a in_b is = λ x old.
    delivery_none x a b k (packet_there s x a b k None old in_a in_b is)

-- a packet, and a limit
there_input : (net : Net) (x : model.World) (a : ℕ) (p : Packet) → WithinLaw → IsReached net x
    → IsBacked (x.holdings a) p → (i : Input) × (packet_input x a p ≡ Some i)
unfolding packet_input
there_input net x a (Ack f n) law reached backed = (Input.Ack a f n, refl)
there_input net x a (Mail f k) law reached backed =
    let there : (b : Body) × (nth (list_of x.history f) k ≡ Some b) =
    nth_there (list_of x.history f) k backed.0 (omega (arith, backed.1, law net x reached a f)) in (
      Input.Mail a (record { feed = f; place = k; body = there.0 }),
      ap (λ (o : Option Body). option_map (λ b. Input.Mail a (record { feed = f; place = k; body = b })) o) there.1,
    )
  where
    nth_there : (xs : List Body) (n : ℕ) → 0 < n → n ≤ length xs → (b : Body) × (nth xs n ≡ Some b)
    nth_there xs zero above low = absurd (omega (arith, above))
    nth_there xs (suc n) above low = got_below xs n (omega (arith, low))

pub limit_brought : (s : WorldState) (a b k : ℕ) (p : Packet) (r : StepRefused) → BackedLaw → WithinLaw
    → a < node_count s.net → b < node_count s.net
    → Some p ≡ option_and_then (λ (l : Lane). nth l.packets k) (lane_of s a b)
    → IsLimitDue s.journal.taken s.journal.sent s.journal.kept r → IsNotBrought s a b k r
limit_brought s a b k p (refused.Limit l) backed within in_a in_b is due = λ x old.
    let e = packet_there s x a b k (Some p) old in_a in_b is in
    let i = there_input s.net x a p within old.reached (packet_backed s.net x a b k p backed old.reached e) in (
      i.0,
      ap (λ (o : Option Packet). option_map_or (packet_input x a) o None) e ∙ i.1,
      same_limit s x old ∙ due,
    )
limit_brought s a b k p refused.NoPacket backed within in_a in_b is due = absurd due
limit_brought s a b k p (refused.Step f) backed within in_a in_b is due = absurd due
limit_brought s a b k p refused.NoMemory backed within in_a in_b is due = absurd due

-- a packet that is opened
pub opened_brought : (s : WorldState) (a b k : ℕ) (p : Packet) (input : Input) → BackedLaw
    → a < node_count s.net → b < node_count s.net
    → Some p ≡ option_and_then (λ (l : Lane). nth l.packets k) (lane_of s a b)
    → limit_at s.journal.taken s.journal.sent s.journal.kept ≡ None → IsOpened s a p (Ok input)
    → IsBrought s a b k input
opened_brought s a b k p input backed in_a in_b is free opened = λ x old.
    let e = packet_there s x a b k (Some p) old in_a in_b is in (
      delivery_is x a b k p e (packet_backed s.net x a b k p backed old.reached e) ∙ opened x old,
      same_limit s x old ∙ free,
    )

pub opened_not : (s : WorldState) (a b k : ℕ) (p : Packet) (r : StepRefused) → BackedLaw
    → a < node_count s.net → b < node_count s.net
    → Some p ≡ option_and_then (λ (l : Lane). nth l.packets k) (lane_of s a b) → IsWorld s → IsOpened s a p (Err r)
    → IsNotBrought s a b k r
opened_not s a b k p refused.NoPacket backed in_a in_b is w opened = λ x old.
    let e = packet_there s x a b k (Some p) old in_a in_b is in
    delivery_is x a b k p e (packet_backed s.net x a b k p backed old.reached e) ∙ opened x old
opened_not s a b k p refused.NoMemory backed in_a in_b is w opened = tt
opened_not s a b k p (refused.Limit l) backed in_a in_b is w opened = absurd (opened w.world w.stands)
opened_not s a b k p (refused.Step f) backed in_a in_b is w opened = absurd (opened w.world w.stands)

-- what a node keeps of a delivery
kept_of_deliver : (net : Net) (x : model.World) (a b k : ℕ) (d : Effect)
    → node_effect net x b (delivery x a b k) ≡ Ok d → (v : ℕ)
    → kept_in net x v (Deliver a b k) ≡ only_if (v == b) d.made
unfolding kept_in
kept_of_deliver net x a b k d e v = ap (λ r. only_if (v == b) (made_by r)) e

-- the sender has a lane to the receiver, after the receiver's step too
pub lane_after : (s : WorldState) (x : model.World) (a b : ℕ) (d : Effect) (t u q : Station) (mid : List Station)
    → StandsFor s x → b < node_count s.net → station_of s b ≡ Some t → mid ≡ slice_set s.stations b u
    → GoesOn d t u → slice_get mid a ≡ Some q → b < length q.lanes
lane_after s x a b d t u q mid old inside at_b is g at_a =
    let seen_at : slice_get (slice_set s.stations b u) a ≡ Some q =
    ap (λ (l : List Station). slice_get l a) (sym is) ∙ at_a in
    elim (eqb_tells a b) [
      | inl same ↦ subst (λ (n : Station). b < length n.lanes)
          (set_there s.stations b u q
          (subst (λ (i : ℕ). slice_get (slice_set s.stations b u) i ≡ Some q) same.1 seen_at))
          (omega (arith, inside, g.lanes_.count, (old.stations_ b t at_b).lane_count))
      | inr other ↦ omega (
        arith,
        inside,
        (old.stations_ a q (sym (set_elsewhere s.stations b a u other.1) ∙ seen_at)).lane_count,
      )
    ]

-- the world after a delivery stands for that of the definitions
pub deliver_steps : (s : WorldState) (a b k : ℕ) (input : Input) (sent : Step) (mid stations : List Station)
    (j : Journal) → KeepsLaw → a < node_count s.net → b < node_count s.net → length s.stations ≡ node_count s.net
    → IsBrought s a b k input
    → ((t : Station) → station_of s b ≡ Some t → HasTakenAt s.stations b t input sent mid)
    → ((t : Station) → slice_get mid a ≡ Some t → IsMarkedAt mid a b k t stations)
    → HasNoted Origin.Mailed b sent.outs sent.kept s.journal j
    → Steps s (Deliver a b k) (record { net = s.net; stations = stations; journal = j })
deliver_steps s a b k input sent mid stations j law in_a in_b count came taken marked wrote = record {
  net_ = refl;
  leads = λ x old.
      let at_b = got_below s.stations b (omega (arith, in_b, count)) in
      let got = taken at_b.0 at_b.1 in
      let d : Effect = effect_in sent got.0.node in
      let brought = came x old in
      let done = ap (node_effect s.net x b) brought.0
      ∙ effect_ok s.net x b input d brought.1 (taken_effect s x b at_b.0 input d old at_b.1 got.2.due) in
      let y : model.World = apply_effect x b Origin.Mailed d in
      let stepped = deliver_ok s.net x a b k d done in
      let on : EachGoesOn s.net x y (Deliver a b k) s.stations mid =
      each_goes_on s.net x (Deliver a b k) b Origin.Mailed d s.stations mid at_b.0 got.0
      (kept_of_deliver s.net x a b k d done) at_b.1 got.1 got.2.goes in
      let kept_count = count_stays s.stations mid b got.0 got.1 in
      let q = got_below mid a (omega (arith, in_a, count, kept_count)) in
      let mark = marked q.0 q.1 in
      let l = got_below q.0.lanes b
      (lane_after s x a b d at_b.0 got.0 q.0 mid old in_b at_b.1 got.1 got.2.goes q.1) in (
        mark_delivered y a b k,
        stepped,
        stands_after s x (mark_delivered y a b k) (Deliver a b k) stations j old stepped
            (law s.net x (mark_delivered y a b k) (Deliver a b k) old.reached stepped)
            (count_stays mid stations a mark.0 mark.1 ∙ kept_count)
            (each_marked s.net x y (Deliver a b k) a b k s.stations mid stations q.0 mark.0 l.0 q.1 l.1 mark.1 mark.2 on)
            (journal_marked y a b k j (journal_after x b Origin.Mailed d s.journal j old.journal_ wrote)),
      );
}

pub deliver_can_be_noted : (s : WorldState) (a b k : ℕ) (input : Input) (sent : Step) (mid : List Station)
    (j : raw.Journal) → SentLaw → IsWorld s → node_count s.net ≤ 256 → b < node_count s.net
    → IsBrought s a b k input
    → ((t : Station) → station_of s b ≡ Some t → HasTakenAt s.stations b t input sent mid)
    → seen j ≡ s.journal → HasRoom j → CanNote b sent.outs sent.kept j
deliver_can_be_noted s a b k input sent mid j law is few inside came taken same room =
    let x = is.world in
    let old = is.stands in
    let at_b = got_below s.stations b (omega (arith, inside, old.station_count)) in
    let got = taken at_b.0 at_b.1 in
    let d : Effect = effect_in sent got.0.node in
    let brought = came x old in
    let due = taken_effect s x b at_b.0 input d old at_b.1 got.2.due in
    let stepped = deliver_ok s.net x a b k d
    (ap (node_effect s.net x b) brought.0 ∙ effect_ok s.net x b input d brought.1 due) in
    let y : model.World = apply_effect x b Origin.Mailed d in
    step_can_be_noted s x (mark_delivered y a b k) b input d j law few old (sym (same_limit s x old) ∙ brought.1) due
    (reached_next s.net x (mark_delivered y a b k) (Deliver a b k) old.reached stepped)
    (sent_marked y a b k ∙ sent_after x b Origin.Mailed d) same room

-- where packet k is no input, or a limit was reached, the step is refused so
pub deliver_not : (s : WorldState) (a b k : ℕ) (r : StepRefused) → IsNotBrought s a b k r
    → IsRefusalDue s (Deliver a b k) r
deliver_not s a b k refused.NoPacket due = λ x old.
    deliver_err s.net x a b k model.StepRefused.NoPacket
    (ap (node_effect s.net x b) (due x old) ∙ effect_none s.net x b)
deliver_not s a b k (refused.Limit l) due = λ x old.
    let d = due x old in
    deliver_err s.net x a b k (model.StepRefused.Limit l)
    (ap (node_effect s.net x b) d.1 ∙ effect_limit s.net x b d.0 l d.2)
deliver_not s a b k refused.NoMemory due = tt
deliver_not s a b k (refused.Step f) due = absurd due

pub deliver_refused : (s : WorldState) (a b k : ℕ) (input : Input) (r : StepRefused) → b < node_count s.net
    → length s.stations ≡ node_count s.net → IsBrought s a b k input
    → ((t : Station) → station_of s b ≡ Some t → IsInputDue t input r) → IsRefusalDue s (Deliver a b k) r
deliver_refused s a b k input r inside count came due =
    let at_b = got_below s.stations b (omega (arith, inside, count)) in
    node_refuses s (Deliver a b k) b at_b.0 input (λ x. delivery x a b k) r
    (λ x g old e. deliver_err s.net x a b k g e) came at_b.1 (due at_b.0 at_b.1)

-- the sender's lane is there to be marked
pub mark_inside : (s : WorldState) (a b : ℕ) (input : Input) (sent : Step) (mid : List Station) → IsWorld s
    → a < node_count s.net → b < node_count s.net
    → ((t : Station) → station_of s b ≡ Some t → HasTakenAt s.stations b t input sent mid)
    → (a < length mid) × ((t : Station) → slice_get mid a ≡ Some t → b < length t.lanes)
mark_inside s a b input sent mid is in_a in_b taken =
    let old = is.stands in
    let at_b = got_below s.stations b (omega (arith, in_b, old.station_count)) in
    let got = taken at_b.0 at_b.1 in (
      omega (arith, in_a, old.station_count, count_stays s.stations mid b got.0 got.1),
      λ t e. lane_after s is.world a b (effect_in sent got.0.node) at_b.0 got.0 t mid old in_b at_b.1 got.1
          got.2.goes e,
    )

-- what is opened is brought, or it is not
pub brought_by : (s : WorldState) (a b k : ℕ) (p : Packet) (r : Result Input StepRefused) → BackedLaw
    → a < node_count s.net → b < node_count s.net
    → Some p ≡ option_and_then (λ (l : Lane). nth l.packets k) (lane_of s a b)
    → limit_at s.journal.taken s.journal.sent s.journal.kept ≡ None → IsOpened s a p r
    → IfOk r (λ i. IsBrought s a b k i)
brought_by s a b k p (Ok i) law in_a in_b is free opened = opened_brought s a b k p i law in_a in_b is free opened
brought_by s a b k p (Err e) law in_a in_b is free opened = tt

pub not_brought_by : (s : WorldState) (a b k : ℕ) (p : Packet) (r : Result Input StepRefused) → BackedLaw
    → a < node_count s.net → b < node_count s.net
    → Some p ≡ option_and_then (λ (l : Lane). nth l.packets k) (lane_of s a b) → IsWorld s → IsOpened s a p r
    → IfErr r (λ e. IsNotBrought s a b k e)
not_brought_by s a b k p (Ok i) law in_a in_b is w opened = tt
not_brought_by s a b k p (Err e) law in_a in_b is w opened = opened_not s a b k p e law in_a in_b is w opened
