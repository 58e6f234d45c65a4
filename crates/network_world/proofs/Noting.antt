-- What is written of a step, and that there is room for it.
use Rattle.std.proofs.Common.{◌≡◌, ◌∷◌, ◌+◌, ◌*◌, ◌<◌, ◌≤◌, ◌++◌, ◌∙◌, [], ℕ, Bool, List, None, Ok, Option, ap}
use Rattle.std.proofs.Common.{append_assoc, arith, drop, false, get_or, length, length-append, refl, sym, take}
use Rattle.std.proofs.Common.{take_all, true}
use Rattle.std.proofs.lemmas.Bool.{leb-false}
use Rattle.std.proofs.lemmas.List.Elements.{filter_map-append}
use Rattle.std.specs.Option.{option_map_or, option_to_list}
use Rattle.std.specs.Prelude.{count_by, filter_map, nat_le}
use Rattle.model_laws.proofs.Answered.{mailed_history}
use Rattle.lemmas.proofs.Lists.{drop_here}
use Rattle.base_types.specs.Grown.{Grown}
use Rattle.model.specs.Types.{Entry, Input, Launch, LimitName, Net, Out, Send, Start}
use Rattle.model.specs.Words.{first_of_these}
use Rattle.model.specs.Network.{node_count}
use Rattle.model.specs.Sizes.{entry_size}
use Rattle.model.specs.Step.{Effect, node_step}
use Rattle.model.specs.World as model
use Rattle.model.specs.World.{Origin, apply_effect, history_with, is_send, mark_delivered, start_in, view_at}
use Rattle.network_world.specs.Stations.{Journal, WorldState}
use Rattle.network_world.specs.Refusals.{limit_at}
use Rattle.network_world.specs.Standing.{IsReached, StandsFor}
use Rattle.network_world.specs.Journals.{CanNote, HasNoted, HasRoom, HasStarts, seen}
use Rattle.network_world.specs.declared.journals.Journal as raw
use Rattle.network_world.proofs.Lists.{take_more}
use Rattle.network_world.proofs.Starting.{step_starts_one, step_weighs}

-- one start more
one_start : (w : ℕ) (out : Out) → filter_map (start_in w) (out ∷ []) ≡ option_to_list (start_in w out)
one_start w (Launch j n work) = refl
one_start w (Out.Kill j n) = refl
one_start w (Send to p) = refl

pub starts_next : (w : ℕ) (outs : List Out) (i : ℕ) (out : Out) (old mid new : List Start) → i < length outs
    → out ≡ get_or outs i out → mid ≡ old ++ filter_map (start_in w) (take i outs)
    → new ≡ mid ++ option_to_list (start_in w out) → new ≡ old ++ filter_map (start_in w) (take (i + 1) outs)
starts_next w outs i out old mid new h is before now =
    now ∙ ap (λ (l : List Start). l ++ option_to_list (start_in w out)) before
    ∙ append_assoc old (filter_map (start_in w) (take i outs)) (option_to_list (start_in w out))
    ∙ ap (λ (l : List Start). old ++ l)
    (ap (λ (l : List Start). filter_map (start_in w) (take i outs) ++ l) (sym (one_start w out))
    ∙ sym (filter_map-append (start_in w) (take i outs) (out ∷ []))
    ∙ ap (filter_map (start_in w)) (sym (take_more outs i out h is)))

pub starts_end : (w : ℕ) (outs : List Out) (i : ℕ) (old new : List Start) → length outs ≤ i
    → new ≡ old ++ filter_map (start_in w) (take i outs) → new ≡ old ++ filter_map (start_in w) outs
starts_end w outs i old new h e =
    e ∙ ap (λ (os : List Out). old ++ filter_map (start_in w) os) (take_all i outs h)

-- the room for those that are left
starts_left : (w : ℕ) (outs : List Out) (i : ℕ) (out : Out) → i < length outs → out ≡ get_or outs i out
    → length (filter_map (start_in w) (drop i outs))
    ≡ length (option_to_list (start_in w out)) + length (filter_map (start_in w) (drop (i + 1) outs))
starts_left w outs i out h is =
    ap (λ (os : List Out). length (filter_map (start_in w) os)) (drop_here outs i out h is)
    ∙ ap length (filter_map-append (start_in w) (out ∷ []) (drop (i + 1) outs))
    ∙ length-append (filter_map (start_in w) (out ∷ [])) (filter_map (start_in w) (drop (i + 1) outs))
    ∙ ap (λ (l : List Start). length l + length (filter_map (start_in w) (drop (i + 1) outs))) (one_start w out)

pub start_room : (w : ℕ) (outs : List Out) (i : ℕ) (out : Out) (spare : ℕ) → i < length outs
    → out ≡ get_or outs i out → length (filter_map (start_in w) (drop i outs)) ≤ spare
    → length (option_to_list (start_in w out)) ≤ spare
start_room w outs i out spare h is room = omega (arith, room, starts_left w outs i out h is)

pub start_room_next : (w : ℕ) (outs : List Out) (i : ℕ) (out : Out) (spare less : ℕ) → i < length outs
    → out ≡ get_or outs i out → length (filter_map (start_in w) (drop i outs)) ≤ spare
    → less + length (option_to_list (start_in w out)) ≡ spare
    → length (filter_map (start_in w) (drop (i + 1) outs)) ≤ less
start_room_next w outs i out spare less h is room put =
    omega (arith, room, put, starts_left w outs i out h is)

-- what is counted of a list that is gone through
pub sends_end : (outs : List Out) (i count : ℕ) → length outs ≤ i → count ≡ count_by is_send (take i outs)
    → count ≡ count_by is_send outs
sends_end outs i count h e = e ∙ ap (count_by is_send) (take_all i outs h)

-- the numbers are below their limits where none is told
pub limits_below : (taken sent kept : ℕ) → limit_at taken sent kept ≡ None
    → (taken < 200000) × (sent < 20000000) × (kept < 268435456)
limits_below taken sent kept none =
    let all = go (nat_le 200000 taken) (nat_le 20000000 sent) (nat_le 268435456 kept) none in
    (leb-false 200000 taken all.0, leb-false 20000000 sent all.1, leb-false 268435456 kept all.2)
  where
    go : (a b c : Bool)
        → first_of_these ((a, LimitName.Steps) ∷ (b, LimitName.Packets) ∷ (c, LimitName.Bytes) ∷ []) ≡ None
        → (a ≡ false) × (b ≡ false) × (c ≡ false)
    go true b c e = cc
    go false true c e = cc
    go false false true e = cc
    go false false false e = (refl, refl, refl)

pub sent_after : (x : model.World) (w : ℕ) (o : Origin) (d : Effect)
    → (apply_effect x w o d).sent ≡ x.sent + count_by is_send d.outs
unfolding apply_effect
sent_after x w o d = refl

pub sent_marked : (x : model.World) (a b k : ℕ) → (mark_delivered x a b k).sent ≡ x.sent
unfolding mark_delivered
sent_marked x a b k = refl

-- the step of a node can be written down, where room was made before
pub step_can_be_noted : (s : WorldState) (x y : model.World) (w : ℕ) (input : Input) (d : Effect) (j : raw.Journal)
    → ((net : Net) (z : model.World) → IsReached net z → z.sent ≤ 19999999 + 8 * node_count net)
    → node_count s.net ≤ 256 → StandsFor s x
    → limit_at s.journal.taken s.journal.sent s.journal.kept ≡ None
    → node_step s.net w (view_at x w) (x.sessions w) input ≡ Ok d → IsReached s.net y
    → y.sent ≡ x.sent + count_by is_send d.outs → seen j ≡ s.journal → HasRoom j → CanNote w d.outs d.made j
step_can_be_noted s x y w input d j law few old none e reached sent same room =
    let below = limits_below s.journal.taken s.journal.sent s.journal.kept none in
    record {
      history_ = room.history_;
      starts_ =
          omega (
            arith,
            room.starts_,
            step_starts_one s.net w w (view_at x w) (x.sessions w) input d e,
          );
      taken_ = omega (arith, below.0, ap (λ (n : Journal). n.taken) same);
      sent_ =
          omega (
            arith,
            law s.net y reached,
            few,
            sent,
            old.journal_.sent_,
            ap (λ (n : Journal). n.sent) same,
          );
      kept_ =
          omega (
            arith,
            below.2,
            ap (λ (n : Journal). n.kept) same,
            step_weighs s.net w (view_at x w) (x.sessions w) input d e,
          );
      size_ = step_weighs s.net w (view_at x w) (x.sessions w) input d e;
    }

-- and so can one that gives nothing out
pub stop_can_be_noted : (s : WorldState) (w : ℕ) (made : Option Entry) (j : raw.Journal)
    → limit_at s.journal.taken s.journal.sent s.journal.kept ≡ None → option_map_or entry_size made 0 ≤ 4194304
    → seen j ≡ s.journal → HasRoom j → CanNote w [] made j
stop_can_be_noted s w made j none weighs same room =
    let below = limits_below s.journal.taken s.journal.sent s.journal.kept none in
    record {
      history_ = room.history_;
      starts_ = omega arith;
      taken_ = omega (arith, below.0, ap (λ (n : Journal). n.taken) same);
      sent_ = omega (arith, below.1, ap (λ (n : Journal). n.sent) same);
      kept_ = omega (arith, below.2, ap (λ (n : Journal). n.kept) same, weighs);
      size_ = weighs;
    }

-- a journal after its starts and after its entry
pub own_noted : (w : ℕ) (outs : List Out) (made : Option Entry) (old mid : raw.Journal) (history : List Entry) (kept : ℕ)
    → HasStarts w outs old mid → history ≡ history_with Origin.Own old.history.items made
    → kept ≡ old.kept + option_map_or entry_size made 0
    → HasNoted Origin.Own w outs made (seen old)
    (record { history = history; starts = mid.starts.items; taken = mid.taken; sent = mid.sent; kept = kept })
own_noted w outs made old mid history kept h wrote weighed =
    record {
      history_ = wrote;
      starts_ = h.starts_;
      taken_ = h.taken_;
      sent_ = h.sent_;
      kept_ = weighed;
    }

pub mailed_noted : (w : ℕ) (outs : List Out) (made : Option Entry) (old mid : raw.Journal) (kept : ℕ)
    → HasStarts w outs old mid → kept ≡ old.kept + option_map_or entry_size made 0
    → HasNoted Origin.Mailed w outs made (seen old)
    (record {
      history = mid.history.items;
      starts = mid.starts.items;
      taken = mid.taken;
      sent = mid.sent;
      kept = kept;
    })
mailed_noted w outs made old mid kept h weighed =
    record {
      history_ = ap (λ (g : Grown Entry). g.items) h.history_ ∙ sym (mailed_history old.history.items made);
      starts_ = h.starts_;
      taken_ = h.taken_;
      sent_ = h.sent_;
      kept_ = weighed;
    }
