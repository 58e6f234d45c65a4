-- Packets that come to the ends of lanes.
use Rattle.std.proofs.Common.{◌≡◌, ◌≢◌, ◌∷◌, ◌+◌, ◌<◌, ◌≤◌, ◌++◌, ◌∙◌, [], ℕ, Bool, List, None, Option, Some, ap, append-nil}
use Rattle.std.proofs.Common.{append_assoc, arith, cond, drop, eqb, false, get_or, inl, inr, length, length-append, map, option_map}
use Rattle.std.proofs.Common.{refl, subst, suc, sym, take, take_all, true, zero}
use Rattle.std.proofs.Common.{Err, Ok, OnOk, Result}
use Rattle.std.proofs.lemmas.Bool.{eq-eqb}
use Rattle.std.proofs.lemmas.Bool.Decides.{eqb_tells}
use Rattle.std.proofs.lemmas.List.{length-map}
use Rattle.std.proofs.lemmas.Option.{slice_get-map}
use Rattle.std.specs.Prelude.{is_ok, slice_get, slice_set}
use Rattle.lemmas.proofs.Lists.{drop_here, got_below}
use Rattle.lemmas.proofs.Options.{map_some, none_some}
use Rattle.lemmas.proofs.Results.{after_ok, on_ok}
use Rattle.base_types.specs.Grown.{Grown}
use Rattle.model.specs.Types.{Launch, Out, Packet, Send}
use Rattle.model.specs.World.{packets_to}
use Rattle.network_world.specs.Stations.{Lane}
use Rattle.network_world.specs.Lanes.{GetsPacket, HasMore, HasRoomAt, HaveMore, HaveRoom, HaveRoomBut, HaveRoomFor, IsMarked}
use Rattle.network_world.specs.Lanes.{seen}
use Rattle.network_world.specs.Moves.{LanesGrow}
use Rattle.network_world.specs.declared.lanes.Lane as raw
use Rattle.network_world.proofs.Lists.{map_set_same, set_elsewhere, set_length, set_there}
use Rattle.network_world.proofs.Lists.{take_more}

pub packets_append : (b : ℕ) (xs ys : List Out) → packets_to b (xs ++ ys) ≡ packets_to b xs ++ packets_to b ys
packets_append b [] ys = refl
packets_append b (Launch j n work ∷ xs) ys = packets_append b xs ys
packets_append b (Out.Kill j n ∷ xs) ys = packets_append b xs ys
packets_append b (Send to p ∷ xs) ys = go (eqb to b) (packets_append b xs ys)
  where
    go : (c : Bool) → packets_to b (xs ++ ys) ≡ packets_to b xs ++ packets_to b ys
        → cond c (p ∷ packets_to b (xs ++ ys)) (packets_to b (xs ++ ys))
        ≡ cond c (p ∷ packets_to b xs) (packets_to b xs) ++ packets_to b ys
    go true h = ap (λ (l : List Packet). p ∷ l) h
    go false h = h

count_append : (b : ℕ) (xs ys : List Out)
    → length (packets_to b (xs ++ ys)) ≡ length (packets_to b xs) + length (packets_to b ys)
count_append b xs ys = ap length (packets_append b xs ys) ∙ length-append (packets_to b xs) (packets_to b ys)

sent_there : (b : ℕ) (p : Packet) → packets_to b (Send b p ∷ []) ≡ p ∷ []
sent_there b p = rw (eq-eqb b b refl) refl

sent_elsewhere : (to b : ℕ) (p : Packet) → to ≢ b → packets_to b (Send to p ∷ []) ≡ []
sent_elsewhere to b p h =
    elim (eqb_tells to b) [
      | inl e ↦ absurd (h e.1)
      | inr e ↦ rw e.0 refl
    ]

-- a lane that stays, and one to which more comes twice
more_none : (l : raw.Lane) → HasMore [] l l
more_none l =
    record { packets_ = sym (append-nil l.packets.items); reached_ = refl; less = omega arith }

more_both : (ps qs : List Packet) (l m n : raw.Lane) → HasMore ps l m → HasMore qs m n → HasMore (ps ++ qs) l n
more_both ps qs l m n h k =
    record {
      packets_ =
          k.packets_ ∙ ap (λ (l : List Packet). l ++ qs) h.packets_ ∙ append_assoc l.packets.items ps qs;
      reached_ = k.reached_ ∙ h.reached_;
      less = omega (arith, h.less, k.less, length-append ps qs);
    }

pub lanes_begin : (lanes : List raw.Lane) → HaveMore [] lanes lanes
lanes_begin lanes = record { count = refl; each = λ b m e. (m, e, more_none m) }

-- lanes after one out more
pub lanes_next : (outs : List Out) (i : ℕ) (out : Out) (old mid new : List raw.Lane) → i < length outs
    → out ≡ get_or outs i out → HaveMore (take i outs) old mid → HaveMore (out ∷ []) mid new
    → HaveMore (take (i + 1) outs) old new
lanes_next outs i out old mid new h is first more =
    record {
      count = more.count ∙ first.count;
      each = λ b n e.
          let k = more.each b n e in
          let g = first.each b k.0 k.1 in (
            g.0,
            g.1,
            subst (λ (ps : List Packet). HasMore ps g.0 n)
                (sym (ap (packets_to b) (take_more outs i out h is) ∙ packets_append b (take i outs) (out ∷ [])))
                (more_both (packets_to b (take i outs)) (packets_to b (out ∷ [])) g.0 k.0 n g.2 k.2),
          );
    }

pub lanes_end : (outs : List Out) (i : ℕ) (old new : List raw.Lane) → length outs ≤ i
    → HaveMore (take i outs) old new → HaveMore outs old new
lanes_end outs i old new h more = subst (λ (os : List Out). HaveMore os old new) (take_all i outs h) more

-- the room that is left
left_count : (b : ℕ) (outs : List Out) (i : ℕ) (out : Out) → i < length outs → out ≡ get_or outs i out
    → length (packets_to b (drop i outs))
    ≡ length (packets_to b (out ∷ [])) + length (packets_to b (drop (i + 1) outs))
left_count b outs i out h is =
    ap (λ (os : List Out). length (packets_to b os)) (drop_here outs i out h is)
    ∙ count_append b (out ∷ []) (drop (i + 1) outs)

pub room_one : (outs : List Out) (i : ℕ) (out : Out) (lanes : List raw.Lane) → i < length outs
    → out ≡ get_or outs i out → HaveRoomFor (drop i outs) lanes → HaveRoomFor (out ∷ []) lanes
room_one outs i out lanes h is room = λ b l e. omega (arith, room b l e, left_count b outs i out h is)

pub room_rest : (outs : List Out) (i : ℕ) (out : Out) (mid new : List raw.Lane) → i < length outs
    → out ≡ get_or outs i out → HaveRoomFor (drop i outs) mid → HaveMore (out ∷ []) mid new
    → HaveRoomFor (drop (i + 1) outs) new
room_rest outs i out mid new h is room more =
    λ b n e.
    let k = more.each b n e in
    omega (arith, room b k.0 k.1, k.2.less, left_count b outs i out h is)

-- one out: a packet comes to the end of its lane, where there is one, and nothing else does anything
pub packet_put : (lanes new : List raw.Lane) (to : ℕ) (p : Packet)
    → ((l : raw.Lane) → slice_get lanes to ≡ Some l → GetsPacket lanes to p l new)
    → (slice_get lanes to ≡ None → new ≡ lanes) → HaveMore (Send to p ∷ []) lanes new
packet_put lanes new to p there none = go (slice_get lanes to) refl
  where
    nobody : slice_get lanes to ≡ None → HaveMore (Send to p ∷ []) lanes lanes
    nobody e =
        record {
          count = refl;
          each = λ b m at_b.
              elim (eqb_tells to b) [
                | inl same ↦ absurd (clash b m same.1 at_b)
                | inr other ↦ (
                  m,
                  at_b,
                  subst (λ (ps : List Packet). HasMore ps m m) (sym (sent_elsewhere to b p other.1)) (more_none m),
                )
              ];
        }
      where
        clash : (b : ℕ) (m : raw.Lane) → to ≡ b → slice_get lanes b ≡ Some m → ⊥
        clash b m same at_b = none_some (sym (subst (λ (c : ℕ). slice_get lanes c ≡ None) same e) ∙ at_b)

    somebody : (l : raw.Lane) → slice_get lanes to ≡ Some l → GetsPacket lanes to p l new
        → HaveMore (Send to p ∷ []) lanes new
    somebody l e g =
        record {
          count = ap length g.1 ∙ set_length lanes to g.0;
          each = λ b n at_b.
              let seen_at : slice_get (slice_set lanes to g.0) b ≡ Some n =
              ap (λ (ls : List raw.Lane). slice_get ls b) (sym g.1) ∙ at_b in
              elim (eqb_tells to b) [
                | inl same ↦ (
                  l,
                  subst (λ (c : ℕ). slice_get lanes c ≡ Some l) same.1 e,
                  subst (λ (c : ℕ). HasMore (packets_to c (Send to p ∷ [])) l n) same.1
                      (subst (λ (ps : List Packet). HasMore ps l n) (sym (sent_there to p))
                      (subst (λ (m : raw.Lane). HasMore (p ∷ []) l m)
                      (set_there lanes to g.0 n
                      (subst (λ (c : ℕ). slice_get (slice_set lanes to g.0) c ≡ Some n) (sym same.1) seen_at)) g.2)),
                )
                | inr other ↦ (
                  n,
                  sym (set_elsewhere lanes to b g.0 (λ c. other.1 (sym c))) ∙ seen_at,
                  subst (λ (ps : List Packet). HasMore ps n n) (sym (sent_elsewhere to b p other.1)) (more_none n),
                )
              ];
        }

    go : (o : Option raw.Lane) → slice_get lanes to ≡ o → HaveMore (Send to p ∷ []) lanes new
    go None e = subst (λ (ls : List raw.Lane). HaveMore (Send to p ∷ []) lanes ls) (sym (none e)) (nobody e)
    go (Some l) e = somebody l e (there l e)

-- where room for one is needed there is some
pub room_for_packet : (lanes : List raw.Lane) (to : ℕ) (p : Packet) → HaveRoomFor (Send to p ∷ []) lanes
    → (l : raw.Lane) → slice_get lanes to ≡ Some l → 1 ≤ l.packets.spare
room_for_packet lanes to p room l e = omega (arith, room to l e, ap length (sent_there to p))

-- nothing goes to lanes by a launch or a kill
pub launch_put : (lanes : List raw.Lane) (out : Out) → ((b : ℕ) → packets_to b (out ∷ []) ≡ [])
    → HaveMore (out ∷ []) lanes lanes
launch_put lanes out nothing =
    record {
      count = refl;
      each = λ b m e. (m, e, subst (λ (ps : List Packet). HasMore ps m m) (sym (nothing b)) (more_none m));
    }

-- as the world sees it
pub lanes_grow : (outs : List Out) (old new : List raw.Lane) → HaveMore outs old new
    → LanesGrow outs (map seen old) (map seen new)
lanes_grow outs old new h =
    record {
      count = length-map new seen ∙ h.count ∙ sym (length-map old seen);
      each = λ b m e.
          let g = map_some seen (slice_get new b) m (sym (slice_get-map seen new b) ∙ e) in
          let k = h.each b g.0 g.1 in (
            seen k.0,
            slice_get-map seen old b ∙ ap (option_map seen) k.1,
            ap (λ (l : Lane). l.packets) (sym g.2) ∙ k.2.packets_,
            ap (λ (l : Lane). l.reached) (sym g.2) ∙ k.2.reached_,
          );
    }

-- room in one lane more
pub room_same : (lanes new : List raw.Lane) (i : ℕ) (l m : raw.Lane) → slice_get lanes i ≡ Some l
    → HasRoomAt lanes i l m new → map seen new ≡ map seen lanes
room_same lanes new i l m e h = ap (map seen) h.0 ∙ map_set_same seen lanes i l m e h.1

abbrev pub HaveRoomBelow : ℕ → List raw.Lane → Type 0
HaveRoomBelow i lanes = (b : ℕ) (l : raw.Lane) → b < i → slice_get lanes b ≡ Some l → 8 ≤ l.packets.spare

pub room_next : (lanes new : List raw.Lane) (i : ℕ) (l m : raw.Lane) → HaveRoomBelow i lanes
    → HasRoomAt lanes i l m new → 8 ≤ m.packets.spare → HaveRoomBelow (i + 1) new
room_next lanes new i l m room h more = λ b n below e.
    let seen_at : slice_get (slice_set lanes i m) b ≡ Some n =
    ap (λ (ls : List raw.Lane). slice_get ls b) (sym h.0) ∙ e in
    elim (eqb_tells b i) [
      | inl same ↦ subst (λ (k : raw.Lane). 8 ≤ k.packets.spare)
          (set_there lanes i m n (subst (λ (c : ℕ). slice_get (slice_set lanes i m) c ≡ Some n) same.1 seen_at)) more
      | inr other ↦ room b n (omega (arith, below, other.1)) (sym (set_elsewhere lanes i b m other.1) ∙ seen_at)
    ]

pub room_all : (lanes : List raw.Lane) (i : ℕ) → length lanes ≤ i → HaveRoomBelow i lanes → HaveRoom 8 lanes
room_all lanes i h room = λ b l e. room b l (omega (arith, h, within lanes b l e)) e
  where
    within : (lanes : List raw.Lane) (b : ℕ) (l : raw.Lane) → slice_get lanes b ≡ Some l → b < length lanes
    within [] b l e = cc
    within (k ∷ lanes) zero l e = omega arith
    within (k ∷ lanes) (suc b) l e = omega (arith, within lanes b l e)

-- room for eight is room for what a step sends
pub room_enough : (outs : List Out) (lanes : List raw.Lane) → HaveRoom 8 lanes
    → ((to : ℕ) → length (packets_to to outs) ≤ 8) → HaveRoomFor outs lanes
room_enough outs lanes room few = λ b l e. omega (arith, room b l e, few b)

-- a lane whose packet was delivered has the same room
pub room_marked : (old new : List raw.Lane) (to k : ℕ) → to < length old
    → ((l : raw.Lane) → slice_get old to ≡ Some l → IsMarked old to k l new) → HaveRoom 8 old → HaveRoom 8 new
room_marked old new to k below mark room =
    let place = got_below old to below in
    let marked = mark place.0 place.1 in
    λ b n e.
    let at_b : slice_get (slice_set old to marked.0) b ≡ Some n =
    ap (λ (ls : List raw.Lane). slice_get ls b) (sym marked.1) ∙ e in
    elim (eqb_tells b to) [
      | inl same ↦ subst (λ (m : raw.Lane). 8 ≤ m.packets.spare)
          (set_there old to marked.0 n
          (subst (λ (c : ℕ). slice_get (slice_set old to marked.0) c ≡ Some n) same.1 at_b))
          (omega (arith, room to place.0 place.1, ap (λ (g : Grown Packet). g.spare) marked.2))
      | inr other ↦ room b n (sym (set_elsewhere old to b marked.0 other.1) ∙ at_b)
    ]

-- lanes to whose ends packets came lack no room but for these
pub room_but : (outs : List Out) (old new : List raw.Lane) → HaveRoom 8 old → HaveMore outs old new
    → HaveRoomBut outs new
room_but outs old new room more = λ b n e. let k = more.each b n e in omega (arith, room b k.0 k.1, k.2.less)

-- what goes to nobody takes no room
pub room_passed : (out : Out) (outs : List Out) (lanes : List raw.Lane)
    → ((b : ℕ) → packets_to b (out ∷ []) ≡ []) → HaveRoomBut (out ∷ outs) lanes → HaveRoomBut outs lanes
room_passed out outs lanes nothing room =
    λ b l e. omega (arith, room b l e, count_append b (out ∷ []) outs, ap length (nothing b))

-- all have room again
none_left : (outs : List Out) (i b : ℕ) → length outs ≤ i → length (packets_to b (drop i outs)) ≡ 0
none_left [] zero b h = refl
none_left [] (suc i) b h = refl
none_left (out ∷ outs) zero b h = absurd (omega (arith, h))
none_left (out ∷ outs) (suc i) b h = none_left outs i b (omega (arith, h))

pub room_regained : (outs : List Out) (i : ℕ) (lanes : List raw.Lane) → length outs ≤ i
    → HaveRoomBut (drop i outs) lanes → HaveRoom 8 lanes
room_regained outs i lanes h room = λ b l e. omega (arith, room b l e, none_left outs i b h)

-- what stands behind a success that is tested
pub tested : {T E P : Type 0} (r : Result T E) → OnOk r P → is_ok r ≡ true → P
tested (Ok x) p e = p
tested (Err x) p e = cc

-- room was made in the lane to a workstation, where there is such a lane
module _ {T E : Type 0} (old new : List raw.Lane) (to : ℕ) (r : Result T E)
    (there : (l : raw.Lane) → slice_get old to ≡ Some l
    → (m : raw.Lane) × HasRoomAt old to l m new × OnOk r (8 ≤ m.packets.spare))
    (none : slice_get old to ≡ None → new ≡ old) where
  pub lanes_same : map seen new ≡ map seen old
  lanes_same = go (slice_get old to) refl
    where
      go : (o : Option raw.Lane) → slice_get old to ≡ o → map seen new ≡ map seen old
      go None e = ap (map seen) (none e)
      go (Some l) e = let t = there l e in room_same old new to l t.0 e t.1

  -- all others have the room that they had
  nowhere : (p : Packet) (outs : List Out) → slice_get old to ≡ None → HaveRoomBut (Send to p ∷ outs) old
      → HaveRoomBut outs old
  nowhere p outs is room = λ b l e.
      elim (eqb_tells to b) [
        | inl same ↦ absurd (clash b l same.1 e)
        | inr other ↦ omega (
          arith,
          room b l e,
          count_append b (Send to p ∷ []) outs,
          ap length (sent_elsewhere to b p other.1),
        )
      ]
    where
      clash : (b : ℕ) (l : raw.Lane) → to ≡ b → slice_get old b ≡ Some l → ⊥
      clash b l same e = none_some (sym (subst (λ (c : ℕ). slice_get old c ≡ None) same is) ∙ e)

  somewhere : (p : Packet) (outs : List Out) (l m : raw.Lane) → new ≡ slice_set old to m → 8 ≤ m.packets.spare
      → HaveRoomBut (Send to p ∷ outs) old → HaveRoomBut outs new
  somewhere p outs l m is more room = λ b n e.
      let at_b : slice_get (slice_set old to m) b ≡ Some n = ap (λ (ls : List raw.Lane). slice_get ls b) (sym is) ∙ e in
      elim (eqb_tells b to) [
        | inl same ↦ let enough : 8 ≤ n.packets.spare =
            subst (λ (k : raw.Lane). 8 ≤ k.packets.spare)
            (set_there old to m n (subst (λ (c : ℕ). slice_get (slice_set old to m) c ≡ Some n) same.1 at_b)) more in
            omega (arith, enough)
        | inr other ↦ omega (
          arith,
          room b n (sym (set_elsewhere old to b m other.1) ∙ at_b),
          count_append b (Send to p ∷ []) outs,
          ap length (sent_elsewhere to b p (λ c. other.1 (sym c))),
        )
      ]

  pub room_again : (p : Packet)
      → OnOk r ((outs : List Out) → HaveRoomBut (Send to p ∷ outs) old → HaveRoomBut outs new)
  room_again p = go (slice_get old to) refl
    where
      go : (o : Option raw.Lane) → slice_get old to ≡ o
          → OnOk r ((outs : List Out) → HaveRoomBut (Send to p ∷ outs) old → HaveRoomBut outs new)
      go None is =
          on_ok r (λ outs room. subst (λ (ls : List raw.Lane). HaveRoomBut outs ls) (sym (none is)) (nowhere p outs is room))
      go (Some l) is =
          let t = there l is in
          after_ok r t.2 (λ more outs room. somewhere p outs l t.0 t.1.0 more room)

-- what is no send goes to nobody
pub sends_nothing : (out : Out) → ((to : ℕ) (p : Packet) → out ≡ Send to p → ⊥) → (b : ℕ)
    → packets_to b (out ∷ []) ≡ []
sends_nothing (Launch j n work) h b = refl
sends_nothing (Out.Kill j n) h b = refl
sends_nothing (Send to p) h b = absurd (h to p refl)
