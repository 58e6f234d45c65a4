-- From each linked world there is a round, where turns have room.
use Rattle.std.proofs.Common.{◌≡◌, ◌≢◌, ℕ, zero, suc, ◌+◌, ◌-◌, ◌<◌, ◌≤◌, true, ◌⊎◌, inl, inr}
use Rattle.std.proofs.Common.{List, [], ◌∷◌, ◌++◌, length, length-append, map, refl, ap, sym, subst, arith, Some}
use Rattle.std.proofs.lemmas.Bool.Decides.{eqb_tells}
use Rattle.std.specs.List.{AllByRecursion}
use Rattle.std.specs.Prelude.{Ok, flat_map, slice_get}
use Rattle.lemmas.proofs.Lists.{all_append, all_map, flat_all}
use Rattle.lemmas.proofs.Numbers.{below_or_not}
use Rattle.model.specs.Types.{Deliver, Linked, Net, Packet, Take, Turn, WorldStep}
use Rattle.model.specs.Words.{below, nth, numbers_from}
use Rattle.model.specs.Network.{IsTree, node_count}
use Rattle.model.specs.FreeSteps.{free_step}
use Rattle.model.specs.World.{World}
use Rattle.model.specs.Invariant.{Invariant}
use Rattle.model_laws.proofs.FreeRuns.{free_kept}
use Rattle.model_laws.proofs.Lists.{each_such}
use Rattle.rest_laws.specs.Leads.{next_packet}
use Rattle.rest_laws.specs.Left.{keeps_to}
use Rattle.rest_laws.specs.Rounds.{AreTaken, IsAmong, IsRound, is_of_round}
use Rattle.rest_laws.specs.ToRest.{AlwaysHasRoom, AreAmong, names_inside}
use Rattle.rest_laws.proofs.Lefts.{delivered_same, linked_same}
use Rattle.rest_laws.proofs.Sending.{IsAck, IsMail, IsNone, Near, Sends, Sent}
use Rattle.rest_laws.proofs.Rounds.{nth_more, taken_append}
use Rattle.rest_laws.proofs.Phases.{names_same, turn_named, Done, mail_done, ack_done, Phase, phase_none, phase_on}
use Rattle.rest_laws.proofs.Phases.{turn_of, phase_turns}

-- packets that are due
record IsDue (net : Net) (P : Packet → Type 0) (y : World) (d : ℕ × (ℕ × ℕ)) : Type 0 where
  near : Near net d.0 d.1.0
  packet : Packet
  there : nth (y.packets d.0 d.1.0) d.1.1 ≡ Some packet
  is : P packet

delivery_of : ℕ × (ℕ × ℕ) → WorldStep
delivery_of d = Deliver d.0 d.1.0 d.1.1

still_due : (net : Net) (P Q : Packet → Type 0) (y z : World) → Sends net Q y z → (ds : List (ℕ × (ℕ × ℕ)))
    → AllByRecursion (IsDue net P y) ds → AllByRecursion (IsDue net P z) ds
still_due net P Q y z sends [] h = tt
still_due net P Q y z sends (d ∷ ds) h = (
  record {
    near = h.0.near;
    packet = h.0.packet;
    there =
        subst (λ (l : List Packet). nth l d.1.1 ≡ Some h.0.packet) (sym (sends d.0 d.1.0).more)
        (nth_more (y.packets d.0 d.1.0) (sends d.0 d.1.0).rest d.1.1 h.0.packet h.0.there);
    is = h.0.is;
  },
  still_due net P Q y z sends ds h.1,
)

phase_deliveries : (net : Net) (readings : ℕ → List ℕ) (P Q : Packet → Type 0) → ((y : World) (a b k : ℕ) (p : Packet) → Invariant net y
    → names_inside net y ≡ true → Near net a b → nth (y.packets a b) k ≡ Some p → P p → Done net Q y (Deliver a b k))
    → (y : World) (ds : List (ℕ × (ℕ × ℕ))) → Invariant net y → names_inside net y ≡ true → AllByRecursion (IsDue net P y) ds
    → Phase net readings Q y (map delivery_of ds)
unfolding delivery_of
phase_deliveries net readings P Q one y [] inv names due = phase_none net readings Q y inv names
phase_deliveries net readings P Q one y (d ∷ ds) inv names due =
    let first : Done net Q y (Deliver d.0 d.1.0 d.1.1) =
    one y d.0 d.1.0 d.1.1 due.0.packet inv names due.0.near due.0.there due.0.is in
    phase_on net readings Q y (Deliver d.0 d.1.0 d.1.1) (map delivery_of ds) refl refl first
    (phase_deliveries net readings P Q one first.end_ ds (free_kept net y first.end_ (Deliver d.0 d.1.0 d.1.1) inv first.taken) first.names
    (still_due net P Q y first.end_ first.sends ds due.1))

-- those that were sent from x to y
sent_between : World → World → ℕ → ℕ → List (ℕ × (ℕ × ℕ))
sent_between x y a b =
    map (λ k. (a, (b, k))) (numbers_from (next_packet x a b) (length (y.packets a b) - length (x.packets a b)))

all_sent : Net → World → World → List (ℕ × (ℕ × ℕ))
all_sent net x y =
    flat_map (λ a. flat_map (λ b. sent_between x y a b) (below (node_count net))) (below (node_count net))

pub numbers_all : (Q : ℕ → Type 0) (s n : ℕ) → ((k : ℕ) → s ≤ k → k < s + n → Q k) → AllByRecursion Q (numbers_from s n)
numbers_all Q s zero h = tt
numbers_all Q s (suc n) h =
    (h s (omega arith) (omega arith), numbers_all Q (s + 1) n (λ k low high. h k (omega (arith, low)) (omega (arith, high))))

nth_rest : (P : Packet → Type 0) (xs rest : List Packet) (k : ℕ) → AllByRecursion P rest → 1 + length xs ≤ k
    → k < 1 + length (xs ++ rest) → (p : Packet) × (nth (xs ++ rest) k ≡ Some p) × P p
nth_rest P xs rest zero each low high = absurd (omega (arith, low))
nth_rest P xs rest (suc k) each low high = go xs k (omega (arith, low)) (omega (arith, high))
  where
    in_rest : (rest : List Packet) (k : ℕ) → AllByRecursion P rest → k < length rest
        → (p : Packet) × (slice_get rest k ≡ Some p) × P p
    in_rest [] k h low = absurd (omega (arith, low))
    in_rest (p ∷ ps) zero h low = (p, refl, h.0)
    in_rest (p ∷ ps) (suc k) h low = in_rest ps k h.1 (omega (arith, low))

    go : (xs : List Packet) (k : ℕ) → length xs ≤ k → k < length (xs ++ rest)
        → (p : Packet) × (slice_get (xs ++ rest) k ≡ Some p) × P p
    go [] k low high = in_rest rest k each high
    go (x ∷ xs) zero low high = absurd (omega (arith, low))
    go (x ∷ xs) (suc k) low high = go xs k (omega (arith, low)) (omega (arith, high))

-- of a packet that was sent from x to y
one_due : (net : Net) (P : Packet → Type 0) (x y : World) (a b : ℕ) → Sent net P x y a b → (k : ℕ)
    → next_packet x a b ≤ k → k < next_packet y a b → IsDue net P y (a, (b, k))
one_due net P x y a b s k low high = go s.near
  where
    length_is : length (y.packets a b) ≡ length (x.packets a b ++ s.rest)
    length_is = ap length s.more

    found : (p : Packet) × (nth (x.packets a b ++ s.rest) k ≡ Some p) × P p
    found = nth_rest P (x.packets a b) s.rest k s.each low (omega (arith, high, length_is))

    go : ((s.rest ≡ []) ⊎ Near net a b) → IsDue net P y (a, (b, k))
    go (inl e) =
        absurd (omega (arith, low, high, length_is, length-append (x.packets a b) s.rest, ap length e))
    go (inr near) =
        record {
          near = near;
          packet = found.0;
          there = subst (λ (l : List Packet). nth l k ≡ Some found.0) (sym s.more) found.1;
          is = found.2;
        }

sent_due : (net : Net) (P : Packet → Type 0) (x y : World) → Sends net P x y
    → AllByRecursion (IsDue net P y) (all_sent net x y)
unfolding all_sent sent_between
sent_due net P x y sends =
    flat_all (IsDue net P y) _ (below (node_count net))
    (each_such _ (below (node_count net)) (λ a. flat_all (IsDue net P y) _ (below (node_count net))
    (each_such _ (below (node_count net)) (λ b. all_map (IsDue net P y) (λ k. (a, (b, k))) _
    (numbers_all (λ k. IsDue net P y (a, (b, k))) (next_packet x a b) (length (y.packets a b) - length (x.packets a b))
    (λ k low high. one_due net P x y a b (sends a b) k low (omega (arith, low, high))))))))

-- being among steps
among_left : (s : WorldStep) (ss ts : List WorldStep) → IsAmong s ss → IsAmong s (ss ++ ts)
among_left s [] ts h = absurd h
among_left s (t ∷ ss) ts (inl e) = inl e
among_left s (t ∷ ss) ts (inr h) = inr (among_left s ss ts h)

among_right : (s : WorldStep) (ss ts : List WorldStep) → IsAmong s ts → IsAmong s (ss ++ ts)
among_right s [] ts h = h
among_right s (t ∷ ss) ts h = inr (among_right s ss ts h)

unfoldable pub Has : {A : Type 0} → A → List A → Type 0
Has a [] = ⊥
Has a (x ∷ xs) = (x ≡ a) ⊎ Has a xs

has_left : {A : Type 0} (a : A) (xs ys : List A) → Has a xs → Has a (xs ++ ys)
unfolding Has
has_left a [] ys h = absurd h
has_left a (x ∷ xs) ys (inl e) = inl e
has_left a (x ∷ xs) ys (inr h) = inr (has_left a xs ys h)

has_right : {A : Type 0} (a : A) (xs ys : List A) → Has a ys → Has a (xs ++ ys)
unfolding Has
has_right a [] ys h = h
has_right a (x ∷ xs) ys h = inr (has_right a xs ys h)

has_map : {A B : Type 0} (f : A → B) (a : A) (xs : List A) → Has a xs → Has (f a) (map f xs)
unfolding Has
has_map f a [] h = h
has_map f a (x ∷ xs) (inl e) = inl (ap f e)
has_map f a (x ∷ xs) (inr h) = inr (has_map f a xs h)

pub has_flat : {A B : Type 0} (f : A → List B) (a : A) (b : B) (xs : List A) → Has a xs → Has b (f a) → Has b (flat_map f xs)
unfolding Has
has_flat f a b [] h k = absurd h
has_flat f a b (x ∷ xs) (inl e) k = has_left b (f x) (flat_map f xs) (subst (λ c. Has b (f c)) (sym e) k)
has_flat f a b (x ∷ xs) (inr h) k = has_right b (f x) (flat_map f xs) (has_flat f a b xs h k)

pub has_number : (s n k : ℕ) → s ≤ k → k < s + n → Has k (numbers_from s n)
unfolding Has
has_number s zero k low high = absurd (omega (arith, low, high))
has_number s (suc n) k low high =
    elim (eqb_tells s k) [
      | inl e ↦ inl e.1
      | inr e ↦ inr (has_number (s + 1) n k (further s k low e.1) (omega (arith, high)))
    ]
  where
    further : (s k : ℕ) → s ≤ k → s ≢ k → s + 1 ≤ k
    further s k low other =
        elim (below_or_not s k) [ inl h ↦ omega (arith, h) | inr h ↦ absurd (other (omega (arith, h, low))) ]

among_has : (s : WorldStep) (steps : List WorldStep) → Has s steps → IsAmong s steps
unfolding Has
among_has s [] h = h
among_has s (t ∷ steps) (inl e) = inl e
among_has s (t ∷ steps) (inr h) = inr (among_has s steps h)

-- what was sent from x to y is among the deliveries
sent_among : (net : Net) (P : Packet → Type 0) (x y : World) (a b k : ℕ) → Sends net P x y → next_packet x a b ≤ k
    → k < next_packet y a b → IsAmong (Deliver a b k) (map delivery_of (all_sent net x y))
unfolding all_sent sent_between delivery_of
sent_among net P x y a b k sends low high =
    let due : IsDue net P y (a, (b, k)) = one_due net P x y a b (sends a b) k low high in
    among_has (Deliver a b k) (map delivery_of (all_sent net x y))
    (has_map delivery_of (a, (b, k)) (all_sent net x y)
    (has_flat (λ a. flat_map (λ b. sent_between x y a b) (below (node_count net))) a (a, (b, k)) (below (node_count net))
    (has_number 0 (node_count net) a (omega arith) (omega (arith, due.near.0)))
    (has_flat (λ b. sent_between x y a b) b (a, (b, k)) (below (node_count net))
    (has_number 0 (node_count net) b (omega arith) (omega (arith, due.near.1)))
    (has_map (λ k. (a, (b, k))) k (numbers_from (next_packet x a b) (length (y.packets a b) - length (x.packets a b)))
    (has_number (next_packet x a b) (length (y.packets a b) - length (x.packets a b)) k low (omega (arith, low, high)))))))

none_sent : (net : Net) (x y : World) (a b : ℕ) → Sends net IsNone x y → next_packet y a b ≡ next_packet x a b
none_sent net x y a b sends = go (sends a b).rest (sends a b).each (sends a b).more
  where
    go : (rest : List Packet) → AllByRecursion IsNone rest → y.packets a b ≡ x.packets a b ++ rest
        → next_packet y a b ≡ next_packet x a b
    go [] h e = omega (arith, ap length e, length-append (x.packets a b) [])
    go (p ∷ ps) h e = absurd h.0

-- the round
pub record RoundHere (net : Net) (readings : ℕ → List ℕ) (reads : ℕ → ℕ) (x : World) : Type 0 where
  pub end_ : World
  pub steps : List WorldStep
  pub keep : AllByRecursion (λ s. keeps_to readings s ≡ true) steps
  pub round : IsRound net reads x steps end_

-- three phases make a round
module _ (net : Net) (readings : ℕ → List ℕ) (reads : ℕ → ℕ) (x : World)
    (turns : Phase net readings IsMail x (map (turn_of reads) (below (node_count net))))
    (mails : Phase net readings (IsAck net) turns.end_ (map delivery_of (all_sent net x turns.end_)))
    (acks : Phase net readings IsNone mails.end_ (map delivery_of (all_sent net turns.end_ mails.end_))) where
  S1 : List WorldStep
  S1 = map (turn_of reads) (below (node_count net))

  S2 : List WorldStep
  S2 = map delivery_of (all_sent net x turns.end_)

  S3 : List WorldStep
  S3 = map delivery_of (all_sent net turns.end_ mails.end_)

  round_taken : AreTaken net x (S1 ++ (S2 ++ S3)) acks.end_
  unfolding S1 S2 S3
  round_taken =
      taken_append net S1 (S2 ++ S3) x turns.end_ acks.end_ turns.taken
      (taken_append net S2 S3 turns.end_ mails.end_ acks.end_ mails.taken acks.taken)

  round_each : AllByRecursion (λ s. is_of_round s ≡ true) (S1 ++ (S2 ++ S3))
  unfolding S1 S2 S3
  round_each =
      all_append (λ s. is_of_round s ≡ true) S1 (S2 ++ S3) turns.each
      (all_append (λ s. is_of_round s ≡ true) S2 S3 mails.each acks.each)

  round_keep : AllByRecursion (λ s. keeps_to readings s ≡ true) (S1 ++ (S2 ++ S3))
  unfolding S1 S2 S3
  round_keep =
      all_append (λ s. keeps_to readings s ≡ true) S1 (S2 ++ S3) turns.keep
      (all_append (λ s. keeps_to readings s ≡ true) S2 S3 mails.keep acks.keep)

  round_turns : (n : ℕ) → n < node_count net → IsAmong (Take n (Turn (reads n))) (S1 ++ (S2 ++ S3))
  unfolding S1 S2 S3 turn_of
  round_turns n low =
      among_left (Take n (Turn (reads n))) S1 (S2 ++ S3)
      (among_has (Take n (Turn (reads n))) S1
      (has_map (turn_of reads) n (below (node_count net)) (has_number 0 (node_count net) n (omega arith) (omega (arith, low)))))

  round_deliveries : (a b k : ℕ) → next_packet x a b ≤ k → k < next_packet acks.end_ a b
      → IsAmong (Deliver a b k) (S1 ++ (S2 ++ S3))
  unfolding S1 S2 S3
  round_deliveries a b k low high =
      among_right (Deliver a b k) S1 (S2 ++ S3)
      (elim (below_or_not k (next_packet turns.end_ a b)) [
        | inl h ↦ among_left (Deliver a b k) S2 S3 (sent_among net IsMail x turns.end_ a b k turns.sends low h)
        | inr h ↦ among_right (Deliver a b k) S2 S3
            (sent_among net (IsAck net) turns.end_ mails.end_ a b k mails.sends h
            (subst (λ (m : ℕ). k < m) (none_sent net mails.end_ acks.end_ a b acks.sends) high))
      ])

  round_by : RoundHere net readings reads x
  round_by =
      record {
        end_ = acks.end_;
        steps = S1 ++ (S2 ++ S3);
        keep = round_keep;
        round = record { taken = round_taken; each = round_each; turns = round_turns; deliveries = round_deliveries };
      }

pub round_exists : (net : Net) (readings : ℕ → List ℕ) (reads : ℕ → ℕ) (x : World) → IsTree net → Invariant net x
    → names_inside net x ≡ true → AlwaysHasRoom net readings x → AreAmong readings reads → RoundHere net readings reads x
round_exists net readings reads x tree inv names room among =
    with_turns (phase_turns net readings reads x (below (node_count net)) tree inv names
    (numbers_all (λ w. w < node_count net) 0 (node_count net) (λ k low high. omega (arith, high))) room among)
  where
    with_mails : (turns : Phase net readings IsMail x (map (turn_of reads) (below (node_count net))))
        → Phase net readings (IsAck net) turns.end_ (map delivery_of (all_sent net x turns.end_))
        → RoundHere net readings reads x
    with_mails turns mails =
        round_by net readings reads x turns mails
        (phase_deliveries net readings (IsAck net) IsNone (ack_done net) mails.end_ (all_sent net turns.end_ mails.end_) mails.inv
        mails.names (sent_due net (IsAck net) turns.end_ mails.end_ mails.sends))

    with_turns : Phase net readings IsMail x (map (turn_of reads) (below (node_count net))) → RoundHere net readings reads x
    with_turns turns =
        with_mails turns
        (phase_deliveries net readings IsMail (IsAck net) (mail_done net) turns.end_ (all_sent net x turns.end_) turns.inv
        turns.names (sent_due net IsMail x turns.end_ turns.sends))

-- turns, deliveries and links keep names inside
step_named : (net : Net) (readings : ℕ → List ℕ) (x z : World) (s : WorldStep) → names_inside net x ≡ true
    → keeps_to readings s ≡ true → free_step net x s ≡ Ok z → names_inside net z ≡ true
step_named net readings x z (Take w (Turn t)) names h e = turn_named net x z w t names e
step_named net readings x z (Take w (Linked v)) names h e = names_same net x z (linked_same net x z w v e) names
step_named net readings x z (Deliver a b k) names h e = names_same net x z (delivered_same net x z a b k e) names
step_named net readings x z _ names h e = cc

pub steps_named : (net : Net) (readings : ℕ → List ℕ) (steps : List WorldStep) (x y : World) → names_inside net x ≡ true
    → AllByRecursion (λ s. keeps_to readings s ≡ true) steps → AreTaken net x steps y → names_inside net y ≡ true
steps_named net readings [] x y names each taken = subst (λ (y : World). names_inside net y ≡ true) taken names
steps_named net readings (s ∷ steps) x y names each taken =
    steps_named net readings steps taken.0 y (step_named net readings x taken.0 s names each.0 taken.1) each.1 taken.2
