-- Steps of one kind, one after another, all taken, and what they send.
use Rattle.std.proofs.Common.{◌≡◌, ℕ, ◌<◌, Bool, true, ◌⊎◌, inl, inr}
use Rattle.std.proofs.Common.{List, [], ◌∷◌, ◌++◌, map, refl, sym, subst, arith, Some}
use Rattle.std.specs.List.{AllByRecursion, list_all}
use Rattle.std.specs.Prelude.{Ok, nat_lt}
use Rattle.lemmas.proofs.Booleans.{and_left, and_right}
use Rattle.model.specs.Types.{Ack, Body, Deliver, Entry, Events, Input, Mail, Net, Packet, Take, Turn, WorldStep}
use Rattle.model.specs.Words.{nth}
use Rattle.model.specs.Network.{IsTree, node_count}
use Rattle.model.specs.History.{list_of}
use Rattle.model.specs.FreeSteps.{free_step, recounted}
use Rattle.model.specs.NewEntry.{next_entry}
use Rattle.model.specs.Workstations.{ws_in_body, ws_in_feed}
use Rattle.model.specs.Turn.{turn_body}
use Rattle.model.specs.World.{Origin, World, apply_effect, mark_delivered, view_at}
use Rattle.model.specs.Invariant.{Invariant}
use Rattle.model_laws.proofs.FreeRuns.{free_kept}
use Rattle.model_laws.proofs.Inside.{EntryIsIn, ViewIsIn, all_in, are_in, list_in, writes_in}
use Rattle.model_laws.proofs.Options.{there_if}
use Rattle.model_laws.proofs.Steps.{step_of}
use Rattle.model_laws.proofs.Turns.{TurnGives, Writes, turn_gives}
use Rattle.model_laws.proofs.Packets.{all_take}
use Rattle.rest_laws.specs.Left.{keeps_to}
use Rattle.rest_laws.specs.Rest.{net_at}
use Rattle.rest_laws.specs.Rounds.{AreTaken, is_of_round}
use Rattle.rest_laws.specs.ToRest.{AlwaysHasRoom, AreAmong, HasRoom, Reaches, names_inside}
use Rattle.rest_laws.proofs.Entered.{Made, turn_makes}
use Rattle.rest_laws.proofs.Lefts.{delivered_same}
use Rattle.rest_laws.proofs.Sending.{IsAck, IsMail, IsNone, Near, Sends, Sent, ack_sends, mail_sends, sends_after, sends_counted}
use Rattle.rest_laws.proofs.Sending.{sends_on, sends_self, turn_sends}
use Rattle.rest_laws.proofs.Taken.{ack_taken, all_low, count_at, feed_in, mail_taken, opened, turn_taken}
use Rattle.rest_laws.proofs.ToRest.{reaches_on}

-- what turns keep names workstations of the network alone
pub all_listed : (p : Entry → Bool) (P : Entry → Type 0) (xs : List Entry) → ((e : Entry) → p e ≡ true → P e)
    → list_all p xs ≡ true → AllByRecursion P xs
all_listed p P [] f h = tt
all_listed p P (x ∷ xs) f h =
    (f x (and_left (p x) (list_all p xs) h), all_listed p P xs f (and_right (p x) (list_all p xs) h))

pub all_pushed : (p : Entry → Bool) (xs : List Entry) (e : Entry) → list_all p xs ≡ true → p e ≡ true
    → list_all p (xs ++ e ∷ []) ≡ true
all_pushed p [] e h k = rw k refl
all_pushed p (x ∷ xs) e h k =
    rw (and_left (p x) (list_all p xs) h) (all_pushed p xs e (and_right (p x) (list_all p xs) h) k)

pub names_same : (net : Net) (x z : World) → z.history ≡ x.history → names_inside net x ≡ true → names_inside net z ≡ true
unfolding names_inside
names_same net x z e h = rw e h

pub view_named : (net N : Net) (x : World) (w : ℕ) → node_count N ≡ node_count net → names_inside net x ≡ true
    → ViewIsIn N (view_at x w)
unfolding names_inside
view_named net N x w count names =
    record {
      bodies =
          λ f. all_take _ (x.holdings w f) (list_of x.history f)
          (list_in N x.history f
          (all_listed (λ (e : Entry). list_all (λ w. nat_lt w (node_count net)) (ws_in_feed e.feed ++ ws_in_body e.body))
          (EntryIsIn N) x.history
          (λ e h. are_in N (ws_in_feed e.feed ++ ws_in_body e.body)
          (subst (λ n. list_all (λ w. nat_lt w n) (ws_in_feed e.feed ++ ws_in_body e.body) ≡ true) (sym count) h))
          names));
    }

-- what a turn makes names workstations of the network alone
pub turn_inside : (net : Net) (x : World) (w t : ℕ) (b : Body) → w < node_count net → names_inside net x ≡ true
    → turn_body (net_at net x w) (view_at x w) w (x.sessions w).live t ≡ Some b
    → EntryIsIn (net_at net x w) (next_entry (view_at x w) (Events w) b)
turn_inside net x w t b low names e =
    writes_in N (view_at x w) w (x.sessions w) (Rattle.model.specs.Types.Turn t) (next_entry (view_at x w) (Events w) b)
    (view_named net N x w (count_at net x w) names) (is_in w low, tt) (is_in 0 (omega (arith, low)))
    (Writes.turned t b (there_if (TurnGives N (view_at x w) w (x.sessions w).live t) _ b
    (turn_gives N (view_at x w) w (x.sessions w).live t) e))
  where
    N : Net
    N = net_at net x w

    is_in : (v : ℕ) → v < node_count net → nat_lt v (node_count N) ≡ true
    is_in v h =
        subst (λ n. nat_lt v n ≡ true) (sym (count_at net x w))
        (and_left (nat_lt v (node_count net)) true (all_low (node_count net) (v ∷ []) (h, tt)))

abbrev is_named : Net → Entry → Bool
is_named net e = list_all (λ w. nat_lt w (node_count net)) (ws_in_feed e.feed ++ ws_in_body e.body)

pub turn_names : (net : Net) (x z : World) (w t : ℕ) (b : Body) → w < node_count net → names_inside net x ≡ true
    → Made net x z w t b → names_inside net z ≡ true
unfolding names_inside
turn_names net x z w t b low names made =
    subst (λ (G : List Entry). list_all (is_named net) G ≡ true) (sym made.history)
    (all_pushed (is_named net) x.history (next_entry (view_at x w) (Events w) b) names
    (subst (λ n. list_all (λ w. nat_lt w n) (ws_in_feed (Events w) ++ ws_in_body b) ≡ true) (count_at net x w)
    (all_in (net_at net x w) (ws_in_feed (Events w) ++ ws_in_body b) (turn_inside net x w t b low names made.body))))

pub turn_named : (net : Net) (x z : World) (w t : ℕ) → names_inside net x ≡ true → free_step net x (Take w (Turn t)) ≡ Ok z
    → names_inside net z ≡ true
turn_named net x z w t names e =
    let made = turn_makes net x z w t e in go made.0 made.1
  where
    go : w < node_count net → ((z.history ≡ x.history) ⊎ ((b : Body) × Made net x z w t b)) → names_inside net z ≡ true
    go low (inl h) = names_same net x z h names
    go low (inr h) = turn_names net x z w t h.0 low names h.1

-- a step that was taken, and what it sent
pub record Done (net : Net) (P : Packet → Type 0) (x : World) (s : WorldStep) : Type 0 where
  pub end_ : World
  pub taken : free_step net x s ≡ Ok end_
  pub sends : Sends net P x end_
  pub names : names_inside net end_ ≡ true

pub turn_done : (net : Net) (x : World) (w t : ℕ) → IsTree net → names_inside net x ≡ true → w < node_count net
    → HasRoom net x w t → Done net IsMail x (Take w (Turn t))
turn_done net x w t tree names low room =
    let e = turn_taken net x w t low room in
    record {
      end_ = apply_effect (recounted x) w Origin.Own (step_of net x w (Input.Local (Turn t)));
      taken = e;
      sends =
          sends_counted net IsMail x _
          (sends_after net IsMail (recounted x) w Origin.Own (step_of net x w (Input.Local (Turn t))) (turn_sends net x w t tree low));
      names = turn_named net x _ w t names e;
    }

pub sends_marked : (net : Net) (P : Packet → Type 0) (x z : World) (a b k : ℕ) → Sends net P x z
    → Sends net P x (mark_delivered z a b k)
unfolding mark_delivered
sends_marked net P x z a b k h v u =
    let s : Sent net P x z v u = h v u in
    record { rest = s.rest; more = s.more; each = s.each; near = s.near }

pub mail_done : (net : Net) (x : World) (a b f_k : ℕ) (p : Packet) → Invariant net x → names_inside net x ≡ true → Near net a b
    → nth (x.packets a b) f_k ≡ Some p → IsMail p → Done net (IsAck net) x (Deliver a b f_k)
mail_done net x a b k (Ack f n) inv names near there is = absurd is
mail_done net x a b k (Mail f m) inv names near there is =
    let o = opened net x a b inv names near f m k there in
    let e = mail_taken net x a b inv names near f m o.0 o.1 k there in
    record {
      end_ = _;
      taken = e;
      sends =
          sends_counted net (IsAck net) x _
          (sends_marked net (IsAck net) (recounted x) _ a b k
          (sends_after net (IsAck net) (recounted x) b Origin.Mailed (step_of net x b (Input.Mail a (record { feed = f; place = m; body = o.0 })))
          (mail_sends net x b a (record { feed = f; place = m; body = o.0 }) (near.1, near.0, λ s. near.2 (sym s))
          (feed_in net x a b inv names near f m o.0 o.1))));
      names = names_same net x _ (delivered_same net x _ a b k e) names;
    }

pub ack_done : (net : Net) (x : World) (a b k : ℕ) (p : Packet) → Invariant net x → names_inside net x ≡ true → Near net a b
    → nth (x.packets a b) k ≡ Some p → IsAck net p → Done net IsNone x (Deliver a b k)
ack_done net x a b k (Mail f m) inv names near there is = absurd is
ack_done net x a b k (Ack f n) inv names near there is =
    let e = ack_taken net x a b inv names near f n k is there in
    record {
      end_ = _;
      taken = e;
      sends =
          sends_counted net IsNone x _
          (sends_marked net IsNone (recounted x) _ a b k
          (sends_after net IsNone (recounted x) b Origin.Mailed (step_of net x b (Input.Ack a f n)) (ack_sends net x b a f n)));
      names = names_same net x _ (delivered_same net x _ a b k e) names;
    }

-- some steps, one after another, and what they sent
pub record Phase (net : Net) (readings : ℕ → List ℕ) (P : Packet → Type 0) (x : World) (steps : List WorldStep) : Type 0 where
  pub end_ : World
  pub taken : AreTaken net x steps end_
  pub sends : Sends net P x end_
  pub names : names_inside net end_ ≡ true
  pub inv : Invariant net end_
  pub keep : AllByRecursion (λ s. keeps_to readings s ≡ true) steps
  pub each : AllByRecursion (λ s. is_of_round s ≡ true) steps

pub phase_none : (net : Net) (readings : ℕ → List ℕ) (P : Packet → Type 0) (x : World) → Invariant net x
    → names_inside net x ≡ true → Phase net readings P x []
phase_none net readings P x inv names =
    record { end_ = x; taken = refl; sends = sends_self net P x x refl; names = names; inv = inv; keep = tt; each = tt }

pub phase_on : (net : Net) (readings : ℕ → List ℕ) (P : Packet → Type 0) (x : World) (s : WorldStep) (steps : List WorldStep)
    → keeps_to readings s ≡ true → is_of_round s ≡ true → (d : Done net P x s) → Phase net readings P d.end_ steps
    → Phase net readings P x (s ∷ steps)
phase_on net readings P x s steps keep of d p =
    record {
      end_ = p.end_;
      taken = (d.end_, d.taken, p.taken);
      sends = sends_on net P x d.end_ p.end_ d.sends p.sends;
      names = p.names;
      inv = p.inv;
      keep = (keep, p.keep);
      each = (of, p.each);
    }

-- the turns
unfoldable pub turn_of : (ℕ → ℕ) → ℕ → WorldStep
turn_of reads w = Take w (Turn (reads w))

pub phase_turns : (net : Net) (readings : ℕ → List ℕ) (reads : ℕ → ℕ) (x : World) (ws : List ℕ) → IsTree net
    → Invariant net x → names_inside net x ≡ true → AllByRecursion (λ w. w < node_count net) ws
    → AlwaysHasRoom net readings x → AreAmong readings reads → Phase net readings IsMail x (map (turn_of reads) ws)
unfolding turn_of
phase_turns net readings reads x [] tree inv names low room among = phase_none net readings IsMail x inv names
phase_turns net readings reads x (w ∷ ws) tree inv names low room among =
    let self : Reaches net readings x x = record { steps = []; keep = tt; taken = refl } in
    let d : Done net IsMail x (Take w (Turn (reads w))) =
    turn_done net x w (reads w) tree names low.0 (room x self w (reads w) low.0 (among w)) in
    let one : Reaches net readings x d.end_ =
    record { steps = Take w (Turn (reads w)) ∷ []; keep = (among w, tt); taken = (d.end_, d.taken, refl) } in
    phase_on net readings IsMail x (Take w (Turn (reads w))) (map (turn_of reads) ws) (among w) refl d
    (phase_turns net readings reads d.end_ ws tree (free_kept net x d.end_ (Take w (Turn (reads w))) inv d.taken) d.names
    low.1 (λ y h. room y (reaches_on net readings x d.end_ y one h)) among)
