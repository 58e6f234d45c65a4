-- Turns that have room are taken, and so is each delivery between workstations of the network.
use Rattle.std.proofs.Common.{◌≡◌, ℕ, zero, suc, ◌+◌, ◌<◌, ◌≤◌, Bool, true, false, inl, inr}
use Rattle.std.proofs.Common.{List, [], ◌∷◌, ◌++◌, length, length-append, refl, ap, sym, subst, ◌∙◌, arith, Some, None}
use Rattle.std.proofs.lemmas.Bool.Decides.{eqb_tells, nat_tests}
use Rattle.std.proofs.lemmas.List.{append-nil, append_assoc}
use Rattle.std.specs.Bool.{then_some}
use Rattle.std.specs.List.{AllByRecursion, list_all}
use Rattle.std.specs.Prelude.{Ok, nat_le, nat_lt, slice_get}
use Rattle.lemmas.proofs.Booleans.{and_left, and_made, and_right}
use Rattle.lemmas.proofs.Numbers.{lt_told}
use Rattle.model.specs.Types.{Ack, Body, Deliver, Entry, Events, Feed, Input, Linked, Mail, Net, Take, Turn}
use Rattle.model.specs.Words.{nth, some_is}
use Rattle.model.specs.Network.{node_count}
use Rattle.model.specs.History.{View, list_of}
use Rattle.model.specs.FreeSteps.{free_step, recounted}
use Rattle.model.specs.NewEntry.{accepts, event_of, makes, own_entry}
use Rattle.model.specs.Sessions.{Session}
use Rattle.model.specs.Sizes.{body_size, entry_size, feed_size}
use Rattle.model.specs.StepFaults.{is_next, is_place_spent, is_too_long, lacks_dep, lacks_process, plan_fault, step_fault}
use Rattle.model.specs.Step.{node_step}
use Rattle.model.specs.Workstations.{peer_of, ws_in, ws_in_body, ws_in_feed}
use Rattle.model.specs.World.{Origin, World, apply_effect, mark_delivered, node_effect, packet_input, reached_limit}
use Rattle.model.specs.World.{step, view_at}
use Rattle.model.specs.Invariant.{Invariant, IsBacked, keeps_its_size}
use Rattle.model.specs.Sound.{EachFrom, HasItsPlace}
use Rattle.model_laws.proofs.Feeds.{feed_cases, list_of-append, list_of_elsewhere, list_of_here}
use Rattle.model_laws.proofs.Options.{slice_get_all, there_if}
use Rattle.model_laws.proofs.PresentNets.{by_one, one_count}
use Rattle.model_laws.proofs.Steps.{step_of}
use Rattle.model_laws.proofs.Keeps.{none_yet}
use Rattle.model_laws.proofs.NoPackets.{there_within}
use Rattle.rest_laws.specs.Rest.{net_at}
use Rattle.rest_laws.specs.ToRest.{HasRoom, names_inside}
use Rattle.rest_laws.proofs.Sending.{FeedIsIn, Near}
use Rattle.rest_laws.proofs.Shown.{in_feed}
use Rattle.rest_laws.proofs.Gains.{inside}
use Rattle.rest_laws.proofs.Rounds.{nth_within}

no_fault : (N : Net) (me : ℕ) (V : View) (s : Session) (i : Input)
    → list_all (λ w. nat_lt w (node_count N)) (me ∷ ws_in i) ≡ true → some_is (peer_of i) me ≡ false
    → is_next i ≡ false → lacks_process s.live i ≡ false → lacks_dep me V i ≡ false
    → is_place_spent V (makes N me V s i) ≡ false → plan_fault N V i ≡ None
    → is_too_long (makes N me V s i) ≡ false → step_fault N me V s i ≡ None
unfolding step_fault
no_fault N me V s i inside peer next process dep place plan long =
    rw (inside, peer, next, process, dep, place, plan, long) refl

pub count_at : (net : Net) (x : World) (w : ℕ) → node_count (net_at net x w) ≡ node_count net
count_at net x w = one_count net (net_at net x w) (by_one net (view_at x w (Events 0)))

-- a number that is at most another is not beyond it
pub not_beyond : (most n : ℕ) → n ≤ most → nat_lt most n ≡ false
not_beyond most n h = grind (arith, h, nat_tests)

pub all_low : (n : ℕ) (ws : List ℕ) → AllByRecursion (λ w. w < n) ws → list_all (λ w. nat_lt w n) ws ≡ true
all_low n [] h = refl
all_low n (w ∷ ws) h = and_made (nat_lt w n) (list_all (λ w. nat_lt w n) ws) (lt_told w n h.0) (all_low n ws h.1)

all_inside : (net : Net) (ws : List ℕ) → list_all (λ w. nat_lt w (node_count net)) ws ≡ true
    → AllByRecursion (λ w. w < node_count net) ws
all_inside net [] h = tt
all_inside net (w ∷ ws) h = (
  inside net w (and_left (nat_lt w (node_count net)) _ h),
  all_inside net ws (and_right (nat_lt w (node_count net)) (list_all (λ w. nat_lt w (node_count net)) ws) h),
)

all_left : (P : ℕ → Type 0) (xs ys : List ℕ) → AllByRecursion P (xs ++ ys) → AllByRecursion P xs
all_left P [] ys h = tt
all_left P (x ∷ xs) ys h = (h.0, all_left P xs ys h.1)

-- a turn
turn_fault : (net : Net) (x : World) (w t : ℕ) → w < node_count net → HasRoom net x w t
    → step_fault (net_at net x w) w (view_at x w) (x.sessions w) (Input.Local (Turn t)) ≡ None
turn_fault net x w t low room =
    no_fault (net_at net x w) w (view_at x w) (x.sessions w) (Input.Local (Turn t))
    (all_low (node_count (net_at net x w)) (w ∷ []) (subst (λ n. w < n) (sym (count_at net x w)) low, tt)) refl refl refl refl
    room.place refl room.length_

pub turn_taken : (net : Net) (x : World) (w t : ℕ) → w < node_count net → HasRoom net x w t
    → free_step net x (Take w (Turn t)) ≡ Ok (apply_effect (recounted x) w Origin.Own (step_of net x w (Input.Local (Turn t))))
unfolding free_step step node_effect node_step reached_limit
turn_taken net x w t low room = rw (turn_fault net x w t low room) refl

-- an end of a link
pub link_taken : (net : Net) (x : World) (w v : ℕ) → Near net w v
    → free_step net x (Take w (Linked v)) ≡ Ok (apply_effect (recounted x) w Origin.Own (step_of net x w (Input.Local (Linked v))))
unfolding free_step step node_effect node_step reached_limit makes own_entry event_of
link_taken net x w v near = rw fault refl
  where
    fault : step_fault (net_at net x w) w (view_at x w) (x.sessions w) (Input.Local (Linked v)) ≡ None
    fault =
        no_fault (net_at net x w) w (view_at x w) (x.sessions w) (Input.Local (Linked v))
        (all_low (node_count (net_at net x w)) (w ∷ v ∷ [])
        (subst (λ n. w < n) (sym (count_at net x w)) near.0, (subst (λ n. v < n) (sym (count_at net x w)) near.1, tt)))
        (elim (eqb_tells v w) [ inl e ↦ absurd (near.2 (sym e.1)) | inr e ↦ e.0 ]) refl refl refl refl refl refl

-- places are few
places_few : (before es : List Entry) (f : Feed) → length (list_of before f) ≤ 4294967295
    → EachFrom HasItsPlace before es → list_all keeps_its_size es ≡ true
    → length (list_of (before ++ es) f) ≤ 4294967295
places_few before [] f low places sized = subst (λ (G : List Entry). length (list_of G f) ≤ 4294967295) (sym (append-nil before)) low
places_few before (e ∷ es) f low places sized =
    subst (λ (G : List Entry). length (list_of G f) ≤ 4294967295) (append_assoc before (e ∷ []) es)
    (places_few (before ++ e ∷ []) es f here places.1 (and_right (keeps_its_size e) (list_all keeps_its_size es) sized))
  where
    here : length (list_of (before ++ e ∷ []) f) ≤ 4294967295
    here =
        let whole : length (list_of (before ++ e ∷ []) f) ≡ length (list_of before f) + length (list_of (e ∷ []) f) =
        ap length (list_of-append before (e ∷ []) f) ∙ length-append (list_of before f) (list_of (e ∷ []) f) in
        elim (feed_cases f e.feed) [
          | inl k ↦ omega (
            arith,
            whole,
            ap length (list_of_here e f k.0),
            places.0,
            ap (λ f. length (list_of before f)) k.1,
            size_low (and_left (nat_le e.place 4294967295) _ (and_left (keeps_its_size e) _ sized)),
          )
          | inr k ↦ omega (arith, whole, ap length (list_of_elsewhere e f k.0), low)
        ]
      where
        size_low : nat_le e.place 4294967295 ≡ true → e.place ≤ 4294967295
        size_low h = grind (arith, nat_tests)

-- a packet that is there
nth_all : {A : Type 0} (P : A → Type 0) (xs : List A) (k : ℕ) (a : A) → AllByRecursion P xs → nth xs k ≡ Some a → P a
nth_all P xs zero a h e = cc
nth_all P xs (suc k) a h e = there_if P (slice_get xs k) a (slice_get_all P xs k h) e

module _ (net : Net) (x : World) (a b : ℕ) (inv : Invariant net x) (names : names_inside net x ≡ true)
    (near : Near net a b) where
  names_low : (ws : List ℕ) → AllByRecursion (λ w. w < node_count net) ws
      → list_all (λ w. nat_lt w (node_count (net_at net x b))) (b ∷ a ∷ ws) ≡ true
  names_low ws h =
      subst (λ n. list_all (λ w. nat_lt w n) (b ∷ a ∷ ws) ≡ true) (sym (count_at net x b))
      (all_low (node_count net) (b ∷ a ∷ ws) (near.1, (near.0, h)))

  not_peer : some_is (Some a) b ≡ false
  not_peer = elim (eqb_tells a b) [ inl e ↦ absurd (near.2 e.1) | inr e ↦ e.0 ]

  -- of a mail: what it names and how long it is
  module _ (f : Feed) (m : ℕ) (body : Body) (there : nth (list_of x.history f) m ≡ Some body) where
    abbrev pub mail : Entry
    mail = record { feed = f; place = m; body = body }

    named : AllByRecursion (λ w. w < node_count net) (ws_in_feed f ++ ws_in_body body)
    unfolding names_inside list_of
    named =
        all_inside net (ws_in_feed f ++ ws_in_body body)
        (nth_all (λ c. list_all (λ w. nat_lt w (node_count net)) (ws_in_feed f ++ ws_in_body c) ≡ true) (list_of x.history f) m body
        (in_feed (λ c. list_all (λ w. nat_lt w (node_count net)) (ws_in_feed f ++ ws_in_body c) ≡ true) f
        (λ (e : Entry). list_all (λ w. nat_lt w (node_count net)) (ws_in_feed e.feed ++ ws_in_body e.body))
        (λ e h same. subst (λ (g : Feed). list_all (λ w. nat_lt w (node_count net)) (ws_in_feed g ++ ws_in_body e.body) ≡ true)
        (sym same) h) x.history names) there)

    pub feed_in : FeedIsIn net f
    feed_in = all_left (λ w. w < node_count net) (ws_in_feed f) (ws_in_body body) named

    short : nat_lt 4194304 (entry_size (record { feed = f; place = m; body = body })) ≡ false
    unfolding entry_size list_of
    short =
        nth_all (λ c. nat_lt 4194304 (1 + feed_size f + 4 + 1 + body_size c) ≡ false) (list_of x.history f) m body
        (in_feed (λ c. nat_lt 4194304 (1 + feed_size f + 4 + 1 + body_size c) ≡ false) f keeps_its_size
        (λ e h same. subst (λ (g : Feed). nat_lt 4194304 (1 + feed_size g + 4 + 1 + body_size e.body) ≡ false) (sym same)
        (few (1 + feed_size e.feed + 4 + 1 + body_size e.body) (and_right (nat_le e.place 4294967295) _ h))) x.history inv.sized) there
      where
        few : (n : ℕ) → nat_le n 4194304 ≡ true → nat_lt 4194304 n ≡ false
        few n h = grind (arith, nat_tests)

    placed : nat_lt 4294967295 m ≡ false
    placed = not_beyond 4294967295 m (omega (arith, low, nth_within (list_of x.history f) m body there))
      where
        none : (f : Feed) → list_of [] f ≡ []
        none f = none_yet f

        low : length (list_of x.history f) ≤ 4294967295
        low =
            places_few [] x.history f (subst (λ (l : List Body). length l ≤ 4294967295) (sym (none f)) (omega arith))
            inv.sound.places inv.sized

    unspent : (V : View) (c : Bool) → is_place_spent V (then_some c mail) ≡ false
    unspent V true = placed
    unspent V false = refl

    not_long : (c : Bool) → is_too_long (then_some c mail) ≡ false
    not_long true = short
    not_long false = refl

    mail_fault : step_fault (net_at net x b) b (view_at x b) (x.sessions b) (Input.Mail a mail) ≡ None
    unfolding makes
    mail_fault =
        no_fault (net_at net x b) b (view_at x b) (x.sessions b) (Input.Mail a mail)
        (names_low (ws_in_feed f ++ ws_in_body body) named) not_peer refl refl refl
        (unspent (view_at x b) (accepts b (view_at x b) mail)) refl (not_long (accepts b (view_at x b) mail))

    pub mail_taken : (k : ℕ) → nth (x.packets a b) k ≡ Some (Mail f m)
        → free_step net x (Deliver a b k)
        ≡ Ok (mark_delivered (apply_effect (recounted x) b Origin.Mailed (step_of net x b (Input.Mail a mail))) a b k)
    unfolding free_step step node_effect node_step reached_limit packet_input
    mail_taken k e = rw (e, there, mail_fault) refl

  pub opened : (f : Feed) (m k : ℕ) → nth (x.packets a b) k ≡ Some (Mail f m)
      → (body : Body) × (nth (list_of x.history f) m ≡ Some body)
  opened f m k e =
      let backed : (0 < m) × (m ≤ x.holdings a f) = nth_all (IsBacked (x.holdings a)) (x.packets a b) k (Mail f m) (inv.backed a b) e in
      there_within (list_of x.history f) m backed.0 (omega (arith, backed.1, inv.within a f))

  ack_fault : (f : Feed) (n : ℕ) → FeedIsIn net f
      → step_fault (net_at net x b) b (view_at x b) (x.sessions b) (Input.Ack a f n) ≡ None
  unfolding makes
  ack_fault f n inside =
      no_fault (net_at net x b) b (view_at x b) (x.sessions b) (Input.Ack a f n) (names_low (ws_in_feed f) inside) not_peer
      refl refl refl refl refl refl

  pub ack_taken : (f : Feed) (n k : ℕ) → FeedIsIn net f → nth (x.packets a b) k ≡ Some (Ack f n)
      → free_step net x (Deliver a b k)
      ≡ Ok (mark_delivered (apply_effect (recounted x) b Origin.Mailed (step_of net x b (Input.Ack a f n))) a b k)
  unfolding free_step step node_effect node_step reached_limit packet_input
  ack_taken f n k inside e = rw (e, ack_fault f n inside) refl
