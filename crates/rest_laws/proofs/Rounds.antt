-- A round that brings no more finds the network at rest.
use Rattle.std.proofs.Common.{◌≡◌, ◌≢◌, ℕ, zero, suc, ◌+◌, ◌<◌, ◌≤◌, true, ◌⊎◌, inl, inr}
use Rattle.std.proofs.Common.{List, [], ◌∷◌, ◌++◌, length, refl, ap, sym, subst, ◌∙◌, arith, Option, Some, None}
use Rattle.std.proofs.Common.{length-append}
use Rattle.std.specs.List.{AllByRecursion}
use Rattle.std.specs.Option.{option_map_or}
use Rattle.std.specs.Prelude.{Ok}
use Rattle.std.proofs.lemmas.List.{append-nil}
use Rattle.lemmas.proofs.Lists.{all_append, all_left, all_right, found_within, get_in_front}
use Rattle.model.specs.Types.{Ack, Deliver, Entry, Events, Feed, Input, Mail, Net}
use Rattle.model.specs.Types.{Out, Packet, Take, Turn, WorldStep}
use Rattle.model.specs.Words.{nth}
use Rattle.model.specs.Network.{IsTree, are_neighbours, node_count}
use Rattle.model.specs.History.{View}
use Rattle.model.specs.PresentNet.{net_by}
use Rattle.model.specs.Sessions.{Session}
use Rattle.model.specs.StepFaults.{step_fault}
use Rattle.model.specs.Step.{node_step, unless_fault}
use Rattle.model.specs.World.{Origin, World, apply_effect, packet_input}
use Rattle.model.specs.World.{result_map, view_at}
use Rattle.model.specs.Invariant.{Invariant}
use Rattle.model.specs.FreeSteps.{free_step, recounted}
use Rattle.model_laws.proofs.FreeRuns.{free_kept, recount}
use Rattle.model_laws.proofs.Steps.{step_of}
use Rattle.rest_laws.specs.Leads.{HasMore, IsLinkedBack, next_packet}
use Rattle.rest_laws.specs.Rest.{IsAtRest, IsQuiet, leaves, net_at}
use Rattle.rest_laws.specs.Rounds.{AreLinked, AreTaken, BringsNoMore, IsAmong, IsOpenRound, IsRound, is_of_round}
use Rattle.rest_laws.proofs.Leads.{Answers, FirstSent, IsNear, Stays, answer_brings, both_parts, came, not_itself}
use Rattle.rest_laws.proofs.Leads.{after, packet_brings, raised_here, sends_first, sent_first, took, turn, turn_stays, view_stays}
use Rattle.rest_laws.proofs.Rises.{Rises, Same, same_on, same_self, Moves, rises_on, rises_recounted, same_recounted}
use Rattle.rest_laws.proofs.Rises.{stays_recounted, step_moves, run_rises}

-- packets that are there stay at their numbers, and none is delivered before it is there
pub nth_more : {A : Type 0} (xs rest : List A) (k : ℕ) (a : A) → nth xs k ≡ Some a → nth (xs ++ rest) k ≡ Some a
nth_more xs rest zero a e = cc
nth_more xs rest (suc k) a e = get_in_front xs rest k a e

-- a number of a list's element is within the list
pub nth_within : {A : Type 0} (xs : List A) (k : ℕ) (a : A) → nth xs k ≡ Some a → k ≤ length xs
nth_within xs zero a e = omega arith
nth_within xs (suc k) a e = omega (arith, found_within xs k a e)

there_then : (x y : World) → Rises x y → (a b k : ℕ) (p : Packet) → nth (x.packets a b) k ≡ Some p
    → nth (y.packets a b) k ≡ Some p
there_then x y h a b k p e =
    let q = h.packets a b in
    subst (λ ps. nth ps k ≡ Some p) (sym q.1) (nth_more (x.packets a b) q.0 k p e)

it_was_there : (net : Net) (x z : World) (a b k : ℕ) → free_step net x (Deliver a b k) ≡ Ok z → k < next_packet x a b
unfolding free_step packet_input
it_was_there net x z a b k e =
    let c = came net (recounted x) z a b k e in go (nth (x.packets a b) k) refl c.0 c.1
  where
    go : (o : Option Packet) → nth (x.packets a b) k ≡ o → (i : Input)
        → option_map_or (packet_input x a) o None ≡ Some i → k < next_packet x a b
    go None h i e = cc
    go (Some p) h i e = omega (arith, nth_within (x.packets a b) k p h)

-- what is sent from x on is delivered in these steps
abbrev AreDelivered : World → List WorldStep → World → Type 0
AreDelivered x steps y = (a b k : ℕ) → next_packet x a b ≤ k → k < next_packet y a b → IsAmong (Deliver a b k) steps

length_more : (x z : World) → Rises x z → (a b : ℕ) → next_packet x a b ≤ next_packet z a b
length_more x z h a b =
    let q = h.packets a b in
    let l : length (z.packets a b) ≡ length (x.packets a b) + length q.0 =
    ap length q.1 ∙ length-append (x.packets a b) q.0 in
    omega (arith, l)

delivered_later : (net : Net) (x z y : World) (s : WorldStep) (steps : List WorldStep) → free_step net x s ≡ Ok z
    → Rises x z → AreDelivered x (s ∷ steps) y → AreDelivered z steps y
delivered_later net x z y s steps e rises all a b k low high =
    go (all a b k (omega (arith, low, length_more x z rises a b)) high)
  where
    go : IsAmong (Deliver a b k) (s ∷ steps) → IsAmong (Deliver a b k) steps
    go (inr h) = h
    go (inl h) =
        absurd (omega (
          arith,
          it_was_there net x z a b k (subst (λ s. free_step net x s ≡ Ok z) h e),
          low,
          length_more x z rises a b,
        ))

pub taken_append : (net : Net) (ss ts : List WorldStep) (x y z : World) → AreTaken net x ss y → AreTaken net y ts z
    → AreTaken net x (ss ++ ts) z
taken_append net [] ts x y z h k = subst (λ (y : World). AreTaken net y ts z) (sym h) k
taken_append net (s ∷ ss) ts x y z h k = (h.0, h.1, taken_append net ss ts h.0 y z h.2 k)

-- where the end has no more, no step has
no_more : (x z y : World) → BringsNoMore x y → Rises z y → HasMore x z → ⊥
no_more x z y none rises (HasMore.held w f h) = omega (arith, h, none.held w f, rises.held w f)
no_more x z y none rises (HasMore.acked n m f h) = omega (arith, h, none.acked n m f, rises.acked n m f)

more_since : (x z w : World) → Stays x z → HasMore z w → HasMore x w
more_since x z w same (HasMore.held v f h) = HasMore.held v f (omega (arith, h, same.holdings v f))
more_since x z w same (HasMore.acked n m f h) = HasMore.acked n m f (omega (arith, h, same.acked n m f))

stays_on : (x y z : World) → Stays x y → Stays y z → Stays x z
stays_on x y z h k =
    record {
      history = k.history ∙ h.history;
      holdings = λ v f. k.holdings v f ∙ h.holdings v f;
      acked = λ v u f. k.acked v u f ∙ h.acked v u f;
      links = λ v u. k.links v u ∙ h.links v u;
    }

-- a step after which there is no more leaves all as it was
stays_then : (net : Net) (x z w y : World) (s : WorldStep) → Stays x z → BringsNoMore x y → Rises w y → Moves z w
    → Stays x w
stays_then net x z w y s same none rises moves = go moves.change
  where
    go : (HasMore z w ⊎ Same z w) → Stays x w
    go (inl h) = absurd (no_more x w y none rises (more_since x z w same h))
    go (inr h) = stays_on x z w same h.stays

module _ (net : Net) (x y : World) (n m : ℕ) (inv : Invariant net x) (none : BringsNoMore x y) (f : Feed)
    (here : (x.sessions n).acked m f < length (view_at x n f)) where
  -- an answer that tells more would bring more
  no_answer : (steps : List WorldStep) (z : World) → Stays x z → AllByRecursion (λ s. is_of_round s ≡ true) steps
      → AreTaken net z steps y → (q len : ℕ) → nth (z.packets m n) q ≡ Some (Ack f len)
      → (x.sessions n).acked m f < len → IsAmong (Deliver m n q) steps → ⊥
  unfolding free_step
  no_answer [] z same each taken q len there more among = among
  no_answer (s ∷ steps) z same each taken q len there more (inl e) =
      no_more x taken.0 y none (run_rises net steps taken.0 y each.1 taken.2)
      (answer_brings net x n m inv (recounted z) (stays_recounted x z same) q f len there more here taken.0
      (subst (λ s. free_step net z s ≡ Ok taken.0) e taken.1))
  no_answer (s ∷ steps) z same each taken q len there more (inr later) =
      let moves : Moves z taken.0 = step_moves net z taken.0 s each.0 taken.1 in
      no_answer steps taken.0
      (stays_then net x z taken.0 y s same none (run_rises net steps taken.0 y each.1 taken.2) moves) each.1 taken.2
      q len (there_then z taken.0 moves.rises m n q (Ack f len) there) more later

  -- a packet that is not known to be held would bring more, or such an answer: it comes in the first steps, which lead
  -- to u, and what was sent by then is delivered
  no_packet : (u : World) (last : List WorldStep) → AllByRecursion (λ s. is_of_round s ≡ true) last → AreTaken net u last y
      → (x.sessions m).links n ≡ true → m ≢ n → (first : List WorldStep) (z : World) → Stays x z
      → AllByRecursion (λ s. is_of_round s ≡ true) first → AreTaken net z first u → AreDelivered z (first ++ last) u
      → (p : ℕ) → nth (z.packets n m) p ≡ Some (Mail f (1 + (x.sessions n).acked m f)) → IsAmong (Deliver n m p) first → ⊥
  unfolding free_step
  no_packet u last each_last to_end up differ [] z same each taken all p there among = among
  no_packet u last each_last to_end up differ (s ∷ first) z same each taken all p there (inl e) =
      go (packet_brings net x n m inv (recounted z) (stays_recounted x z same) up p f there here taken.0
      (subst (λ s. free_step net z s ≡ Ok taken.0) e taken.1))
    where
      to_u : Rises taken.0 u
      to_u = run_rises net first taken.0 u each.1 taken.2

      ends : Rises taken.0 y
      ends = rises_on taken.0 u y to_u (run_rises net last u y each_last to_end)

      other : IsAmong (Deliver m n (next_packet z m n)) (s ∷ (first ++ last))
          → IsAmong (Deliver m n (next_packet z m n)) (first ++ last)
      other (inr h) = h
      other (inl h) = absurd (differ (ends_of (sym e ∙ h)))
        where
          ends_of : {a b : ℕ} → Deliver n m a ≡ Deliver m n b → m ≡ n
          ends_of k = cc

      go : (HasMore x taken.0 ⊎ Answers net x n m inv (recounted z) taken.0 f) → ⊥
      go (inl h) = no_more x taken.0 y none ends h
      go (inr a) =
          no_answer (first ++ last) taken.0 a.stays (all_append (λ s. is_of_round s ≡ true) first last each.1 each_last)
          (taken_append net first last taken.0 u y taken.2 to_end) (next_packet z m n) a.len a.there a.more
          (other (all m n (next_packet z m n) (omega arith)
          (let l : next_packet z m n ≤ length (taken.0.packets m n) =
          nth_within (taken.0.packets m n) (next_packet z m n) (Ack f a.len) a.there in
          omega (arith, l, length_more taken.0 u to_u m n))))
  no_packet u last each_last to_end up differ (s ∷ first) z same each taken all p there (inr later) =
      let moves : Moves z taken.0 = step_moves net z taken.0 s each.0 taken.1 in
      let ends : Rises taken.0 y =
      rises_on taken.0 u y (run_rises net first taken.0 u each.1 taken.2) (run_rises net last u y each_last to_end) in
      no_packet u last each_last to_end up differ first taken.0 (stays_then net x z taken.0 y s same none ends moves)
      each.1 taken.2 (delivered_later net z taken.0 u s (first ++ last) taken.1 moves.rises all) p
      (there_then z taken.0 moves.rises n m p (Mail f (1 + (x.sessions n).acked m f)) there) later

-- the turns of a round
module _ (net : Net) (x0 y : World) (tree : IsTree net) (linked : AreLinked net x0) (none : BringsNoMore x0 y)
    (n : ℕ) (n_in : n < node_count net) (t : ℕ) (turned arrived : World) (middle last : List WorldStep)
    (each_middle : AllByRecursion (λ s. is_of_round s ≡ true) middle)
    (each_last : AllByRecursion (λ s. is_of_round s ≡ true) last)
    (to_arrived : AreTaken net turned middle arrived) (to_end : AreTaken net arrived last y) where
  after_turned : Rises turned y
  after_turned =
      rises_on turned arrived y (run_rises net middle turned arrived each_middle to_arrived)
      (run_rises net last arrived y each_last to_end)

  back_at : (x : World) → Same x0 x → IsLinkedBack net x n
  back_at x same m near up =
      let e : net_at net x n ≡ net_at net x0 n = ap (net_by net) (view_stays x0 x same.stays n (Events 0)) in
      same.stays.links m n ∙ (linked n m n_in (subst (λ (N : Net). are_neighbours N n m ≡ true) e near)).1

  none_since : (x : World) → Same x0 x → BringsNoMore x y
  none_since x same =
      record {
        held = λ w f. omega (arith, none.held w f, same.stays.holdings w f);
        acked = λ v m f. omega (arith, none.acked v m f, same.stays.acked v m f);
      }

  quiet_before : (x : World) → Same x0 x → IsQuiet net x n t → IsQuiet net x0 n t
  quiet_before x same quiet =
      subst (λ (V : View). result_map leaves (node_step net n V (x0.sessions n) (Input.Local (Turn t)))
      ≡ Ok (None, [])) views
      (subst (λ (s : Session). result_map leaves (node_step net n (view_at x n) s (Input.Local (Turn t)))
      ≡ Ok (None, [])) sessions quiet)
    where
      views : view_at x n ≡ view_at x0 n
      views = λ i f. view_stays x0 x same.stays n f i

      sessions : x.sessions n ≡ x0.sessions n
      sessions =
          λ i. record {
            acked = λ m f. same.stays.acked n m f i;
            links = λ m. same.stays.links n m i;
            live = same.live n i;
          }

  module _ (x z : World) (inv : Invariant net x) (back : IsLinkedBack net x n) (less : BringsNoMore x y)
      (first : List WorldStep) (each : AllByRecursion (λ s. is_of_round s ≡ true) first)
      (taken : AreTaken net z first turned) (is : after net x n t tree inv back ≡ z) (rises : Rises x z)
      (e : free_step net x (Take n (Turn t)) ≡ Ok z)
      (sent : AreDelivered x (Take n (Turn t) ∷ (first ++ middle)) turned)
      (answers : AreDelivered x (Take n (Turn t) ∷ ((first ++ middle) ++ last)) arrived) where
    to_turned : Rises z turned
    to_turned = run_rises net first z turned each taken

    ends : Rises z y
    ends = rises_on z turned y to_turned after_turned

    not_kept : (g : Entry) → (turn net x n t tree inv back).made ≡ Some g → ⊥
    unfolding after turn
    not_kept g made =
        no_more x z y less ends
        (HasMore.held n g.feed
        (let r : (after net x n t tree inv back).holdings n g.feed ≡ suc (x.holdings n g.feed) =
        raised_here x n Origin.Own (turn net x n t tree inv back) g made in
        let k : z.holdings n g.feed ≡ suc (x.holdings n g.feed) =
        subst (λ (z : World). z.holdings n g.feed ≡ suc (x.holdings n g.feed)) is r in
        omega (arith, k)))

    not_sent : (o : Out) (os : List Out) → (turn net x n t tree inv back).made ≡ None
        → (turn net x n t tree inv back).outs ≡ o ∷ os → ⊥
    unfolding after turn IsNear
    not_sent o os nothing outs =
        let s : FirstSent (IsNear net x n t tree inv back) (view_at x n) (x.sessions n).acked o =
        sends_first net x n t tree inv back o os nothing outs in
        let near : (are_neighbours (net_at net x n) n s.to ≡ true) × ((x.sessions n).links s.to ≡ true) =
        both_parts net x n t tree inv back (are_neighbours (net_at net x n) n s.to) ((x.sessions n).links s.to)
        s.near in
        let there : nth (z.packets n s.to) (next_packet x n s.to)
        ≡ Some (Mail s.feed (1 + (x.sessions n).acked s.to s.feed)) =
        subst (λ (z : World). nth (z.packets n s.to) (next_packet x n s.to)
        ≡ Some (Mail s.feed (1 + (x.sessions n).acked s.to s.feed))) is
        (sent_first x n Origin.Own (turn net x n t tree inv back) s.to
        (Mail s.feed (1 + (x.sessions n).acked s.to s.feed)) os (outs ∙ ap (λ p. p ∷ os) s.is)) in
        let same : Stays x z = subst (Stays x) is (turn_stays net x n t tree inv back nothing) in
        no_packet net x y n s.to inv less s.feed s.more arrived last each_last to_end (back s.to near.0 near.1)
        (not_itself net x n t tree inv back s.to s.near) (first ++ middle) z same
        (all_append (λ s. is_of_round s ≡ true) first middle each each_middle)
        (taken_append net first middle z turned arrived taken to_arrived)
        (delivered_later net x z arrived (Take n (Turn t)) ((first ++ middle) ++ last) e rises answers)
        (next_packet x n s.to) there
        (later s.to (sent n s.to (next_packet x n s.to) (omega arith)
        (let l : next_packet x n s.to ≤ length (z.packets n s.to) =
        nth_within (z.packets n s.to) (next_packet x n s.to) (Mail s.feed (1 + (x.sessions n).acked s.to s.feed))
        there in
        omega (arith, l, length_more z turned to_turned n s.to))))
      where
        later : (m : ℕ) → IsAmong (Deliver n m (next_packet x n m)) (Take n (Turn t) ∷ (first ++ middle))
            → IsAmong (Deliver n m (next_packet x n m)) (first ++ middle)
        later m (inr h) = h
        later m (inl h) = cc

    turn_quiet : step_fault (net_at net x n) n (view_at x n) (x.sessions n) (Input.Local (Turn t)) ≡ None
        → IsQuiet net x n t
    unfolding node_step turn
    turn_quiet faultless =
        go (turn net x n t tree inv back).made refl (turn net x n t tree inv back).outs refl
      where
        quiet_then : (turn net x n t tree inv back).made ≡ None → (turn net x n t tree inv back).outs ≡ []
            → result_map leaves (unless_fault (step_fault (net_at net x n) n (view_at x n) (x.sessions n)
            (Input.Local (Turn t))) (turn net x n t tree inv back)) ≡ Ok (None, [])
        quiet_then nothing outs = rw (faultless, nothing, outs) refl

        go : (made : Option Entry) → (turn net x n t tree inv back).made ≡ made → (outs : List Out)
            → (turn net x n t tree inv back).outs ≡ outs → IsQuiet net x n t
        go (Some g) h outs k = absurd (not_kept g h)
        go None h [] k = quiet_then h k
        go None h (o ∷ os) k = absurd (not_sent o os h k)

  turn_found : (first : List WorldStep) (x : World) → Same x0 x → Invariant net x
      → AllByRecursion (λ s. is_of_round s ≡ true) first → AreTaken net x first turned
      → AreDelivered x (first ++ middle) turned → AreDelivered x ((first ++ middle) ++ last) arrived
      → IsAmong (Take n (Turn t)) first → IsQuiet net x0 n t
  unfolding after turn free_step
  turn_found [] x same inv each taken sent answers among = absurd among
  turn_found (s ∷ first) x same inv each taken sent answers (inl e) =
      let here : free_step net x (Take n (Turn t)) ≡ Ok taken.0 =
      subst (λ (s : WorldStep). free_step net x s ≡ Ok taken.0) e taken.1 in
      let p : (step_fault (net_at net x n) n (view_at x n) (x.sessions n) (Input.Local (Turn t)) ≡ None)
      × (apply_effect (recounted x) n Origin.Own (step_of net (recounted x) n (Input.Local (Turn t))) ≡ taken.0) =
      took net (recounted x) taken.0 n (Turn t) here in
      let again : Same x0 (recounted x) = same_recounted x0 x same in
      quiet_before x same
      (turn_quiet (recounted x) taken.0 (recount net x inv) (back_at (recounted x) again)
      (none_since (recounted x) again) first each.1 taken.2 p.1
      (rises_recounted x taken.0 (step_moves net x taken.0 s each.0 taken.1).rises) here
      (subst (λ (s : WorldStep). AreDelivered x (s ∷ (first ++ middle)) turned) e sent)
      (subst (λ (s : WorldStep). AreDelivered x (s ∷ ((first ++ middle) ++ last)) arrived) e answers) p.0)
  turn_found (s ∷ first) x same inv each taken sent answers (inr later) =
      let moves : Moves x taken.0 = step_moves net x taken.0 s each.0 taken.1 in
      go moves.change
      (λ same. turn_found first taken.0 same (free_kept net x taken.0 s inv taken.1) each.1 taken.2
      (delivered_later net x taken.0 turned s (first ++ middle) taken.1 moves.rises sent)
      (delivered_later net x taken.0 arrived s ((first ++ middle) ++ last) taken.1 moves.rises answers) later)
    where
      go : (HasMore x taken.0 ⊎ Same x taken.0) → (Same x0 taken.0 → IsQuiet net x0 n t) → IsQuiet net x0 n t
      go (inl h) more =
          absurd (no_more x taken.0 y (none_since x same)
          (rises_on taken.0 turned y (run_rises net first taken.0 turned each.1 taken.2) after_turned) h)
      go (inr h) more = more (same_on x0 x taken.0 same h)

-- the steps of an open round, taken one after another
pub open_taken : (net : Net) (readings : ℕ → ℕ) (x y : World) (steps : List WorldStep)
    → IsOpenRound net readings x steps y → AreTaken net x steps y
open_taken net readings x y steps r =
    subst (λ (ss : List WorldStep). AreTaken net x ss y) (sym r.split)
    (taken_append net (r.turning ++ r.arriving) r.answering x r.arrived y
    (taken_append net r.turning r.arriving x r.turned r.arrived r.to_turned r.to_arrived) r.to_end)

pub found_rest : (net : Net) (readings : ℕ → ℕ) (x y : World) (steps : List WorldStep) → IsTree net
    → Invariant net x → AreLinked net x → IsOpenRound net readings x steps y → BringsNoMore x y
    → IsAtRest net readings x
found_rest net readings x y steps tree inv linked r none =
    record {
      linked = λ n m n_in m_in near. (linked n m n_in near).0;
      quiet =
          λ n n_in. turn_found net x y tree linked none n n_in (readings n) r.turned r.arrived r.arriving r.answering
          (all_right IsOf r.turning r.arriving both) (all_right IsOf (r.turning ++ r.arriving) r.answering each)
          r.to_arrived r.to_end r.turning x (same_self x) inv (all_left IsOf r.turning r.arriving both) r.to_turned r.sent
          (subst (λ (ss : List WorldStep). AreDelivered x ss r.arrived) r.split r.answers) (r.turns n n_in);
    }
  where
    IsOf : WorldStep → Type 0
    IsOf s = is_of_round s ≡ true

    each : AllByRecursion IsOf ((r.turning ++ r.arriving) ++ r.answering)
    each = subst (λ (ss : List WorldStep). AllByRecursion IsOf ss) r.split r.each

    both : AllByRecursion IsOf (r.turning ++ r.arriving)
    both = all_left IsOf (r.turning ++ r.arriving) r.answering each

-- a round is an open one
pub opens : (net : Net) (readings : ℕ → ℕ) (x y : World) (steps : List WorldStep) → IsRound net readings x steps y
    → IsOpenRound net readings x steps y
opens net readings x y steps r =
    record {
      turning = steps;
      turned = y;
      arriving = [];
      arrived = y;
      answering = [];
      split = sym (append-nil (steps ++ []) ∙ append-nil steps);
      to_turned = r.taken;
      to_arrived = refl;
      to_end = refl;
      each = r.each;
      turns = r.turns;
      sent = λ a b k low high. subst (IsAmong (Deliver a b k)) (sym (append-nil steps)) (r.deliveries a b k low high);
      answers = r.deliveries;
    }
