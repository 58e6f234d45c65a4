-- A round in which what was sent comes, by what it brings, and which brings no more, finds the network at rest.
use Rattle.std.proofs.Common.{◌≡◌, ℕ, zero, suc, ◌+◌, ◌<◌, ◌≤◌, true, ◌⊎◌, inl, inr}
use Rattle.std.proofs.Common.{List, [], ◌∷◌, ◌++◌, length, refl, ap, sym, subst, ◌∙◌, arith, Option, Some, None}
use Rattle.std.proofs.Common.{length-append}
use Rattle.std.specs.List.{AllByRecursion}
use Rattle.std.specs.Prelude.{Ok}
use Rattle.lemmas.proofs.Lists.{get_in_front}
use Rattle.model.specs.Types.{Ack, Deliver, Entry, Events, Feed, Input, Mail, Net}
use Rattle.model.specs.Types.{Out, Packet, Take, Turn, WorldStep}
use Rattle.model.specs.Words.{nth}
use Rattle.model.specs.Network.{IsTree, are_neighbours, node_count}
use Rattle.model.specs.History.{View}
use Rattle.model.specs.PresentNet.{net_by}
use Rattle.model.specs.Sessions.{Session}
use Rattle.model.specs.StepFaults.{step_fault}
use Rattle.model.specs.Step.{node_step, unless_fault}
use Rattle.model.specs.World.{Origin, World, apply_effect, result_map, view_at}
use Rattle.model.specs.Invariant.{Invariant}
use Rattle.model.specs.FreeSteps.{free_step, recounted}
use Rattle.model_laws.proofs.FreeRuns.{free_kept, recount}
use Rattle.model_laws.proofs.Steps.{step_of}
use Rattle.rest_laws.specs.Leads.{HasMore, IsLinkedBack, next_packet}
use Rattle.rest_laws.specs.Rest.{IsAtRest, IsQuiet, leaves, net_at}
use Rattle.rest_laws.specs.Rounds.{AreLinked, AreTaken, BringsNoMore, IsAmong, is_of_round}
use Rattle.rest_laws.proofs.Leads.{Answers, FirstSent, IsNear, answer_brings, both_parts}
use Rattle.rest_laws.proofs.Leads.{after, packet_brings, raised_here, sends_first, sent_first, took, turn, view_stays}
use Rattle.rest_laws.proofs.Rises.{Moves, Rises, Same, rises_on, run_rises, same_on, same_recounted, same_self}
use Rattle.rest_laws.proofs.Rises.{rises_recounted, stays_recounted, step_moves}
use Rattle.nights_at_rest.specs.Frames.{Comes, ComesIn, IsFrameRound}

-- packets that are there stay at their numbers
pub still_there : (a b k : ℕ) (p : Packet) (x y : World) → nth (x.packets a b) k ≡ Some p → Rises x y
    → nth (y.packets a b) k ≡ Some p
still_there a b k p x y e h =
    let q = h.packets a b in
    subst (λ ps. nth ps k ≡ Some p) (sym q.1) (go k e q.0)
  where
    go : (k : ℕ) → nth (x.packets a b) k ≡ Some p → (rest : List Packet) → nth (x.packets a b ++ rest) k ≡ Some p
    go zero e rest = cc
    go (suc i) e rest = get_in_front (x.packets a b) rest i p e

no_fewer : (a b : ℕ) (x z : World) → Rises x z → next_packet x a b ≤ next_packet z a b
no_fewer a b x z h =
    let q = h.packets a b in
    let l : length (z.packets a b) ≡ length (x.packets a b) + length q.0 =
    ap length q.1 ∙ length-append (x.packets a b) q.0 in
    omega (arith, l)

-- a packet is delivered between x and last, where all that counts is as in x
pub record Delivered (net : Net) (x : World) (a b : ℕ) (p : Packet) (last : World) : Type 0 where
  pub before : World
  pub after_ : World
  pub number : ℕ
  pub same : Same x before
  pub rose : Rises x before
  pub step_ : free_step net before (Deliver a b number) ≡ Ok after_
  pub there : nth (before.packets a b) number ≡ Some p
  pub rises : Rises after_ last

-- so is a turn taken
pub record Turned (net : Net) (x : World) (n t : ℕ) (last : World) : Type 0 where
  pub before : World
  pub after_ : World
  pub same : Same x before
  pub rose : Rises x before
  pub inv : Invariant net before
  pub step_ : free_step net before (Take n (Turn t)) ≡ Ok after_
  pub rises : Rises after_ last

module _ (net : Net) (x0 y : World) (none : BringsNoMore x0 y) where
  -- where the end has no more, no step has
  no_more : (x z : World) → Same x0 x → HasMore x z → Rises z y → ⊥
  no_more x z same (HasMore.held w f h) rises =
      omega (arith, h, none.held w f, rises.held w f, same.stays.holdings w f)
  no_more x z same (HasMore.acked n m f h) rises =
      omega (arith, h, none.acked n m f, rises.acked n m f, same.stays.acked n m f)

  same_then : (x z : World) → Same x0 x → Moves x z → Rises z y → Same x0 z
  same_then x z same moves rises = go moves.change
    where
      go : (HasMore x z ⊎ Same x z) → Same x0 z
      go (inl h) = absurd (no_more x z same h rises)
      go (inr h) = same_on x0 x z same h

  pub same_end : (steps : List WorldStep) (x z : World) → Same x0 x → AllByRecursion (λ s. is_of_round s ≡ true) steps
      → AreTaken net x steps z → Rises z y → Same x0 z
  same_end [] x z same each taken rises = subst (Same x0) taken same
  same_end (s ∷ steps) x z same each taken rises =
      same_end steps taken.0 z
      (same_then x taken.0 same (step_moves net x taken.0 s each.0 taken.1)
      (rises_on taken.0 z y (run_rises net steps taken.0 z each.1 taken.2) rises)) each.1 taken.2 rises

  pub find : (a b : ℕ) (p : Packet) (last : World) → Rises last y → (steps : List WorldStep) (x z : World) → Same x0 x
      → Rises x0 x → AllByRecursion (λ s. is_of_round s ≡ true) steps → (taken : AreTaken net x steps z) → Rises z last
      → Comes net steps x z taken a b p → Delivered net x0 a b p last
  find a b p last ends [] x z same rose each taken rises comes = absurd comes
  find a b p last ends (s ∷ steps) x z same rose each taken rises (inl h) =
      record {
        before = x;
        after_ = taken.0;
        number = h.0;
        same = same;
        rose = rose;
        step_ = subst (λ (t : WorldStep). free_step net x t ≡ Ok taken.0) h.1 taken.1;
        there = h.2;
        rises = rises_on taken.0 z last (run_rises net steps taken.0 z each.1 taken.2) rises;
      }
  find a b p last ends (s ∷ steps) x z same rose each taken rises (inr later) =
      let moves : Moves x taken.0 = step_moves net x taken.0 s each.0 taken.1 in
      let to_last : Rises taken.0 last = rises_on taken.0 z last (run_rises net steps taken.0 z each.1 taken.2) rises in
      find a b p last ends steps taken.0 z (same_then x taken.0 same moves (rises_on taken.0 last y to_last ends))
      (rises_on x0 x taken.0 rose moves.rises) each.1 taken.2 rises later

  pub find_turn : (n t : ℕ) (last : World) → Rises last y → (steps : List WorldStep) (x z : World) → Same x0 x
      → Rises x0 x → Invariant net x → AllByRecursion (λ s. is_of_round s ≡ true) steps → AreTaken net x steps z
      → Rises z last → IsAmong (Take n (Turn t)) steps → Turned net x0 n t last
  find_turn n t last ends [] x z same rose inv each taken rises among = absurd among
  find_turn n t last ends (s ∷ steps) x z same rose inv each taken rises (inl h) =
      record {
        before = x;
        after_ = taken.0;
        same = same;
        rose = rose;
        inv = inv;
        step_ = subst (λ (t : WorldStep). free_step net x t ≡ Ok taken.0) h taken.1;
        rises = rises_on taken.0 z last (run_rises net steps taken.0 z each.1 taken.2) rises;
      }
  find_turn n t last ends (s ∷ steps) x z same rose inv each taken rises (inr later) =
      let moves : Moves x taken.0 = step_moves net x taken.0 s each.0 taken.1 in
      let to_last : Rises taken.0 last = rises_on taken.0 z last (run_rises net steps taken.0 z each.1 taken.2) rises in
      find_turn n t last ends steps taken.0 z (same_then x taken.0 same moves (rises_on taken.0 last y to_last ends))
      (rises_on x0 x taken.0 rose moves.rises) (free_kept net x taken.0 s inv taken.1) each.1 taken.2 rises later

-- a turn in such a round is quiet
module _ (net : Net) (x0 y : World) (none : BringsNoMore x0 y) (tree : IsTree net) (inv0 : Invariant net x0)
    (linked : AreLinked net x0) (n t : ℕ) (n_in : n < node_count net) (turned arrived : World)
    (to_arrived : Rises turned arrived) (to_end : Rises arrived y)
    (mail : (m k : ℕ) (p : Packet) → next_packet x0 n m ≤ k → nth (turned.packets n m) k ≡ Some p → Delivered net x0 n m p arrived)
    (ack : (m k : ℕ) (p : Packet) → next_packet x0 m n ≤ k → nth (arrived.packets m n) k ≡ Some p → Delivered net x0 m n p y) where
  back_at : (x : World) → Same x0 x → IsLinkedBack net x n
  back_at x same m near up =
      let e : net_at net x n ≡ net_at net x0 n = ap (net_by net) (view_stays x0 x same.stays n (Events 0)) in
      same.stays.links m n ∙ (linked n m n_in (subst (λ (N : Net). are_neighbours N n m ≡ true) e near)).1

  quiet_before : (x : World) → Same x0 x → IsQuiet net x n t → IsQuiet net x0 n t
  quiet_before x same quiet =
      subst (λ (V : View). result_map leaves (node_step net n V (x0.sessions n) (Input.Local (Turn t)))
      ≡ Ok (None, [])) views
      (subst (λ (s : Session). result_map leaves (node_step net n (view_at x n) s (Input.Local (Turn t)))
      ≡ Ok (None, [])) sessions quiet)
    where
      views : view_at x n ≡ view_at x0 n
      views = λ i f. view_stays x0 x same.stays n f i

      sessions : x.sessions n ≡ x0.sessions n
      sessions =
          λ i. record {
            acked = λ m f. same.stays.acked n m f i;
            links = λ m. same.stays.links n m i;
            live = same.live n i;
          }

  -- an answer that tells more would bring more
  no_answer : (m k : ℕ) (f : Feed) (len : ℕ) (u : World) → Rises u arrived → next_packet x0 m n ≤ k
      → nth (u.packets m n) k ≡ Some (Ack f len) → (x0.sessions n).acked m f < len
      → (x0.sessions n).acked m f < length (view_at x0 n f) → ⊥
  unfolding free_step
  no_answer m k f len u rises low there more here =
      let d : Delivered net x0 m n (Ack f len) y =
      ack m k (Ack f len) low (still_there m n k (Ack f len) u arrived there rises) in
      no_more net x0 y none x0 d.after_ (same_self x0)
      (answer_brings net x0 n m inv0 (recounted d.before) (stays_recounted x0 d.before d.same.stays) d.number f len d.there
      more here d.after_ d.step_) d.rises

  -- a packet that is not known to be held would bring more, or such an answer
  no_packet : (m k : ℕ) (f : Feed) → (x0.sessions m).links n ≡ true → next_packet x0 n m ≤ k
      → nth (turned.packets n m) k ≡ Some (Mail f (1 + (x0.sessions n).acked m f))
      → (x0.sessions n).acked m f < length (view_at x0 n f) → ⊥
  unfolding free_step
  no_packet m k f up low there here =
      let d : Delivered net x0 n m (Mail f (1 + (x0.sessions n).acked m f)) arrived =
      mail m k (Mail f (1 + (x0.sessions n).acked m f)) low there in
      go d (packet_brings net x0 n m inv0 (recounted d.before) (stays_recounted x0 d.before d.same.stays) up d.number f
      d.there here d.after_ d.step_)
    where
      go : (d : Delivered net x0 n m (Mail f (1 + (x0.sessions n).acked m f)) arrived)
          → HasMore x0 d.after_ ⊎ Answers net x0 n m inv0 (recounted d.before) d.after_ f → ⊥
      go d (inl h) = no_more net x0 y none x0 d.after_ (same_self x0) h (rises_on d.after_ arrived y d.rises to_end)
      go d (inr a) =
          no_answer m (next_packet d.before m n) f a.len d.after_ d.rises (no_fewer m n x0 d.before d.rose) a.there a.more here

  module _ (x z : World) (same : Same x0 x) (rose : Rises x0 x) (inv : Invariant net x) (back : IsLinkedBack net x n)
      (is : after net x n t tree inv back ≡ z) (rises : Rises z turned) where
    ends : Rises z y
    ends = rises_on z turned y rises (rises_on turned arrived y to_arrived to_end)

    not_kept : (g : Entry) → (turn net x n t tree inv back).made ≡ Some g → ⊥
    unfolding after turn
    not_kept g made =
        no_more net x0 y none x z same
        (HasMore.held n g.feed
        (let r : (after net x n t tree inv back).holdings n g.feed ≡ suc (x.holdings n g.feed) =
        raised_here x n Origin.Own (turn net x n t tree inv back) g made in
        let k : z.holdings n g.feed ≡ suc (x.holdings n g.feed) =
        subst (λ (z : World). z.holdings n g.feed ≡ suc (x.holdings n g.feed)) is r in
        omega (arith, k))) ends

    not_sent : (o : Out) (os : List Out) → (turn net x n t tree inv back).made ≡ None
        → (turn net x n t tree inv back).outs ≡ o ∷ os → ⊥
    unfolding after turn IsNear
    not_sent o os nothing outs =
        let s : FirstSent (IsNear net x n t tree inv back) (view_at x n) (x.sessions n).acked o =
        sends_first net x n t tree inv back o os nothing outs in
        let near : (are_neighbours (net_at net x n) n s.to ≡ true) × ((x.sessions n).links s.to ≡ true) =
        both_parts net x n t tree inv back (are_neighbours (net_at net x n) n s.to) ((x.sessions n).links s.to)
        s.near in
        let knows : (x.sessions n).acked s.to s.feed ≡ (x0.sessions n).acked s.to s.feed = same.stays.acked n s.to s.feed in
        let there : nth (z.packets n s.to) (next_packet x n s.to)
        ≡ Some (Mail s.feed (1 + (x.sessions n).acked s.to s.feed)) =
        subst (λ (z : World). nth (z.packets n s.to) (next_packet x n s.to)
        ≡ Some (Mail s.feed (1 + (x.sessions n).acked s.to s.feed))) is
        (sent_first x n Origin.Own (turn net x n t tree inv back) s.to
        (Mail s.feed (1 + (x.sessions n).acked s.to s.feed)) os (outs ∙ ap (λ p. p ∷ os) s.is)) in
        no_packet s.to (next_packet x n s.to) s.feed (sym (same.stays.links s.to n) ∙ back s.to near.0 near.1)
        (no_fewer n s.to x0 x rose)
        (subst (λ (a : ℕ). nth (turned.packets n s.to) (next_packet x n s.to) ≡ Some (Mail s.feed (1 + a))) knows
        (still_there n s.to (next_packet x n s.to) (Mail s.feed (1 + (x.sessions n).acked s.to s.feed)) z turned there rises))
        (let l : length (view_at x n s.feed) ≡ length (view_at x0 n s.feed) =
        ap length (view_stays x0 x same.stays n s.feed) in
        omega (arith, s.more, l, knows))

    turn_quiet : step_fault (net_at net x n) n (view_at x n) (x.sessions n) (Input.Local (Turn t)) ≡ None
        → IsQuiet net x n t
    unfolding node_step turn
    turn_quiet faultless =
        go (turn net x n t tree inv back).made refl (turn net x n t tree inv back).outs refl
      where
        quiet_then : (turn net x n t tree inv back).made ≡ None → (turn net x n t tree inv back).outs ≡ []
            → result_map leaves (unless_fault (step_fault (net_at net x n) n (view_at x n) (x.sessions n)
            (Input.Local (Turn t))) (turn net x n t tree inv back)) ≡ Ok (None, [])
        quiet_then nothing outs = rw (faultless, nothing, outs) refl

        go : (made : Option Entry) → (turn net x n t tree inv back).made ≡ made → (outs : List Out)
            → (turn net x n t tree inv back).outs ≡ outs → IsQuiet net x n t
        go (Some g) h outs k = absurd (not_kept g h)
        go None h [] k = quiet_then h k
        go None h (o ∷ os) k = absurd (not_sent o os h k)

  quiet_at : Turned net x0 n t turned → IsQuiet net x0 n t
  unfolding after turn free_step
  quiet_at q =
      let x : World = recounted q.before in
      let same : Same x0 x = same_recounted x0 q.before q.same in
      let p : (step_fault (net_at net x n) n (view_at x n) (x.sessions n) (Input.Local (Turn t)) ≡ None)
      × (apply_effect x n Origin.Own (step_of net x n (Input.Local (Turn t))) ≡ q.after_) =
      took net x q.after_ n (Turn t) q.step_ in
      quiet_before x same
      (turn_quiet x q.after_ same (record { held = q.rose.held; acked = q.rose.acked; packets = q.rose.packets })
      (recount net q.before q.inv) (back_at x same) p.1 q.rises p.0)

-- the round
pub found_rest : (net : Net) (reads : ℕ → ℕ) (x y : World) → IsTree net → Invariant net x → IsFrameRound net reads x y
    → BringsNoMore x y → IsAtRest net reads x
found_rest net reads x y tree inv r none = record {
  linked = λ n m n_in m_in near. (r.linked n m n_in near).0;
  quiet = λ n n_in.
      quiet_at net x y none tree inv r.linked n (reads n) n_in r.turned r.arrived to_arrived to_end
      (λ m k p low there. mailed n m p (r.sent n m k p low there))
      (λ m k p low there. answered m n p (r.answers m n k p low there))
      (find_turn net x y none n (reads n) r.turned (rises_on r.turned r.arrived y to_arrived to_end) r.turning.steps x r.turned
      (same_self x) self inv r.turning.each r.turning.taken (rises_self r.turned) (r.turns n n_in));
}
  where
    rises_self : (z : World) → Rises z z
    rises_self z = Rattle.rest_laws.proofs.Rises.rises_self z z refl

    self : Rises x x
    self = rises_self x

    to_turned : Rises x r.turned
    to_turned = run_rises net r.turning.steps x r.turned r.turning.each r.turning.taken

    to_arrived : Rises r.turned r.arrived
    to_arrived = run_rises net r.arriving.steps r.turned r.arrived r.arriving.each r.arriving.taken

    to_end : Rises r.arrived y
    to_end = run_rises net r.answering.steps r.arrived y r.answering.each r.answering.taken

    at_turned : Same x r.turned
    at_turned =
        same_end net x y none r.turning.steps x r.turned (same_self x) r.turning.each r.turning.taken
        (rises_on r.turned r.arrived y to_arrived to_end)

    at_arrived : Same x r.arrived
    at_arrived = same_end net x y none r.arriving.steps r.turned r.arrived at_turned r.arriving.each r.arriving.taken to_end

    first : (a b : ℕ) (p : Packet) (last : World) → Rises r.turned last → Rises last y
        → ComesIn net reads x r.turned r.turning a b p → Delivered net x a b p last
    first a b p last to_last ends comes =
        find net x y none a b p last ends r.turning.steps x r.turned (same_self x) self r.turning.each r.turning.taken to_last comes

    second : (a b : ℕ) (p : Packet) (last : World) → Rises r.arrived last → Rises last y
        → ComesIn net reads r.turned r.arrived r.arriving a b p → Delivered net x a b p last
    second a b p last to_last ends comes =
        find net x y none a b p last ends r.arriving.steps r.turned r.arrived at_turned to_turned r.arriving.each r.arriving.taken
        to_last comes

    mailed : (a b : ℕ) (p : Packet)
        → ComesIn net reads x r.turned r.turning a b p ⊎ ComesIn net reads r.turned r.arrived r.arriving a b p
        → Delivered net x a b p r.arrived
    mailed a b p (inl h) = first a b p r.arrived to_arrived to_end h
    mailed a b p (inr h) = second a b p r.arrived (rises_self r.arrived) to_end h

    answered : (a b : ℕ) (p : Packet)
        → ComesIn net reads x r.turned r.turning a b p
        ⊎ (ComesIn net reads r.turned r.arrived r.arriving a b p ⊎ ComesIn net reads r.arrived y r.answering a b p)
        → Delivered net x a b p y
    answered a b p (inl h) = first a b p y (rises_on r.turned r.arrived y to_arrived to_end) (rises_self y) h
    answered a b p (inr (inl h)) = second a b p y to_end (rises_self y) h
    answered a b p (inr (inr h)) =
        find net x y none a b p y (rises_self y) r.answering.steps r.arrived y at_arrived
        (rises_on x r.turned r.arrived to_turned to_arrived) r.answering.each r.answering.taken (rises_self y) h
