-- The agent's round.
use Rattle.std.proofs.Common.{◌≡◌, ℕ, zero, suc, ◌+◌, ◌<◌, ◌≤◌, Bool, true, false, ◌&&◌, not, cond, ◌⊎◌, inl, inr, List, [], ◌∷◌, ◌++◌}
use Rattle.std.proofs.Common.{length, length-append, refl, ap, sym, subst, ◌∙◌, arith}
use Rattle.std.specs.List.{AllByRecursion}
use Rattle.std.specs.Prelude.{Err, Ok, Result, eqb, pos}
use Rattle.lemmas.proofs.Booleans.{contrary, not_holds, not_made}
use Rattle.lemmas.proofs.Numbers.{eq_refused}
use Rattle.model.specs.Types.{Ack, Deliver, Ended, Events, Input, Launched, Mail, Net, Packet, Released, Started, Take, Turn, WorldStep}
use Rattle.model.specs.Everything.{everything}
use Rattle.model.specs.History.{list_of}
use Rattle.model.specs.FreeSteps.{free_run, free_step, recounted}
use Rattle.model.specs.Step.{Effect}
use Rattle.model.specs.World.{Origin, StepRefused, World, apply_effect, empty_world, mark_delivered, or_as_before, run, step}
use Rattle.model_laws.proofs.Steps.{step_of}
use Rattle.rest_laws.specs.AtRest.{pair}
use Rattle.rest_laws.specs.Gains.{gained}
use Rattle.rest_laws.specs.Leads.{next_packet}
use Rattle.rest_laws.specs.Rounds.{AreLinked, AreTaken, IsAmong}
use Rattle.rest_laws.proofs.Chains.{or_rest}
use Rattle.rest_laws.proofs.Leads.{came, took}
use Rattle.launches_at_rest.proofs.Gaining.{works_rise}
use Rattle.launches_at_rest.specs.Rounds.{AreWorkingRounds}
use Rattle.launches_at_rest.specs.Told.{IsWorkingRound, is_of_work}
use Rattle.launches_at_rest.specs.Worked.{work_arrived, work_begun, work_clocks, work_ended, work_orders, work_readings}
use Rattle.launches_at_rest.specs.Worked.{work_round}
use Rattle.launches_at_rest.specs.Worked.{work_turned, work_turns}

-- steps that are taken by computation
module _ (net : Net) where
  unfoldable pub is_ok : Result World StepRefused → Bool
  is_ok (Ok z) = true
  is_ok (Err r) = false

  unfoldable pub are_ok : World → List WorldStep → Bool
  are_ok x [] = true
  are_ok x (s ∷ steps) = is_ok (free_step net x s) && are_ok (or_as_before x (free_step net x s)) steps

  pub ok_taken : (steps : List WorldStep) (x : World) → are_ok x steps ≡ true → AreTaken net x steps (free_run net steps x)
  unfolding are_ok is_ok free_run
  ok_taken [] x h = refl
  ok_taken (s ∷ steps) x h = go (free_step net x s) refl h (λ z k. ok_taken steps z k)
    where
      go : (r : Result World StepRefused) → free_step net x s ≡ r
          → (is_ok r && are_ok (or_as_before x r) steps) ≡ true
          → ((z : World) → are_ok z steps ≡ true → AreTaken net z steps (free_run net steps z))
          → (z : World) × (free_step net x s ≡ Ok z) × AreTaken net z steps (free_run net steps (or_as_before x r))
      go (Ok z) e k more = (z, e, more z k)
      go (Err r) e k more = cc

turns_ok : are_ok pair work_begun work_turns ≡ true
unfolding everything work_begun are_ok is_ok
turns_ok = refl

arriving_ok : are_ok pair work_turned (Deliver 1 0 3 ∷ []) ≡ true
unfolding everything work_begun work_turned are_ok is_ok
arriving_ok = refl

answering_ok : are_ok pair work_arrived (Deliver 0 1 3 ∷ []) ≡ true
unfolding everything work_begun work_turned work_arrived are_ok is_ok
answering_ok = refl

to_turned : AreTaken pair work_begun work_turns work_turned
unfolding work_turned
to_turned = ok_taken pair work_turns work_begun turns_ok

to_arrived : AreTaken pair work_turned (Deliver 1 0 3 ∷ []) work_arrived
unfolding work_arrived
to_arrived = ok_taken pair (Deliver 1 0 3 ∷ []) work_turned arriving_ok

to_end : AreTaken pair work_arrived (Deliver 0 1 3 ∷ []) work_ended
unfolding work_ended
to_end = ok_taken pair (Deliver 0 1 3 ∷ []) work_arrived answering_ok

-- how many packets there are: two each way before it, one more from the agent then, and one from the master
abbrev lane : World → ℕ → ℕ → ℕ
lane x a b = length (x.packets a b)

turned_10 : lane work_turned 1 0 ≡ 3
unfolding everything work_begun work_turned
turned_10 = refl

turned_01 : lane work_turned 0 1 ≡ 2
unfolding everything work_begun work_turned
turned_01 = refl

begun_10 : lane work_begun 1 0 ≡ 2
unfolding everything work_begun
begun_10 = refl

begun_01 : lane work_begun 0 1 ≡ 2
unfolding everything work_begun
begun_01 = refl

arrived_10 : lane work_arrived 1 0 ≡ 3
unfolding everything work_begun work_turned work_arrived
arrived_10 = refl

arrived_01 : lane work_arrived 0 1 ≡ 3
unfolding everything work_begun work_turned work_arrived
arrived_01 = refl

-- what the two sent, where this is whom they sent it to
lane_of_master : Bool → List Packet
lane_of_master c =
    (((cond c (Mail (Events 0) 1 ∷ []) [] ++ []) ++ cond c (Ack (Events 1) 1 ∷ []) []) ++ []) ++ cond c (Ack (Events 1) 2 ∷ []) []

lane_of_agent : Bool → List Packet
lane_of_agent c =
    ((((cond c (Ack (Events 0) 1 ∷ []) [] ++ cond c (Mail (Events 1) 1 ∷ []) []) ++ []) ++ cond c (Mail (Events 1) 2 ∷ []) []) ++ [])
    ++ []

by_master : (b : ℕ) → lane work_arrived 0 b ≡ length (lane_of_master (eqb 1 b))
unfolding everything work_begun work_turned work_arrived lane_of_master
by_master b = refl

by_agent : (b : ℕ) → lane work_arrived 1 b ≡ length (lane_of_agent (eqb 0 b))
unfolding everything work_begun work_turned work_arrived lane_of_agent
by_agent b = refl

none_0 : (b : ℕ) → eqb 1 b ≡ false → lane work_arrived 0 b ≡ 0
unfolding lane_of_master
none_0 b e = by_master b ∙ ap (λ c. length (lane_of_master c)) e

none_1 : (b : ℕ) → eqb 0 b ≡ false → lane work_arrived 1 b ≡ 0
unfolding lane_of_agent
none_1 b e = by_agent b ∙ ap (λ c. length (lane_of_agent c)) e

-- nobody sends for another
module _ (net : Net) (a b : ℕ) where
  is_elsewhere : WorldStep → Bool
  is_elsewhere (Take w l) = not (eqb a w)
  is_elsewhere (Deliver c w k) = not (eqb a w)
  is_elsewhere _ = false

  beside : (x : World) (w : ℕ) (o : Origin) (d : Effect) → not (eqb a w) ≡ true
      → (apply_effect x w o d).packets a b ≡ x.packets a b
  unfolding apply_effect
  beside x w o d other = rw (not_holds (eqb a w) other) refl

  lane_stays : (x z : World) (s : WorldStep) → is_elsewhere s ≡ true → step net x s ≡ Ok z → z.packets a b ≡ x.packets a b
  unfolding is_elsewhere mark_delivered
  lane_stays x z (Take w l) h e =
      sym (ap (λ (y : World). y.packets a b) (took net x z w l e).1)
      ∙ beside x w Origin.Own (step_of net x w (Input.Local l)) h
  lane_stays x z (Deliver c w k) h e =
      let it = came net x z c w k e in
      sym (ap (λ (y : World). y.packets a b) it.2) ∙ beside x w Origin.Mailed (step_of net x w it.0) h
  lane_stays x z _ h e = cc

  lane_run : (steps : List WorldStep) (x : World) → AllByRecursion (λ s. is_elsewhere s ≡ true) steps
      → (run net steps x).packets a b ≡ x.packets a b
  unfolding run
  lane_run [] x each = refl
  lane_run (s ∷ steps) x each =
      lane_run steps (or_as_before x (step net x s)) each.1 ∙ go (step net x s) refl
    where
      go : (r : Result World StepRefused) → step net x s ≡ r → (or_as_before x r).packets a b ≡ x.packets a b
      go (Ok z) e = lane_stays x z s each.0 e
      go (Err f) e = refl

  lane_free : (steps : List WorldStep) (x : World) → AllByRecursion (λ s. is_elsewhere s ≡ true) steps
      → (free_run net steps x).packets a b ≡ x.packets a b
  unfolding free_run free_step
  lane_free [] x each = refl
  lane_free (s ∷ steps) x each =
      lane_free steps (or_as_before x (free_step net x s)) each.1 ∙ go (step net (recounted x) s) refl
    where
      go : (r : Result World StepRefused) → step net (recounted x) s ≡ r → (or_as_before x r).packets a b ≡ x.packets a b
      go (Ok z) e = lane_stays (recounted x) z s each.0 e
      go (Err f) e = refl

module _ (a b : ℕ) (not_master : not (eqb a 0) ≡ true) (not_agent : not (eqb a 1) ≡ true) where
  none_begun : work_begun.packets a b ≡ []
  unfolding work_begun is_elsewhere
  none_begun =
      lane_run pair a b work_orders empty_world
      (not_master, (not_master, (not_agent, (not_master, (not_agent, (not_master, (not_agent, (not_master, (not_agent, tt)))))))))

  none_turned : work_turned.packets a b ≡ []
  unfolding work_turned is_elsewhere
  none_turned =
      lane_free pair a b work_turns work_begun (not_agent, (not_agent, (not_agent, (not_master, tt)))) ∙ none_begun

  none_arrived : work_arrived.packets a b ≡ []
  unfolding work_arrived is_elsewhere
  none_arrived = lane_free pair a b (Deliver 1 0 3 ∷ []) work_turned (not_master, tt) ∙ none_turned

none_2 : (a b : ℕ) → eqb a 0 ≡ false → eqb a 1 ≡ false → lane work_arrived a b ≡ 0
none_2 a b e f = ap length (none_arrived a b (not_made (eqb a 0) e) (not_made (eqb a 1) f))

lanes : (a b : ℕ) → ((a ≡ 1) × (b ≡ 0)) ⊎ (((a ≡ 0) × (b ≡ 1)) ⊎ (lane work_arrived a b ≡ 0))
lanes zero zero = inr (inr (none_0 0 refl))
lanes zero (suc zero) = inr (inl (refl, refl))
lanes zero (suc (suc b)) = inr (inr (none_0 (suc (suc b)) (eq_refused 1 (suc (suc b)) (λ e. omega (arith, e)))))
lanes (suc zero) zero = inl (refl, refl)
lanes (suc zero) (suc zero) = inr (inr (none_1 1 refl))
lanes (suc zero) (suc (suc b)) = inr (inr (none_1 (suc (suc b)) (eq_refused 0 (suc (suc b)) (λ e. omega (arith, e)))))
lanes (suc (suc a)) b =
    inr (inr (none_2 (suc (suc a)) b (eq_refused (suc (suc a)) 0 (λ e. omega (arith, e)))
    (eq_refused (suc (suc a)) 1 (λ e. omega (arith, e)))))

arriving_works : AllByRecursion (λ s. is_of_work s ≡ true) (Deliver 1 0 3 ∷ [])
arriving_works = (refl, tt)

fewer : (a b : ℕ) → lane work_turned a b ≤ lane work_arrived a b
fewer a b =
    let q = (works_rise pair (Deliver 1 0 3 ∷ []) work_turned work_arrived arriving_works to_arrived).packets a b in
    let l : lane work_arrived a b ≡ lane work_turned a b + length q.0 =
    ap length q.1 ∙ length-append (work_turned.packets a b) q.0 in
    omega (arith, l)

sent_there : (a b k : ℕ) → next_packet work_begun a b ≤ k → k < next_packet work_turned a b
    → IsAmong (Deliver a b k) (work_turns ++ (Deliver 1 0 3 ∷ []))
sent_there a b k low high = go (lanes a b)
  where
    go : ((a ≡ 1) × (b ≡ 0)) ⊎ (((a ≡ 0) × (b ≡ 1)) ⊎ (lane work_arrived a b ≡ 0))
        → IsAmong (Deliver a b k) (work_turns ++ (Deliver 1 0 3 ∷ []))
    go (inl e) =
        let l : next_packet work_begun 1 0 ≤ k =
        subst (λ i. next_packet work_begun 1 i ≤ k) e.1 (subst (λ i. next_packet work_begun i b ≤ k) e.0 low) in
        let h : k < next_packet work_turned 1 0 =
        subst (λ i. k < next_packet work_turned 1 i) e.1 (subst (λ i. k < next_packet work_turned i b) e.0 high) in
        let this : k ≡ 3 = omega (arith, l, h, begun_10, turned_10) in
        inr (inr (inr (inr (inl (rw (e.0, e.1, this) refl)))))
    go (inr (inl e)) =
        let l : next_packet work_begun 0 1 ≤ k =
        subst (λ i. next_packet work_begun 0 i ≤ k) e.1 (subst (λ i. next_packet work_begun i b ≤ k) e.0 low) in
        let h : k < next_packet work_turned 0 1 =
        subst (λ i. k < next_packet work_turned 0 i) e.1 (subst (λ i. k < next_packet work_turned i b) e.0 high) in
        absurd (omega (arith, l, h, begun_01, turned_01))
    go (inr (inr none)) = absurd (omega (arith, low, high, none, fewer a b))

answers_there : (a b k : ℕ) → next_packet work_begun a b ≤ k → k < next_packet work_arrived a b
    → IsAmong (Deliver a b k) work_round
answers_there a b k low high = go (lanes a b)
  where
    go : ((a ≡ 1) × (b ≡ 0)) ⊎ (((a ≡ 0) × (b ≡ 1)) ⊎ (lane work_arrived a b ≡ 0)) → IsAmong (Deliver a b k) work_round
    go (inl e) =
        let l : next_packet work_begun 1 0 ≤ k =
        subst (λ i. next_packet work_begun 1 i ≤ k) e.1 (subst (λ i. next_packet work_begun i b ≤ k) e.0 low) in
        let h : k < next_packet work_arrived 1 0 =
        subst (λ i. k < next_packet work_arrived 1 i) e.1 (subst (λ i. k < next_packet work_arrived i b) e.0 high) in
        let this : k ≡ 3 = omega (arith, l, h, begun_10, arrived_10) in
        inr (inr (inr (inr (inl (rw (e.0, e.1, this) refl)))))
    go (inr (inl e)) =
        let l : next_packet work_begun 0 1 ≤ k =
        subst (λ i. next_packet work_begun 0 i ≤ k) e.1 (subst (λ i. next_packet work_begun i b ≤ k) e.0 low) in
        let h : k < next_packet work_arrived 0 1 =
        subst (λ i. k < next_packet work_arrived 0 i) e.1 (subst (λ i. k < next_packet work_arrived i b) e.0 high) in
        let this : k ≡ 3 = omega (arith, l, h, begun_01, arrived_01) in
        inr (inr (inr (inr (inr (inl (rw (e.0, e.1, this) refl))))))
    go (inr (inr none)) = absurd (omega (arith, low, high, none))

turns_there : (n : ℕ) → n < 2 → IsAmong (Take n (Turn 1)) work_turns
turns_there zero low = inr (inr (inr (inl refl)))
turns_there (suc zero) low = inl refl
turns_there (suc (suc n)) low = absurd (omega (arith, low))

pub work_is_round : IsWorkingRound pair (work_clocks 0) work_begun work_round work_ended
work_is_round =
    record {
      turning = work_turns;
      turned = work_turned;
      arriving = Deliver 1 0 3 ∷ [];
      arrived = work_arrived;
      answering = Deliver 0 1 3 ∷ [];
      split = refl;
      to_turned = to_turned;
      to_arrived = to_arrived;
      to_end = to_end;
      each = (refl, (refl, (refl, (refl, (refl, (refl, tt))))));
      turns = turns_there;
      sent = sent_there;
      answers = answers_there;
    }

pub work_linked : AreLinked pair work_begun
unfolding everything work_begun
work_linked zero zero low near = absurd (contrary near refl)
work_linked zero (suc zero) low near = (refl, refl)
work_linked zero (suc (suc m)) low near = absurd (contrary near refl)
work_linked (suc zero) zero low near = (refl, refl)
work_linked (suc zero) (suc zero) low near = absurd (contrary near refl)
work_linked (suc zero) (suc (suc m)) low near =
    absurd (contrary (or_rest (eqb 0 (suc (suc m))) false (eq_refused 0 (suc (suc m)) (λ e. omega (arith, e))) near) refl)
work_linked (suc (suc n)) m low near = absurd (omega (arith, low))

ended_linked : AreLinked pair work_ended
unfolding everything work_begun work_turned work_arrived work_ended
ended_linked zero zero low near = absurd (contrary near refl)
ended_linked zero (suc zero) low near = (refl, refl)
ended_linked zero (suc (suc m)) low near = absurd (contrary near refl)
ended_linked (suc zero) zero low near = (refl, refl)
ended_linked (suc zero) (suc zero) low near = absurd (contrary near refl)
ended_linked (suc zero) (suc (suc m)) low near =
    absurd (contrary (or_rest (eqb 0 (suc (suc m))) false (eq_refused 0 (suc (suc m)) (λ e. omega (arith, e))) near) refl)
ended_linked (suc (suc n)) m low near = absurd (omega (arith, low))

pub work_rounds : AreWorkingRounds pair work_readings work_clocks 1 work_begun work_ended
work_rounds = (
  work_ended,
  record {
    begin = work_begun;
    up = record { links = []; linking = tt; come_up = refl; linked = work_linked };
    steps = work_round;
    keep = (refl, (refl, (refl, (refl, (refl, (refl, tt))))));
    round = work_is_round;
  },
  record { links = []; linking = tt; come_up = refl; linked = ended_linked },
)

pub work_events : list_of work_ended.history (Events 1)
    ≡ Released 1 ((0, 1) ∷ []) ∷ Launched 1 1 ((0, 1) ∷ (1, 1) ∷ []) ∷ Started 1 1 ∷ Ended 1 1 (pos 0) true ∷ []
unfolding everything work_begun work_turned work_arrived work_ended
work_events = refl

pub work_known : work_ended.holdings 0 (Events 1) ≡ 2
unfolding everything work_begun work_turned work_arrived work_ended
work_known = refl

pub work_gained : gained pair work_begun < gained pair work_ended
unfolding everything work_begun work_turned work_arrived work_ended gained
work_gained = omega arith
