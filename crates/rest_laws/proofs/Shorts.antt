-- Where each order has a short answer, no entry that a turn would make is ever too long.
use Rattle.std.proofs.Common.{◌≡◌, ℕ, ◌+◌, ◌*◌, ◌<◌, ◌≤◌, true, false, ◌&&◌, ◌⊎◌, inl, inr, List, [], ◌∷◌, ◌++◌, refl, sym, subst}
use Rattle.std.proofs.Common.{arith, Option, Some, None}
use Rattle.std.proofs.lemmas.Bool.Decides.{nat_tests}
use Rattle.std.specs.List.{AllByRecursion, list_all}
use Rattle.std.specs.Prelude.{Ok, nat_le, nat_lt, option_map}
use Rattle.lemmas.proofs.Booleans.{and_left, and_made, and_right}
use Rattle.model.specs.Types.{Body, Cmd, Deliver, Entry, Events, Linked, LiveJob, Net, Order, Orders, Take, Turn, WorldStep}
use Rattle.model.specs.Network.{node_count}
use Rattle.model.specs.History.{View, list_of}
use Rattle.model.specs.FreeSteps.{free_step}
use Rattle.model.specs.Invariant.{Invariant, counts_well, has_its_feed}
use Rattle.model.specs.NewEntry.{event_of, makes, next_entry, own_entry}
use Rattle.model.specs.Sizes.{entry_size}
use Rattle.model.specs.StepFaults.{is_too_long}
use Rattle.model.specs.Turn.{next_order, turn_body}
use Rattle.model.specs.World.{World, view_at}
use Rattle.model_laws.proofs.Formed.{entry_formed}
use Rattle.model_laws.proofs.Options.{slice_get_all, there_if}
use Rattle.model_laws.proofs.Turns.{TurnGives, Writes, turn_gives}
use Rattle.rest_laws.specs.Left.{keeps_to}
use Rattle.rest_laws.specs.Rest.{net_at}
use Rattle.rest_laws.specs.Rounds.{AreTaken}
use Rattle.rest_laws.specs.Short.{answer_size, are_answers_short, has_short_answer}
use Rattle.rest_laws.specs.ToRest.{AlwaysShort, names_inside, would_keep}
use Rattle.rest_laws.proofs.Gains.{kept_run}
use Rattle.rest_laws.proofs.Entered.{Made, next_given, turn_makes}
use Rattle.rest_laws.proofs.Lefts.{delivered_same, linked_same}
use Rattle.rest_laws.proofs.Phases.{all_pushed, turn_inside}
use Rattle.rest_laws.proofs.Exists.{steps_named}
use Rattle.rest_laws.proofs.Shown.{in_feed}
use Rattle.rest_laws.proofs.Sizes.{event_short}
use Rattle.rest_laws.proofs.Taken.{count_at, not_beyond}

-- what a turn makes is no order
pub event_answered : (N : Net) (V : View) (w : ℕ) (live : List LiveJob) (t : ℕ) (b : Body) → TurnGives N V w live t b
    → has_short_answer b ≡ true
event_answered N V w live t b (TurnGives.clocked due) = refl
event_answered N V w live t b (TurnGives.lost j n e dead) = refl
event_answered N V w live t b (TurnGives.declined a c why e) = refl
event_answered N V w live t b (TurnGives.added a draft e v) = refl
event_answered N V w live t b (TurnGives.obeyed a c e) = refl
event_answered N V w live t b (TurnGives.until o p u mine first is) = refl
event_answered N V w live t b (TurnGives.late o p mine first) = refl
event_answered N V w live t b (TurnGives.released s may) = refl
event_answered N V w live t b (TurnGives.ended s may) = refl
event_answered N V w live t b (TurnGives.launched j ready) = refl

-- so turns, deliveries and links keep the answers short
short_same : (net : Net) (x z : World) → z.history ≡ x.history → are_answers_short net x ≡ true
    → are_answers_short net z ≡ true
unfolding are_answers_short
short_same net x z e h = rw e h

pub short_behind : (net : Net) (x z : World) (w : ℕ) (b : Body)
    → z.history ≡ x.history ++ next_entry (view_at x w) (Events w) b ∷ [] → has_short_answer b ≡ true
    → are_answers_short net x ≡ true → are_answers_short net z ≡ true
unfolding are_answers_short
short_behind net x z w b history this h =
    and_made _ _ (and_left _ _ h)
    (subst (λ (G : List Entry). list_all (λ (e : Entry). has_short_answer e.body) G ≡ true) (sym history)
    (all_pushed (λ (e : Entry). has_short_answer e.body) x.history (next_entry (view_at x w) (Events w) b)
    (and_right _ _ h) this))

short_made : (net : Net) (x z : World) (w t : ℕ) (b : Body) → Made net x z w t b → are_answers_short net x ≡ true
    → are_answers_short net z ≡ true
short_made net x z w t b made h =
    short_behind net x z w b made.history
    (event_answered (net_at net x w) (view_at x w) w (x.sessions w).live t b
    (there_if (TurnGives (net_at net x w) (view_at x w) w (x.sessions w).live t) _ b
    (turn_gives (net_at net x w) (view_at x w) w (x.sessions w).live t) made.body)) h

pub step_short : (net : Net) (readings : ℕ → List ℕ) (x z : World) (s : WorldStep) → are_answers_short net x ≡ true
    → keeps_to readings s ≡ true → free_step net x s ≡ Ok z → are_answers_short net z ≡ true
step_short net readings x z (Take w (Turn t)) h keep e = go (turn_makes net x z w t e).1
  where
    go : ((z.history ≡ x.history) ⊎ ((b : Body) × Made net x z w t b)) → are_answers_short net z ≡ true
    go (inl k) = short_same net x z k h
    go (inr k) = short_made net x z w t k.0 k.1 h
step_short net readings x z (Take w (Linked v)) h keep e = short_same net x z (linked_same net x z w v e) h
step_short net readings x z (Deliver a b k) h keep e = short_same net x z (delivered_same net x z a b k e) h
step_short net readings x z _ h keep e = cc

steps_short : (net : Net) (readings : ℕ → List ℕ) (steps : List WorldStep) (x y : World) → are_answers_short net x ≡ true
    → AllByRecursion (λ s. keeps_to readings s ≡ true) steps → AreTaken net x steps y → are_answers_short net y ≡ true
steps_short net readings [] x y h keep taken = subst (λ (y : World). are_answers_short net y ≡ true) taken h
steps_short net readings (s ∷ steps) x y h keep taken =
    steps_short net readings steps taken.0 y (step_short net readings x taken.0 s h keep.0 taken.1) keep.1 taken.2

-- an order that a workstation holds has a short answer
module _ (net : Net) (x : World) (w t : ℕ) (inv : Invariant net x) (names : names_inside net x ≡ true)
    (short : are_answers_short net x ≡ true) where
  next_short : (a : ℕ) (c : Cmd) → next_order (view_at x w) w a ≡ Some c → answer_size c ≤ 4194304
  unfolding are_answers_short list_of
  next_short a c e =
      low (answer_size c)
      (there_if (λ (b : Body). has_short_answer b ≡ true) _ (Order c)
      (slice_get_all (λ (b : Body). has_short_answer b ≡ true) (list_of x.history (Orders a w)) _
      (in_feed (λ (b : Body). has_short_answer b ≡ true) (Orders a w) (λ (e : Entry). has_short_answer e.body)
      (λ e h same. h) x.history (and_right _ _ short)))
      (next_given net x w inv a c e))
    where
      low : (n : ℕ) → nat_le n 4194304 ≡ true → n ≤ 4194304
      low n h = grind (arith, nat_tests)

  few : 21 + 6 * node_count (net_at net x w) ≤ 4194304
  unfolding are_answers_short
  few =
      subst (λ n. 21 + 6 * n ≤ 4194304) (sym (count_at net x w)) (low (21 + 6 * node_count net) (and_left _ _ short))
    where
      low : (n : ℕ) → nat_le n 4194304 ≡ true → n ≤ 4194304
      low n h = grind (arith, nat_tests)

  kept_short : w < node_count net → (b : Body) → turn_body (net_at net x w) (view_at x w) w (x.sessions w).live t ≡ Some b
      → entry_size (next_entry (view_at x w) (Events w) b) ≤ 4194304
  kept_short w_in b e =
      event_short (net_at net x w) (view_at x w) w (x.sessions w).live t few next_short b gives
      (well (entry_formed (net_at net x w) (view_at x w) w (x.sessions w) (Turn t) (next_entry (view_at x w) (Events w) b)
      (Writes.turned t b gives)))
      (turn_inside net x w t b w_in names e).1
    where
      gives : TurnGives (net_at net x w) (view_at x w) w (x.sessions w).live t b
      gives =
          there_if (TurnGives (net_at net x w) (view_at x w) w (x.sessions w).live t) _ b
          (turn_gives (net_at net x w) (view_at x w) w (x.sessions w).live t) e

      well : (has_its_feed (Events w) b && (nat_lt 0 (next_entry (view_at x w) (Events w) b).place && counts_well b)) ≡ true
          → counts_well b ≡ true
      well h =
          and_right (nat_lt 0 (next_entry (view_at x w) (Events w) b).place) (counts_well b)
          (and_right (has_its_feed (Events w) b) _ h)

  turn_short : w < node_count net → is_too_long (would_keep net x w t) ≡ false
  unfolding makes own_entry event_of
  turn_short w_in =
      go (turn_body (net_at net x w) (view_at x w) w (x.sessions w).live t) (λ b e. kept_short w_in b e)
    where
      go : (o : Option Body) → ((b : Body) → o ≡ Some b → entry_size (next_entry (view_at x w) (Events w) b) ≤ 4194304)
          → is_too_long (option_map (next_entry (view_at x w) (Events w)) o) ≡ false
      go None h = refl
      go (Some b) h = not_beyond 4194304 (entry_size (next_entry (view_at x w) (Events w) b)) (h b refl)

pub always_short : (net : Net) (readings : ℕ → List ℕ) (x : World) → Invariant net x → names_inside net x ≡ true
    → are_answers_short net x ≡ true → AlwaysShort net readings x
always_short net readings x inv names short y h w t w_in among =
    turn_short net y w t (kept_run net h.steps x y inv h.taken)
    (steps_named net readings h.steps x y names h.keep h.taken)
    (steps_short net readings h.steps x y short h.keep h.taken) w_in
