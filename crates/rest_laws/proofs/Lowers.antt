-- Each entry that a turn makes lowers what turns can still make.
use Rattle.std.proofs.Common.{◌≡◌, ℕ, ◌+◌, ◌<◌, ◌≤◌, Bool, true, false, ◌&&◌, ◌||◌, not, inl, inr}
use Rattle.std.proofs.Common.{List, [], ◌∷◌, ◌++◌, refl, ap, sym, subst, ◌∙◌, arith, Option, Some, None}
use Rattle.std.proofs.lemmas.Bool.{eq-eqb, eqb-true}
use Rattle.std.proofs.lemmas.Bool.Decides.{eqb_tells, nat_tests}
use Rattle.std.specs.List.{AllByRecursion, list_all, list_any}
use Rattle.std.specs.Option.{option_map_or}
use Rattle.std.specs.Prelude.{IfSome, ◌==◌, eqb, nat_le, nat_lt, option_and_then, option_map, filter, map, unwrap_or}
use Rattle.std.specs.Bool.{then_some}
use Rattle.lemmas.proofs.Booleans.{and_made, and_right, not_holds}
use Rattle.lemmas.proofs.Lists.{all_map}
use Rattle.model.specs.Types.{Added, Body, Clock, Cmd, Declined, Dep, Events, Job, Late, Launched, LiveJob, Lost, Net, Obeyed}
use Rattle.model.specs.Types.{Obj, Released, Stream, StreamDoc, StreamEnded, Submit, UntilPassed, Why}
use Rattle.model.specs.Words.{below, has, least, nth}
use Rattle.model.specs.Equalities.{obj_eq}
use Rattle.model.specs.History.{Seen, View}
use Rattle.model.specs.Catalogue.{StreamJob, catalogue, is_member, job, jobs, jobs_of, jobs_of_stream, owner, stream}
use Rattle.model.specs.Dependencies.{NumberedDep, all_satisfied, deps}
use Rattle.model.specs.Facts.{answered, is_cancelled, is_due, is_ended, is_late, is_launch_of}
use Rattle.model.specs.Facts.{is_released, is_until_recorded, launches, now, obeyed_command}
use Rattle.model.specs.Facts.{open_launch, reruns}
use Rattle.model.specs.Lateness.{deadline_in, due_lates, is_late_due, late_due}
use Rattle.model.specs.OwnMembers.{UntilTime, due_untils, is_until_due, lets_stream_end, may_end, may_end_in, may_release, may_release_in, own_numbers, until_due}
use Rattle.model.specs.OwnMembers.{until_in}
use Rattle.model.specs.Readiness.{best, is_ready, is_ready_in, ready_conditions}
use Rattle.model.specs.NewPlan.{numbered}
use Rattle.model.specs.Turn.{answer, body_of, end_witnesses, is_clock_due, lost_jobs, next_issuer, next_order, obeyed_as, own_times, seen_for}
use Rattle.model.specs.Turn.{turn_body, turn_choice, witnesses}
use Rattle.model.specs.Verdicts.{verdict}
use Rattle.model.specs.Choices.{Choice}
use Rattle.model_laws.proofs.Decisions.{all_true, release_owner}
use Rattle.model_laws.proofs.Growth.{ready_owner}
use Rattle.model_laws.proofs.Lates.{IsDueLate, due_lates_are}
use Rattle.model_laws.proofs.Options.{find_passes, if_map, if_or, if_some, least_all, slice_get_all, there_if}
use Rattle.model_laws.proofs.Firsts.{jobs_owned}
use Rattle.model_laws.proofs.Lists.{all_filter}
use Rattle.model_laws.proofs.Turns.{TurnGives, turn_gives}
use Rattle.model_laws.proofs.Untils.{IsDueUntil, due_untils_are}
use Rattle.rest_laws.specs.Gains.{sum_over}
use Rattle.rest_laws.specs.Left.{Caps, done, is_below, job_left, left_of, orders_left, records_left, stream_left}
use Rattle.rest_laws.proofs.Falls.{clock_falls, clock_low, end_falls, job_low, job_record_falls, job_rises, late_falls}
use Rattle.rest_laws.proofs.Falls.{launch_falls, lost_falls, orders_fall, orders_low, release_falls, rerun_target}
use Rattle.rest_laws.proofs.Falls.{stream_low, stream_record_falls, sum_over_falls, sum_over_rises, until_falls}
use Rattle.rest_laws.proofs.Gains.{sum_over_low}

-- words
obj_told : (o p : Obj) → o ≡ p → obj_eq o p ≡ true
obj_told o p same = subst (λ q. obj_eq o q ≡ true) same (go o)
  where
    go : (o : Obj) → obj_eq o o ≡ true
    go (Job j) = eq-eqb j j refl
    go (Stream s) = eq-eqb s s refl

-- some time lies above the clock and at most at the reading
due_above : (n t : ℕ) (us : List ℕ) → list_any (λ u. nat_lt n u && nat_le u t) us ≡ true → n < t
due_above n t [] h = cc
due_above n t (u ∷ us) h = go (nat_lt n u) (nat_le u t) refl refl h (λ k. due_above n t us k)
  where
    between : nat_lt n u ≡ true → nat_le u t ≡ true → n < t
    between e f = grind (arith, nat_tests)

    go : (a b : Bool) → nat_lt n u ≡ a → nat_le u t ≡ b
        → ((a && b) || list_any (λ u. nat_lt n u && nat_le u t) us) ≡ true
        → (list_any (λ u. nat_lt n u && nat_le u t) us ≡ true → n < t) → n < t
    go true true e f h more = between e f
    go true false e f h more = more h
    go false b e f h more = more h

-- what decides is gone after it
abbrev release_conditions : Net → View → ℕ → StreamDoc → List Bool
release_conditions net V w d =
    (d.ws == w) ∷ is_member V d.no ∷ not (is_released d.no (V (Events w)))
    ∷ not (is_cancelled (Stream d.no) (V (Events w))) ∷ all_satisfied net V w (Stream d.no) ∷ []

abbrev end_conditions : View → ℕ → StreamDoc → List Bool
end_conditions V w d =
    (d.ws == w) ∷ is_member V d.no ∷ is_released d.no (V (Events w)) ∷ not (is_ended d.no (V (Events w)))
    ∷ not (is_cancelled (Stream d.no) (V (Events w))) ∷ list_all (lets_stream_end V) (jobs_of_stream V d.no) ∷ []

not_released : (net : Net) (V : View) (w s : ℕ) → may_release net V w s ≡ true → is_released s (V (Events w)) ≡ false
unfolding may_release stream
not_released net V w s = go (stream V s) (find_passes (λ (d : StreamDoc). eqb d.no s) (catalogue V))
  where
    go : (o : Option StreamDoc) → IfSome o (λ (d : StreamDoc). eqb d.no s ≡ true)
        → option_map_or (may_release_in net V w) o false ≡ true → is_released s (V (Events w)) ≡ false
    go None k h = cc
    go (Some d) k h =
        let all : AllByRecursion (λ b. b ≡ true) (release_conditions net V w d) = all_true (release_conditions net V w d) h in
        subst (λ i. is_released i (V (Events w)) ≡ false) (eqb-true d.no s k)
        (not_holds (is_released d.no (V (Events w))) all.1.1.0)

not_ended : (V : View) (w s : ℕ) → may_end V w s ≡ true
    → (is_ended s (V (Events w)) ≡ false) × (owner V (Stream s) ≡ Some w)
unfolding may_end stream owner
not_ended V w s = go (stream V s) (find_passes (λ (d : StreamDoc). eqb d.no s) (catalogue V))
  where
    go : (o : Option StreamDoc) → IfSome o (λ (d : StreamDoc). eqb d.no s ≡ true)
        → option_map_or (may_end_in V w) o false ≡ true
        → (is_ended s (V (Events w)) ≡ false) × (option_map (λ (d : StreamDoc). d.ws) o ≡ Some w)
    go None k h = cc
    go (Some d) k h =
        let all : AllByRecursion (λ b. b ≡ true) (end_conditions V w d) = all_true (end_conditions V w d) h in (
          subst (λ i. is_ended i (V (Events w)) ≡ false) (eqb-true d.no s k)
              (not_holds (is_ended d.no (V (Events w))) all.1.1.1.0),
          ap Some (eqb-true d.ws w all.0),
        )

runs_are_due : (j : ℕ) (L : List Body) → is_due j L ≡ true → launches j L < 1 + reruns j L
unfolding is_due
runs_are_due j L h = grind (arith, nat_tests, h)

-- a ready job has a run that is due
run_is_due : (net : Net) (V : View) (w j : ℕ) → is_ready net V w j ≡ true
    → launches j (V (Events w)) < 1 + reruns j (V (Events w))
unfolding is_ready job
run_is_due net V w j = go (job V j) (find_passes (λ (p : StreamJob). eqb p.doc.no j) (jobs V))
  where
    go : (o : Option StreamJob) → IfSome o (λ (p : StreamJob). eqb p.doc.no j ≡ true)
        → option_map_or (is_ready_in net V w) o false ≡ true
        → launches j (V (Events w)) < 1 + reruns j (V (Events w))
    go None k h = cc
    go (Some p) k h =
        let all : AllByRecursion (λ b. b ≡ true) (ready_conditions net V w p) = all_true (ready_conditions net V w p) h in
        runs_are_due j (V (Events w))
        (subst (λ i. is_due i (V (Events w)) ≡ true) (eqb-true p.doc.no j k) all.1.1.1.1.1.1.0)

not_recorded : (L : List Body) (o : Obj) (p : NumberedDep) → is_until_due L o p ≡ true → is_until_recorded o p.number L ≡ false
not_recorded L o p = go (until_in p.dep)
  where
    go : (u : Option UntilTime)
        → option_map_or (λ (u : UntilTime). nat_le u.time (now L) && not (is_until_recorded o p.number L)) u false ≡ true
        → is_until_recorded o p.number L ≡ false
    go None h = cc
    go (Some u) h = not_holds _ (and_right (nat_le u.time (now L)) _ h)

not_late : (L : List Body) (o : Obj) (p : NumberedDep) → is_late_due L o p ≡ true → is_late o p.number L ≡ false
not_late L o p = go (deadline_in p.dep)
  where
    go : (u : Option ℕ)
        → option_map_or (λ t. nat_le t (now L) && not (is_late o p.number L)) u false ≡ true
        → is_late o p.number L ≡ false
    go None h = cc
    go (Some t) h = not_holds _ (and_right (nat_le t (now L)) _ h)

-- of one more entry in this list: what is left is at most this, and one less where something falls
record NotMore (caps : Caps) (ts : List ℕ) (n : ℕ) (given : ℕ → ℕ) (L M : List Body) : Type 0 where
  clock :
      sum_over (λ t. done (nat_lt (now M) t)) ts ≤ sum_over (λ t. done (nat_lt (now L) t)) ts
  streams : (s : ℕ) → stream_left caps M s ≤ stream_left caps L s
  jobs_ : (j : ℕ) → job_left caps M j ≤ job_left caps L j
  orders : orders_left n given M ≤ orders_left n given L

not_more : (caps : Caps) (ts : List ℕ) (n : ℕ) (given : ℕ → ℕ) (L : List Body) (b : Body) → ((j : ℕ) → job_left caps (L ++ b ∷ []) j ≤ job_left caps L j)
    → NotMore caps ts n given L (L ++ b ∷ [])
not_more caps ts n given L b jobs_ =
    record {
      clock = clock_low L b ts;
      streams = stream_low caps L b;
      jobs_ = jobs_;
      orders = orders_low n given L b;
    }

module _ (caps : Caps) (ts : List ℕ) (n : ℕ) (given : ℕ → ℕ) (L M : List Body) (h : NotMore caps ts n given L M) where
  sums : sum_over (stream_left caps M) (below caps.of_streams) ≤ sum_over (stream_left caps L) (below caps.of_streams)
  sums = sum_over_low (stream_left caps M) (stream_left caps L) (below caps.of_streams) h.streams

  sums_of_jobs : sum_over (job_left caps M) (below caps.of_jobs) ≤ sum_over (job_left caps L) (below caps.of_jobs)
  sums_of_jobs = sum_over_low (job_left caps M) (job_left caps L) (below caps.of_jobs) h.jobs_

  by_clock : sum_over (λ t. done (nat_lt (now M) t)) ts + 1 ≤ sum_over (λ t. done (nat_lt (now L) t)) ts
      → left_of caps n ts given M < left_of caps n ts given L
  unfolding left_of
  by_clock k = omega (arith, k, sums, sums_of_jobs, h.orders)

  by_stream : (s : ℕ) → s < caps.of_streams → stream_left caps M s + 1 ≤ stream_left caps L s
      → left_of caps n ts given M < left_of caps n ts given L
  unfolding left_of
  by_stream s low k =
      omega (
        arith,
        h.clock,
        sum_over_falls (stream_left caps M) (stream_left caps L) 1 caps.of_streams s h.streams low k,
        sums_of_jobs,
        h.orders,
      )

  by_job : (j : ℕ) → j < caps.of_jobs → job_left caps M j + 1 ≤ job_left caps L j
      → left_of caps n ts given M < left_of caps n ts given L
  unfolding left_of
  by_job j low k =
      omega (
        arith,
        h.clock,
        sums,
        sum_over_falls (job_left caps M) (job_left caps L) 1 caps.of_jobs j h.jobs_ low k,
        h.orders,
      )

  by_order : orders_left n given M + 3 ≤ orders_left n given L → left_of caps n ts given M < left_of caps n ts given L
  unfolding left_of
  by_order k = omega (arith, h.clock, sums, sums_of_jobs, k)

-- an order that is obeyed may be a rerun
by_obeyed : (caps : Caps) (ts : List ℕ) (n : ℕ) (given : ℕ → ℕ) (L : List Body) (a k : ℕ) (c : Cmd)
    → orders_left n given (L ++ Obeyed a k c ∷ []) + 3 ≤ orders_left n given L
    → left_of caps n ts given (L ++ Obeyed a k c ∷ []) < left_of caps n ts given L
unfolding left_of
by_obeyed caps ts n given L a k c falls =
    omega (
      arith,
      clock_low L (Obeyed a k c) ts,
      sum_over_low (stream_left caps (L ++ Obeyed a k c ∷ [])) (stream_left caps L) (below caps.of_streams)
          (stream_low caps L (Obeyed a k c)),
      sum_over_rises (job_left caps (L ++ Obeyed a k c ∷ [])) (job_left caps L) (rerun_target c) caps.of_jobs
          (job_rises caps L a k c),
      falls,
    )

-- what w sees of what it decides on has numbers below the caps, and the orders that it holds were given
pub record Fits (caps : Caps) (n : ℕ) (given : ℕ → ℕ) (V : View) (w : ℕ) : Type 0 where
  pub objects : (o : Obj) → owner V o ≡ Some w → is_below caps o
  pub numbers : (o : Obj) (i : ℕ) (d : Dep) → owner V o ≡ Some w → nth (deps V o) i ≡ Some d → i < caps.of_deps o
  pub orders :
      (a : ℕ) (c : Cmd) → next_order V w a ≡ Some c → (a < n) × (answered a (V (Events w)) < given a)

module _ (net : Net) (V : View) (w : ℕ) (live : List LiveJob) (t : ℕ) (ts : List ℕ) (among : has ts t ≡ true) (caps : Caps)
    (n : ℕ) (given : ℕ → ℕ) (h : Fits caps n given V w) where
  abbrev own : List Body
  own = V (Events w)

  abbrev Falls : Body → Type 0
  Falls b = left_of caps n ts given (own ++ b ∷ []) < left_of caps n ts given own

  still : (b : Body) → ((j : ℕ) → is_launch_of j b ≡ false) → obeyed_command b ≡ None
      → NotMore caps ts n given own (own ++ b ∷ [])
  still b no_launch no_command =
      not_more caps ts n given own b (λ j. job_low caps own b j (no_launch j) no_command)

  recorded : (o : Obj) (b : Body) → ((j : ℕ) → is_launch_of j b ≡ false) → obeyed_command b ≡ None
      → owner V o ≡ Some w
      → records_left (caps.of_deps o) (own ++ b ∷ []) o + 1 ≤ records_left (caps.of_deps o) own o → Falls b
  recorded (Stream s) b no_launch no_command mine falls =
      by_stream caps ts n given own (own ++ b ∷ []) (still b no_launch no_command) s (h.objects (Stream s) mine)
      (stream_record_falls caps own b s falls)
  recorded (Job j) b no_launch no_command mine falls =
      by_job caps ts n given own (own ++ b ∷ []) (still b no_launch no_command) j (h.objects (Job j) mine)
      (job_record_falls caps own b j (no_launch j) no_command falls)

  launched : (j m : ℕ) (seen : Seen) → is_ready net V w j ≡ true → Falls (Launched j m seen)
  launched j m seen ready =
      by_job caps ts n given own (own ++ Launched j m seen ∷ [])
      (not_more caps ts n given own (Launched j m seen) jobs_low) j
      (h.objects (Job j) (ready_owner net V w j ready)) this
    where
      this : job_left caps (own ++ Launched j m seen ∷ []) j + 1 ≤ job_left caps own j
      this = launch_falls caps own j m seen (run_is_due net V w j ready)

      jobs_low : (i : ℕ) → job_left caps (own ++ Launched j m seen ∷ []) i ≤ job_left caps own i
      jobs_low i =
          elim (eqb_tells i j) [
            | inl e ↦ subst (λ (i : ℕ). job_left caps (own ++ Launched j m seen ∷ []) i ≤ job_left caps own i) (sym e.1)
                (omega (arith, this))
            | inr e ↦ job_low caps own (Launched j m seen) i e.0 refl
          ]

  lowers_by : (b : Body) → ((j m : ℕ) → b ≡ Lost j m → owner V (Job j) ≡ Some w) → TurnGives net V w live t b → Falls b
  lowers_by b lost (TurnGives.lost j m e dead) =
      by_job caps ts n given own (own ++ Lost j m ∷ []) (not_more caps ts n given own (Lost j m) jobs_low) j
      (h.objects (Job j) (lost j m refl)) (lost_falls caps own j m e)
    where
      jobs_low : (i : ℕ) → job_left caps (own ++ Lost j m ∷ []) i ≤ job_left caps own i
      jobs_low i = job_low caps own (Lost j m) i refl refl
  lowers_by b lost (TurnGives.clocked due) =
      by_clock caps ts n given own (own ++ Clock t ∷ []) (still (Clock t) (λ j. refl) refl)
      (clock_falls own t ts among (due_above (now own) t (own_times V w) due))
  lowers_by b lost (TurnGives.declined a c why e) =
      let o : (a < n) × (answered a own < given a) = h.orders a c e in
      by_order caps ts n given own (own ++ Declined a (1 + answered a own) why ∷ [])
      (still (Declined a (1 + answered a own) why) (λ j. refl) refl)
      (orders_fall n given own (Declined a (1 + answered a own) why) a o.0 o.1 (eq-eqb a a refl))
  lowers_by b lost (TurnGives.added a draft e v) =
      let o : (a < n) × (answered a own < given a) = h.orders a (Submit draft) e in
      by_order caps ts n given own (own ++ Added a (1 + answered a own) (numbered V draft) ∷ [])
      (still (Added a (1 + answered a own) (numbered V draft)) (λ j. refl) refl)
      (orders_fall n given own (Added a (1 + answered a own) (numbered V draft)) a o.0 o.1 (eq-eqb a a refl))
  lowers_by b lost (TurnGives.obeyed a c e) =
      let o : (a < n) × (answered a own < given a) = h.orders a c e in
      by_obeyed caps ts n given own a (1 + answered a own) c
      (orders_fall n given own (Obeyed a (1 + answered a own) c) a o.0 o.1 (eq-eqb a a refl))
  lowers_by b lost (TurnGives.until o p u mine first is) =
      let due : IsDueUntil V w o p = there_if (IsDueUntil V w o) _ p
      (slice_get_all (IsDueUntil V w o) (due_untils V w o) 0 (due_untils_are V w o)) first in
      recorded o (UntilPassed o p.number u.mark) (λ j. refl) refl mine
      (until_falls (caps.of_deps o) own (UntilPassed o p.number u.mark) o p.number (h.numbers o p.number p.dep mine due.stands)
      (not_recorded own o p due.due)
      (and_made (obj_eq o o) (eqb p.number p.number) (obj_told o o refl) (eq-eqb p.number p.number refl)))
  lowers_by b lost (TurnGives.late o p mine first) =
      let due : IsDueLate V w o p = there_if (IsDueLate V w o) _ p
      (slice_get_all (IsDueLate V w o) (due_lates V w o) 0 (due_lates_are V w o)) first in
      recorded o (Late o p.number) (λ j. refl) refl mine
      (late_falls (caps.of_deps o) own (Late o p.number) o p.number (h.numbers o p.number p.dep mine due.stands)
      (not_late own o p due.due)
      (and_made (obj_eq o o) (eqb p.number p.number) (obj_told o o refl) (eq-eqb p.number p.number refl)))
  lowers_by b lost (TurnGives.released s may) =
      by_stream caps ts n given own (own ++ Released s (seen_for V (witnesses V w (Stream s))) ∷ [])
      (still (Released s (seen_for V (witnesses V w (Stream s)))) (λ j. refl) refl) s
      (h.objects (Stream s) (release_owner net V w s may))
      (release_falls caps own (Released s (seen_for V (witnesses V w (Stream s)))) s (not_released net V w s may) (eq-eqb s s refl))
  lowers_by b lost (TurnGives.ended s may) =
      by_stream caps ts n given own (own ++ StreamEnded s (seen_for V (end_witnesses V w s)) ∷ [])
      (still (StreamEnded s (seen_for V (end_witnesses V w s))) (λ j. refl) refl) s
      (h.objects (Stream s) (not_ended V w s may).1)
      (end_falls caps own (StreamEnded s (seen_for V (end_witnesses V w s))) s (not_ended V w s may).0 (eq-eqb s s refl))
  lowers_by b lost (TurnGives.launched j ready) = launched j (1 + launches j own) (seen_for V (witnesses V w (Job j))) ready

-- a loss is of a job of w's own
module _ (net : Net) (V : View) (w : ℕ) (live : List LiveJob) (t : ℕ) where
  abbrev OwnLoss : Choice → Type 0
  OwnLoss c = (j m : ℕ) → body_of net V w t c ≡ Some (Lost j m) → owner V (Job j) ≡ Some w

  not_loss : (a : ℕ) (c : Cmd) (j m : ℕ) → answer net V w a c ≡ Lost j m → ⊥
  unfolding answer
  not_loss a c j m = go c (verdict net V w c)
    where
      go : (c : Cmd) (v : Option Why)
          → option_map_or (Declined a (1 + answered a (V (Events w)))) v (obeyed_as V a (1 + answered a (V (Events w))) c)
          ≡ Lost j m → ⊥
      go c (Some why) e = cc
      go (Submit draft) None e = cc
      go _ None e = cc

  chosen_loss : (c : Choice) → ((k : ℕ) → c ≡ Choice.Lost k → owner V (Job k) ≡ Some w) → OwnLoss c
  unfolding body_of
  chosen_loss Choice.Clock h j m e = cc
  chosen_loss (Choice.Lost k) h j m e = go (open_launch k (V (Events w))) e
    where
      go : (o : Option ℕ) → option_map (Lost k) o ≡ Some (Lost j m) → owner V (Job j) ≡ Some w
      go None e = cc
      go (Some i) e = subst (λ (i : ℕ). owner V (Job i) ≡ Some w) (same e) (h k refl)
        where
          same : Some (Lost k i) ≡ Some (Lost j m) → k ≡ j
          same e = cc
  chosen_loss (Choice.Answer a) h j m e = go (next_order V w a) e
    where
      inside : (b c : Body) → Some b ≡ Some c → b ≡ c
      inside b c e = cc

      go : (o : Option Cmd) → option_map (answer net V w a) o ≡ Some (Lost j m) → owner V (Job j) ≡ Some w
      go None e = cc
      go (Some c) e = absurd (not_loss a c j m (inside (answer net V w a c) (Lost j m) e))
  chosen_loss (Choice.Until o i) h j m e = go (option_and_then until_in (nth (deps V o) i)) e
    where
      go : (u : Option UntilTime) → option_map (λ (u : UntilTime). UntilPassed o i u.mark) u ≡ Some (Lost j m)
          → owner V (Job j) ≡ Some w
      go None e = cc
      go (Some u) e = cc
  chosen_loss (Choice.Late o i) h j m e = cc
  chosen_loss (Choice.Release s) h j m e = cc
  chosen_loss (Choice.End s) h j m e = cc
  chosen_loss (Choice.Launch k) h j m e = cc
  chosen_loss Choice.Nothing h j m e = cc

  abbrev OfOwn : Choice → Type 0
  OfOwn c = (k : ℕ) → c ≡ Choice.Lost k → owner V (Job k) ≡ Some w

  lost_own : IfSome (option_map Choice.Lost (least (lost_jobs V w live))) OfOwn
  unfolding lost_jobs
  lost_own =
      if_map OfOwn Choice.Lost (least (lost_jobs V w live))
      (λ i e k f. subst (λ (k : ℕ). owner V (Job k) ≡ Some w) (same i k f)
      (there_if (λ i. owner V (Job i) ≡ Some w) _ i
      (least_all (λ i. owner V (Job i) ≡ Some w) (lost_jobs V w live)
      (all_filter (λ i. owner V (Job i) ≡ Some w) _ (map (λ (p : StreamJob). p.doc.no) (jobs_of V w))
      (all_map (λ i. owner V (Job i) ≡ Some w) (λ (p : StreamJob). p.doc.no) (jobs_of V w) (jobs_owned V w)))) e))
    where
      same : (i k : ℕ) → Choice.Lost i ≡ Choice.Lost k → i ≡ k
      same i k f = cc

  unwrapped : (o : Option Choice) → IfSome o OfOwn → OfOwn (unwrap_or o Choice.Nothing)
  unwrapped None h = λ k e. cc
  unwrapped (Some c) h = h

  turn_own : OfOwn (turn_choice net V w live t)
  unfolding turn_choice
  turn_own =
      unwrapped _
      (if_or OfOwn (then_some (is_clock_due V w t) Choice.Clock) _
      (if_some OfOwn (is_clock_due V w t) Choice.Clock (λ e k f. cc))
      (if_or OfOwn (option_map Choice.Lost (least (lost_jobs V w live))) _ lost_own
      (if_or OfOwn (option_map Choice.Answer (next_issuer net V w)) _
      (if_map OfOwn Choice.Answer (next_issuer net V w) (λ a e k f. cc))
      (if_or OfOwn (option_map (λ (u : Obj × ℕ). Choice.Until u.0 u.1) (until_due V w)) _
      (if_map OfOwn (λ (u : Obj × ℕ). Choice.Until u.0 u.1) (until_due V w) (λ a e k f. cc))
      (if_or OfOwn (option_map (λ (l : Obj × ℕ). Choice.Late l.0 l.1) (late_due V w)) _
      (if_map OfOwn (λ (l : Obj × ℕ). Choice.Late l.0 l.1) (late_due V w) (λ a e k f. cc))
      (if_or OfOwn (option_map Choice.Release (least (filter (may_release net V w) (own_numbers V w)))) _
      (if_map OfOwn Choice.Release (least (filter (may_release net V w) (own_numbers V w))) (λ a e k f. cc))
      (if_or OfOwn (option_map Choice.End (least (filter (may_end V w) (own_numbers V w)))) (option_map Choice.Launch (best net V w))
      (if_map OfOwn Choice.End (least (filter (may_end V w) (own_numbers V w))) (λ a e k f. cc))
      (if_map OfOwn Choice.Launch (best net V w) (λ a e k f. cc)))))))))

  -- what a turn keeps lowers what is left
  pub turn_lowers : (ts : List ℕ) → has ts t ≡ true → (caps : Caps) (n : ℕ) (given : ℕ → ℕ) → Fits caps n given V w → (b : Body)
      → turn_body net V w live t ≡ Some b
      → left_of caps n ts given (V (Events w) ++ b ∷ []) < left_of caps n ts given (V (Events w))
  unfolding turn_body
  turn_lowers ts among caps n given h b e =
      lowers_by net V w live t ts among caps n given h b
      (λ j m is. chosen_loss (turn_choice net V w live t) turn_own j m (e ∙ ap Some is))
      (there_if (TurnGives net V w live t) (turn_body net V w live t) b (turn_gives net V w live t) e)
