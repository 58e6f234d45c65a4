-- So many orders are advised at most, and so many entries made.
use Rattle.std.proofs.Common.{◌≡◌, ℕ, ◌+◌, ◌*◌, ◌<◌, ◌≤◌, true, false, ◌⊎◌, inl, inr, List, [], ◌∷◌, refl, sym, subst, arith}
use Rattle.std.proofs.Common.{cond, Some}
use Rattle.std.proofs.lemmas.List.Sums.{sum_by-cons}
use Rattle.std.specs.List.{AllByRecursion}
use Rattle.std.specs.Prelude.{Ok, count_by}
use Rattle.lemmas.proofs.Booleans.{or_cases}
use Rattle.model.specs.Types.{Cmd, Confirm, Events, Net, Order, Orders, Rerun, Take, Typed, Unlinked, WorldStep}
use Rattle.model.specs.Network.{node_count}
use Rattle.model.specs.Facts.{reruns}
use Rattle.model.specs.FreeSteps.{free_step}
use Rattle.model.specs.History.{View}
use Rattle.model.specs.Invariant.{Invariant}
use Rattle.model.specs.NewEntry.{next_entry}
use Rattle.model.specs.World.{World, view_at}
use Rattle.model_laws.proofs.FreeRuns.{free_kept}
use Rattle.recovery_watch.specs.Advice.{advice}
use Rattle.rest_laws.specs.Gains.{gained}
use Rattle.rest_laws.specs.Left.{Caps, Covers, caps_of, drafted, drafted_deps, entries, jobs_ahead, left}
use Rattle.rest_laws.specs.Rounds.{AreTaken}
use Rattle.rest_laws.proofs.Bounds.{covered, most_is, times_low}
use Rattle.rest_laws.proofs.Gains.{at_most, kept_run}
use Rattle.rest_laws.proofs.Lefts.{covers_same, left_same}
use Rattle.launches_at_rest.specs.Tells.{tells_left, work_bound}
use Rattle.launches_at_rest.specs.Told.{works_at}
use Rattle.launches_at_rest.proofs.Keeping.{WorkKeeps, step_works, tells_same}
use Rattle.advice_at_rest.specs.Advices.{advices_left}
use Rattle.advice_at_rest.specs.Advised.{AllGoOn, IsAdvised, MayGoOn, advised_bound, advised_entries, goes_on}
use Rattle.advice_at_rest.specs.Advised.{is_typing, is_unlinking, most_advices, wider}
use Rattle.advice_at_rest.proofs.Advice.{Advises, advises}
use Rattle.advice_at_rest.proofs.Typed.{GivesOrder, deps_more, entries_more, jobs_more, left_more, order_low, streams_more, tells_more, typed_keeps}
use Rattle.advice_at_rest.proofs.Worlds.{step_low, unlinked_same}

-- an advised order brings no document
no_drafts : (V : View) (w : ℕ) (c : Cmd) → Advises V w c
    → (drafted (Order c) ≡ 0) × (drafted_deps (Order c) ≡ 0)
no_drafts V w c adv = go adv.form
  where
    go : (c ≡ Confirm adv.job_) ⊎ ((c ≡ Rerun adv.job_) × (reruns adv.job_ (V (Events w)) ≡ 0))
        → (drafted (Order c) ≡ 0) × (drafted_deps (Order c) ≡ 0)
    go (inl is) = subst (λ (d : Cmd). (drafted (Order d) ≡ 0) × (drafted_deps (Order d) ≡ 0)) (sym is) (refl, refl)
    go (inr is) = subst (λ (d : Cmd). (drafted (Order d) ≡ 0) × (drafted_deps (Order d) ≡ 0)) (sym is.0) (refl, refl)

-- wider caps cover what narrower ones do
covers_wider : (net : Net) (caps : ℕ → Caps) (m d : ℕ) (x : World) → m ≤ d → Covers net (wider m caps) x
    → Covers net (wider d caps) x
covers_wider net caps m d x low h = record {
  streams = λ w. omega (arith, low, h.streams w);
  jobs_ = h.jobs_;
  deps_ = λ w o. omega (arith, low, h.deps_ w o);
}

same_entries : (net : Net) (x z : World) → z.history ≡ x.history → entries net z ≤ entries net x
unfolding entries
same_entries net x z e = rw e (omega arith)

module _ (net : Net) (caps : ℕ → Caps) (readings : ℕ → List ℕ) where
  -- of a step that is no order
  plain_keeps : (x z : World) (s : WorldStep) → Invariant net x → Covers net caps x → goes_on readings s ≡ true
      → free_step net x s ≡ Ok z → WorkKeeps net caps readings x z
  plain_keeps x z s inv covers h e =
      elim (or_cases (works_at readings s) (is_unlinking s) h) [
        | inl k ↦ step_works net caps readings x z inv covers s k e
        | inr k ↦ down s k e
      ]
    where
      down : (s : WorldStep) → is_unlinking s ≡ true → free_step net x s ≡ Ok z → WorkKeeps net caps readings x z
      down (Take w (Unlinked v)) k f =
          let same : z.history ≡ x.history = unlinked_same net x z w v f in
          record {
            bound =
                omega (
                  arith,
                  same_entries net x z same,
                  left_same net caps readings x z same,
                  tells_same net caps readings x z same,
                );
            covers = covers_same net caps x z same covers;
          }
      down _ k f = cc

-- a step that types is an advised one
not_plain : (readings : ℕ → List ℕ) (s : WorldStep) → goes_on readings s ≡ true → is_typing s ≡ false
not_plain readings (Take w (Typed to c)) h = cc
not_plain readings _ h = refl

-- from the world in which they are counted, with so much room
module _ (net : Net) (base : ℕ → Caps) (jobs most : ℕ) (readings : ℕ → List ℕ)
    (same_jobs : (w : ℕ) → (base w).of_jobs ≡ jobs) where
  abbrev whole : World → ℕ
  whole x =
      entries net x
      + (left net (wider most base) readings x + (tells_left net (wider most base) x + 5 * advices_left net jobs x))

  -- so much of the room is spent
  record Spent (x : World) : Type 0 where
    room : ℕ
    enough : room + advices_left net jobs x ≤ most
    covers : Covers net (wider room base) x

  record Goes (x z : World) (c : ℕ) : Type 0 where
    spent : Spent z
    bound : whole z ≤ whole x
    count : c + advices_left net jobs z ≤ advices_left net jobs x

  module _ (x z : World) (inv : Invariant net x) (sp : Spent x) where
    covers_all : Covers net (wider most base) x
    covers_all = covers_wider net base sp.room most x (omega (arith, sp.enough)) sp.covers

    plain_goes : (s : WorldStep) → goes_on readings s ≡ true → free_step net x s ≡ Ok z → Goes x z 0
    plain_goes s h e =
        let here : WorkKeeps net (wider sp.room base) readings x z =
        plain_keeps net (wider sp.room base) readings x z s inv sp.covers h e in
        let all : WorkKeeps net (wider most base) readings x z =
        plain_keeps net (wider most base) readings x z s inv covers_all h e in
        let low : advices_left net jobs z ≤ advices_left net jobs x = step_low net jobs readings x z inv s h e in
        record {
          spent = record { room = sp.room; enough = omega (arith, low, sp.enough); covers = here.covers };
          bound = omega (arith, low, all.bound);
          count = omega (arith, low);
        }

    advised_goes : (w : ℕ) (c : Cmd) → advice (view_at x w) w ≡ Some c → free_step net x (Take w (Typed w c)) ≡ Ok z → Goes x z 1
    advised_goes w c adv e =
        let k : GivesOrder net x z w c = typed_keeps net x z w c e in
        let a : Advises (view_at x w) w c = advises (view_at x w) w c adv in
        let none = no_drafts (view_at x w) w c a in
        let few : jobs_ahead net x < jobs = omega (arith, sp.covers.jobs_ w, same_jobs w) in
        let low : advices_left net jobs z + 1 ≤ advices_left net jobs x = order_low net jobs x z w c inv few a k in
        let streams = streams_more net x z w (next_entry (view_at x w) (Orders w w) (Order c)) refl k.history in
        let docs = jobs_more net x z w (next_entry (view_at x w) (Orders w w) (Order c)) refl k.history none.0 in
        record {
          spent = record {
            room = 1 + sp.room;
            enough = omega (arith, low, sp.enough);
            covers = record {
              streams = λ v. omega (arith, streams, sp.covers.streams v);
              jobs_ = λ v. omega (arith, docs, sp.covers.jobs_ v);
              deps_ = λ v o.
                  omega (
                    arith,
                    deps_more net x z w (next_entry (view_at x w) (Orders w w) (Order c)) refl k.history none.1 v o,
                    sp.covers.deps_ v o,
                  );
            };
          };
          bound =
              omega (
                arith,
                low,
                entries_more net x z w (next_entry (view_at x w) (Orders w w) (Order c)) refl k.history,
                left_more net x z w (next_entry (view_at x w) (Orders w w) (Order c)) refl k.history (wider most base) readings,
                tells_more net x z w (next_entry (view_at x w) (Orders w w) (Order c)) refl k.history (wider most base),
              );
          count = omega (arith, low);
        }

    by_advice : (s : WorldStep) → IsAdvised x s → free_step net x s ≡ Ok z → Goes x z (cond (is_typing s) 1 0)
    by_advice (Take w (Typed to c)) h e =
        advised_goes w c h.1 (subst (λ (v : ℕ). free_step net x (Take w (Typed v c)) ≡ Ok z) h.0 e)
    by_advice _ h e = absurd h

    one_goes : (s : WorldStep) → MayGoOn readings x s → free_step net x s ≡ Ok z → Goes x z (cond (is_typing s) 1 0)
    one_goes s (inl h) e = rw (not_plain readings s h) (plain_goes s h e)
    one_goes s (inr h) e = by_advice s h e

  all_go : (steps : List WorldStep) (x z : World) → Invariant net x → Spent x → (taken : AreTaken net x steps z)
      → AllGoOn net readings steps x z taken → Goes x z (count_by is_typing steps)
  all_go [] x z inv sp taken each =
      subst (λ (y : World). Goes x y 0) taken (record { spent = sp; bound = omega arith; count = omega arith })
  all_go (s ∷ steps) x z inv sp taken each =
      let one : Goes x taken.0 (cond (is_typing s) 1 0) = one_goes x taken.0 inv sp s each.0 taken.1 in
      let rest : Goes taken.0 z (count_by is_typing steps) =
      all_go steps taken.0 z (free_kept net x taken.0 s inv taken.1) one.spent taken.2 each.1 in
      record {
        spent = rest.spent;
        bound = omega (arith, one.bound, rest.bound);
        count = omega (arith, one.count, rest.count, sum_by-cons (λ (t : WorldStep). cond (is_typing t) 1 0) s steps);
      }

base_jobs : (net : Net) (x : World) (w : ℕ) → (caps_of net x w).of_jobs ≡ 1 + jobs_ahead net x
unfolding caps_of
base_jobs net x w = refl

module _ (net : Net) (readings : ℕ → List ℕ) (steps : List WorldStep) (x z : World) (inv : Invariant net x)
    (taken : AreTaken net x steps z) (each : AllGoOn net readings steps x z taken) where
  abbrev its_jobs : ℕ
  its_jobs = 1 + jobs_ahead net x

  gone : Goes net (caps_of net x) its_jobs (most_advices net x) readings (base_jobs net x) x z (count_by is_typing steps)
  gone =
      all_go net (caps_of net x) its_jobs (most_advices net x) readings (base_jobs net x) steps x z inv
      (record {
        room = 0;
        enough = omega arith;
        covers = let c : Covers net (caps_of net x) x = covered net x in
            record { streams = λ w. omega (arith, c.streams w); jobs_ = c.jobs_; deps_ = λ w o. omega (arith, c.deps_ w o) };
      }) taken each

  pub few_advices : count_by is_typing steps ≤ most_advices net x
  few_advices = omega (arith, gone.count)

  pub few_entries : entries net z ≤ advised_entries net readings x
  unfolding advised_entries
  few_entries = omega (arith, gone.bound)

  pub few_gained : gained net z ≤ advised_bound net readings x
  unfolding advised_bound
  few_gained =
      omega (
        arith,
        at_most net z (kept_run net steps x z inv taken),
        most_is net z,
        times_low (node_count net + node_count net * node_count net) (entries net z) (advised_entries net readings x) few_entries,
      )

pub advised_less : (net : Net) (jobs : ℕ) (x z : World) (s : WorldStep) → Invariant net x → jobs_ahead net x < jobs
    → IsAdvised x s → free_step net x s ≡ Ok z → advices_left net jobs z < advices_left net jobs x
advised_less net jobs x z (Take w (Typed to c)) inv few h e =
    omega (
      arith,
      order_low net jobs x z w c inv few (advises (view_at x w) w c h.1)
          (typed_keeps net x z w c (subst (λ (v : ℕ). free_step net x (Take w (Typed v c)) ≡ Ok z) h.0 e)),
    )
advised_less net jobs x z _ inv few h e = absurd h

-- where nothing is advised
plain_all : (net : Net) (caps : ℕ → Caps) (readings : ℕ → List ℕ) (steps : List WorldStep) (x z : World) → Invariant net x
    → Covers net caps x → AllByRecursion (λ s. goes_on readings s ≡ true) steps → AreTaken net x steps z
    → WorkKeeps net caps readings x z
plain_all net caps readings [] x z inv covers each taken =
    subst (WorkKeeps net caps readings x) taken (record { bound = omega arith; covers = covers })
plain_all net caps readings (s ∷ steps) x z inv covers each taken =
    let one : WorkKeeps net caps readings x taken.0 = plain_keeps net caps readings x taken.0 s inv covers each.0 taken.1 in
    let rest : WorkKeeps net caps readings taken.0 z =
    plain_all net caps readings steps taken.0 z (free_kept net x taken.0 s inv taken.1) one.covers each.1 taken.2 in
    record { bound = omega (arith, one.bound, rest.bound); covers = rest.covers }

pub plain_few : (net : Net) (readings : ℕ → List ℕ) (steps : List WorldStep) (x z : World) → Invariant net x
    → AllByRecursion (λ s. goes_on readings s ≡ true) steps → AreTaken net x steps z → gained net z ≤ work_bound net readings x
unfolding work_bound
plain_few net readings steps x z inv each taken =
    let keep : WorkKeeps net (caps_of net x) readings x z =
    plain_all net (caps_of net x) readings steps x z inv (covered net x) each taken in
    omega (
      arith,
      at_most net z (kept_run net steps x z inv taken),
      most_is net z,
      times_low (node_count net + node_count net * node_count net) (entries net z)
          (entries net x + (left net (caps_of net x) readings x + tells_left net (caps_of net x) x)) (omega (arith, keep.bound)),
    )
