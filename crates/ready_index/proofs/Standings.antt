-- An index, one job and one entry further.
use Rattle.std.proofs.Common.{[], ℕ, ◌∙◌, ◌∷◌, ◌≡◌, ◌≢◌, ◌⊎◌, Bool, List, None, Option, Some, ap, false, inl}
use Rattle.std.proofs.Common.{◌+◌, ◌<◌, add-one, cond, drop, drop-cons, get_or, inr, length, map, refl, subst, sym, true}
use Rattle.std.proofs.lemmas.Bool.{eq-eqb, eqb-true}
use Rattle.std.proofs.lemmas.Bool.Decides.{eqb_tells}
use Rattle.std.specs.Option.{option_map_or}
use Rattle.std.specs.Prelude.{◌==◌, filter, slice_get}
use Rattle.model.specs.Types.{Events, Job}
use Rattle.model.specs.History.{View, list_of, view_of}
use Rattle.model.specs.Words.{insert_once}
use Rattle.model.specs.Catalogue.{StreamJob, catalogue, job, jobs, jobs_of, told_by_owner}
use Rattle.model.specs.Facts.{is_due, is_released}
use Rattle.dependencies.specs.Planned.{IsPlannedJob}
use Rattle.ready_index.specs.declared.changes.Change.{Change}
use Rattle.ready_index.specs.declared.changes.Change.TheVariants.{At, Everything, Launch, Nothing}
use Rattle.ready_index.specs.declared.jobs.JobIndex.{JobIndex}
use Rattle.ready_index.specs.declared.targets.Target.{Target}
use Rattle.ready_index.specs.declared.targets.Target.TheVariants.{EndOfJob, EndOfStream, ReleaseOf}
use Rattle.ready_index.specs.declared.watches.Watches.{Watches}
use Rattle.ready_index.specs.Awaited.{IsAwaited, first_awaited, held_back_by, is_in_play}
use Rattle.ready_index.specs.Changes.{KeepsOthers}
use Rattle.ready_index.specs.Lists.{Among, without}
use Rattle.ready_index.specs.Places.{IsPlaceHere, IsPlaceOf, number_at}
use Rattle.ready_index.specs.Standing.{IsJobIndexBut, IsJobIndexOf, IsKnown, IsLookedAt, IsWatching}
use Rattle.ready_index.specs.Watched.{AddsOne, TakesAll, waiting_for}
use Rattle.ready_index.proofs.Bests.{place_number}
use Rattle.ready_index.proofs.Elements.{at_end, before_end, filter_has, filter_keeps, first_among, found_among, map_among}
use Rattle.ready_index.proofs.Elements.{put_has, put_here, put_keeps, without_has, without_keeps}
use Rattle.ready_index.proofs.Firsts.{planned_here}

-- two things to watch are one, or not
pub target_cases : (t u : Target) → (t ≡ u) ⊎ (t ≢ u)
target_cases (ReleaseOf a) (ReleaseOf b) =
    elim (eqb_tells a b) [ inl e ↦ inl (ap ReleaseOf e.1) | inr e ↦ inr (λ h. e.1 (number h)) ]
  where
    number : {a b : ℕ} → ReleaseOf a ≡ ReleaseOf b → a ≡ b
    number h = cc
target_cases (EndOfJob a) (EndOfJob b) =
    elim (eqb_tells a b) [ inl e ↦ inl (ap EndOfJob e.1) | inr e ↦ inr (λ h. e.1 (number h)) ]
  where
    number : {a b : ℕ} → EndOfJob a ≡ EndOfJob b → a ≡ b
    number h = cc
target_cases (EndOfStream a) (EndOfStream b) =
    elim (eqb_tells a b) [ inl e ↦ inl (ap EndOfStream e.1) | inr e ↦ inr (λ h. e.1 (number h)) ]
  where
    number : {a b : ℕ} → EndOfStream a ≡ EndOfStream b → a ≡ b
    number h = cc
target_cases (ReleaseOf a) (EndOfJob b) = inr (λ h. cc)
target_cases (ReleaseOf a) (EndOfStream b) = inr (λ h. cc)
target_cases (EndOfJob a) (ReleaseOf b) = inr (λ h. cc)
target_cases (EndOfJob a) (EndOfStream b) = inr (λ h. cc)
target_cases (EndOfStream a) (ReleaseOf b) = inr (λ h. cc)
target_cases (EndOfStream a) (EndOfJob b) = inr (λ h. cc)

-- a job that is found by its number and is w's is a job of w
pub here_by_number : (V : View) (w : ℕ) (p : StreamJob) → IsPlannedJob V p → p.doc.ws ≡ w → Among p (jobs_of V w)
unfolding job jobs_of
here_by_number V w p planned owned =
    filter_keeps (λ (q : StreamJob). q.doc.ws == w) (jobs V) p
    (found_among (λ (q : StreamJob). q.doc.no == p.doc.no) (jobs V) p planned.found) (eq-eqb p.doc.ws w owned)

-- the only job of w with its number
pub one_by_number : (V : View) (w : ℕ) (p q : StreamJob) → IsPlannedJob V p → Among q (jobs_of V w)
    → q.doc.no ≡ p.doc.no → q ≡ p
one_by_number V w p q planned here same =
    let a : job V q.doc.no ≡ Some q = (planned_here V w q here).found in
    let b : job V p.doc.no ≡ Some p = planned.found in
    let c : job V q.doc.no ≡ job V p.doc.no = ap (job V) same in cc

-- what is known stays known where nobody gets lost
known_then : (V : View) (p : StreamJob) (old new : JobIndex)
    → ((place : ℕ) → Among place old.candidates → Among place new.candidates)
    → ((t : Target) (j : ℕ) → Among j (waiting_for old.watches t) → Among j (waiting_for new.watches t))
    → IsKnown V old p → IsKnown V new p
known_then V p old new candidates watches (inl k) =
    inl (record { place = k.place; here = candidates k.place k.here; placed = k.placed })
known_then V p old new candidates watches (inr k) =
    inr (record { target = k.target; watches = watches k.target p.doc.no k.watches; waits = k.waits })

-- one job less is left to be looked at
pub one_less : (V : View) (w number : ℕ) (numbers : List ℕ) (old new : JobIndex) → IsLookedAt V w number old new
    → IsJobIndexBut V w (number ∷ numbers) old → IsJobIndexBut V w numbers new
one_less V w number numbers old new look index = record {
  known = λ p here play. go p here play (index.known p here play);
  real = λ place h. elim (look.real place h) [ inl k ↦ index.real place k | inr k ↦ k ];
}
  where
    go : (p : StreamJob) → Among p (jobs_of V w) → is_in_play V w p ≡ true
        → IsKnown V old p ⊎ Among p.doc.no (number ∷ numbers) → IsKnown V new p ⊎ Among p.doc.no numbers
    go p here play (inl k) = inl (known_then V p old new look.candidates look.watches k)
    go p here play (inr (inl e)) = inl (look.known p here e play)
    go p here play (inr (inr k)) = inr k

-- nothing is done where the job is no job of w in play
pub nothing_looked_at : (V : View) (w number : ℕ) (index : JobIndex)
    → ((p : StreamJob) → Among p (jobs_of V w) → p.doc.no ≡ number → is_in_play V w p ≡ true → ⊥)
    → IsLookedAt V w number index index
nothing_looked_at V w number index none = record {
  candidates = λ place h. h;
  watches = λ t j h. h;
  real = λ place h. inl h;
  known = λ p here e play. absurd (none p here e play);
}

-- a job becomes a candidate
pub candidate_added : (V : View) (w place : ℕ) (p : StreamJob) (old : JobIndex) (places : List ℕ) → IsPlannedJob V p
    → p.doc.ws ≡ w → IsPlaceOf V p place → places ≡ insert_once place old.candidates
    → IsLookedAt V w p.doc.no old (record { candidates = places; watches = old.watches })
candidate_added V w place p old places planned owned placed grown = record {
  candidates = λ k h. rw grown (put_keeps place k old.candidates h);
  watches = λ t j h. h;
  real = λ k h.
      elim (put_has place k old.candidates (subst (λ (l : List ℕ). Among k l) grown h)) [
        | inl e ↦ inr (record {
          job = p;
          here = here_by_number V w p planned owned;
          placed = subst (λ (i : ℕ). IsPlaceOf V p i) (sym e) placed;
        })
        | inr h ↦ inl h
      ];
  known = λ q here e play.
      inl (record {
        place = place;
        here = rw grown (put_here place old.candidates);
        placed = subst (λ (r : StreamJob). IsPlaceOf V r place) (sym (one_by_number V w p q planned here e)) placed;
      });
}

-- who watches something does so still where one more does
pub still_watched : (t : Target) (number : ℕ) (old new : Watches) → AddsOne old new t number → (u : Target) (j : ℕ)
    → Among j (waiting_for old u) → Among j (waiting_for new u)
still_watched t number old new added u j h = go (target_cases u t)
  where
    go : (u ≡ t) ⊎ (u ≢ t) → Among j (waiting_for new u)
    go (inl e) =
        subst (λ (v : Target). Among j (waiting_for new v)) (sym e)
        (rw added.here
        (before_end (waiting_for old t) number j
        (subst (λ (v : Target). Among j (waiting_for old v)) e h)))
    go (inr e) = rw (added.others u e) h

-- a job watches something
pub watch_added : (V : View) (w : ℕ) (p : StreamJob) (t : Target) (old : JobIndex) (watches : Watches)
    → IsPlannedJob V p → IsAwaited V p t → AddsOne old.watches watches t p.doc.no
    → IsLookedAt V w p.doc.no old (record { candidates = old.candidates; watches = watches })
watch_added V w p t old watches planned waits added = record {
  candidates = λ k h. h;
  watches = still_watched t p.doc.no old.watches watches added;
  real = λ k h. inl h;
  known = λ q here e play.
      inr (record {
        target = t;
        watches = rw (added.here, e) (at_end (waiting_for old.watches t) p.doc.no);
        waits = subst (λ (r : StreamJob). IsAwaited V r t) (sym (one_by_number V w p q planned here e)) waits;
      });
}

-- who watches something is left to be looked at
pub watchers_taken : (V : View) (w : ℕ) (t : Target) (numbers : List ℕ) (old : JobIndex) (watches : Watches)
    → TakesAll old.watches watches t numbers → IsJobIndexBut V w (waiting_for old.watches t) old
    → IsJobIndexBut V w numbers (record { candidates = old.candidates; watches = watches })
watchers_taken V w t numbers old watches taken index = record {
  known = λ p here play. go p (index.known p here play);
  real = index.real;
}
  where
    pending : (p : StreamJob) → Among p.doc.no (waiting_for old.watches t) → Among p.doc.no numbers
    pending p h = rw taken.taken h

    watching : (p : StreamJob) (k : IsWatching V old p) → (k.target ≡ t) ⊎ (k.target ≢ t)
        → IsKnown V (record { candidates = old.candidates; watches = watches }) p ⊎ Among p.doc.no numbers
    watching p k (inl e) =
        inr (pending p (subst (λ (u : Target). Among p.doc.no (waiting_for old.watches u)) e k.watches))
    watching p k (inr e) =
        inl (inr (record { target = k.target; watches = rw (taken.others k.target e) k.watches; waits = k.waits }))

    go : (p : StreamJob) → IsKnown V old p ⊎ Among p.doc.no (waiting_for old.watches t)
        → IsKnown V (record { candidates = old.candidates; watches = watches }) p ⊎ Among p.doc.no numbers
    go p (inl (inl k)) = inl (inl (record { place = k.place; here = k.here; placed = k.placed }))
    go p (inl (inr k)) = watching p k (target_cases k.target t)
    go p (inr h) = inr (pending p h)

-- a job that is not due goes
pub candidate_dropped : (V : View) (w place : ℕ) (p : StreamJob) (old : JobIndex) (places : List ℕ)
    → is_in_play V w p ≡ false → IsPlannedJob V p → IsPlaceOf V p place → places ≡ without place old.candidates
    → IsJobIndexOf V w old → IsJobIndexOf V w (record { candidates = places; watches = old.watches })
candidate_dropped V w place p old places idle planned placed less index = record {
  known = λ q here play. go q here play (index.known q here play);
  real = λ k h. index.real k (without_has place k old.candidates (subst (λ (l : List ℕ). Among k l) less h));
}
  where
    apart : (q : StreamJob) (k : ℕ) → Among q (jobs_of V w) → is_in_play V w q ≡ true → IsPlaceOf V q k → k ≡ place → ⊥
    apart q k here play at e =
        let n : q.doc.no ≡ p.doc.no =
        sym (place_number V q k at) ∙ ap (λ (i : ℕ). number_at i) e ∙ place_number V p place placed in
        let s : q ≡ p = one_by_number V w p q planned here n in
        let t : is_in_play V w p ≡ true = subst (λ (r : StreamJob). is_in_play V w r ≡ true) s play in cc

    go : (q : StreamJob) → Among q (jobs_of V w) → is_in_play V w q ≡ true → IsKnown V old q ⊎ Among q.doc.no []
        → IsKnown V (record { candidates = places; watches = old.watches }) q ⊎ Among q.doc.no []
    go q here play (inl (inl k)) =
        inl (inl (record {
          place = k.place;
          here = rw less (without_keeps place k.place old.candidates k.here (apart q k.place here play k.placed));
          placed = k.placed;
        }))
    go q here play (inl (inr k)) =
        inl (inr (record { target = k.target; watches = k.watches; waits = k.waits }))
    go q here play (inr h) = absurd h

-- before the walk all jobs of w are left to be looked at
pub all_left : (V : View) (w : ℕ) (index : JobIndex) → index.candidates ≡ []
    → IsJobIndexBut V w (map (λ (p : StreamJob). p.doc.no) (jobs_of V w)) index
all_left V w index none = record {
  known = λ p here play. inr (map_among (λ (q : StreamJob). q.doc.no) (jobs_of V w) p here);
  real = λ place h. absurd (subst (λ (l : List ℕ). Among place l) none h);
}

-- what is left to be looked at after a change
abbrev pub left_by : Change → Watches → List ℕ
left_by (At t) watches = waiting_for watches t
left_by Everything watches = []
left_by (Launch j) watches = []
left_by Nothing watches = []

place_stays : (V next : View) (w : ℕ) (change : Change) (p : StreamJob) (place : ℕ) → KeepsOthers V next w change
    → IsPlaceOf V p place → IsPlaceOf next p place
place_stays V next w change p place keeps h = record {
  below_stream = h.below_stream;
  below_job = h.below_job;
  stream = rw (keeps.streams p.parent) h.stream;
  job = rw (keeps.priorities p) h.job;
  number = h.number;
  place_is = h.place_is;
}

-- an index after an entry, before who watches what it tells is looked at
pub after_entry : (V next : View) (w : ℕ) (change : Change) (index : JobIndex) → KeepsOthers V next w change
    → IsJobIndexOf V w index → IsJobIndexBut next w (left_by change index.watches) index
after_entry V next w change index keeps stands = record {
  known = λ p here play.
      go p (stands.known p (subst (λ (l : List StreamJob). Among p l) keeps.jobs here) (keeps.play p play));
  real = λ place h. still place (stands.real place h);
}
  where
    still : (place : ℕ) → IsPlaceHere V w place → IsPlaceHere next w place
    still place h = record {
      job = h.job;
      here = subst (λ (l : List StreamJob). Among h.job l) (sym keeps.jobs) h.here;
      placed = place_stays V next w change h.job place keeps h.placed;
    }

    stays : (p : StreamJob) (k : IsWatching V index p) → change ≢ At k.target → IsKnown next index p
    stays p k apart =
        inr (record { target = k.target; watches = k.watches; waits = keeps.awaited p k.target apart k.waits })

    waiting : (c : Change) → change ≡ c → (p : StreamJob) (k : IsWatching V index p)
        → IsKnown next index p ⊎ Among p.doc.no (left_by c index.watches)
    waiting Everything e p k = inl (stays p k (λ h. cc))
    waiting (Launch j) e p k = inl (stays p k (λ h. cc))
    waiting Nothing e p k = inl (stays p k (λ h. cc))
    waiting (At t) e p k =
        elim (target_cases k.target t) [
          | inl s ↦ inr (subst (λ (u : Target). Among p.doc.no (waiting_for index.watches u)) s k.watches)
          | inr s ↦ inl (stays p k (apart s))
        ]
      where
        apart : k.target ≢ t → change ≢ At k.target
        apart s h = s (same (sym h ∙ e))
          where
            same : {u v : Target} → At u ≡ At v → u ≡ v
            same h = cc

    go : (p : StreamJob) → IsKnown V index p ⊎ Among p.doc.no []
        → IsKnown next index p ⊎ Among p.doc.no (left_by change index.watches)
    go p (inl (inl k)) =
        inl (inl (record {
          place = k.place;
          here = k.here;
          placed = place_stays V next w change p k.place keeps k.placed;
        }))
    go p (inl (inr k)) = waiting change refl p k
    go p (inr h) = absurd h

-- the numbers of the jobs of w among these
abbrev pub numbers_of : ℕ → List StreamJob → List ℕ
numbers_of w left = map (λ (p : StreamJob). p.doc.no) (filter (λ (p : StreamJob). p.doc.ws == w) left)

-- before the walk over the catalogue
pub walk_begins : (V : View) (w : ℕ) (left : List StreamJob) (index : JobIndex) → left ≡ jobs V → index.candidates ≡ []
    → IsJobIndexBut V w (numbers_of w left) index
unfolding jobs_of
walk_begins V w left index e none = rw e (all_left V w index none)

-- a job of w is looked at
pub looked_at : (V : View) (w : ℕ) (p : StreamJob) (left : List StreamJob) (old new : JobIndex) → p.doc.ws ≡ w
    → IsLookedAt V w p.doc.no old new → IsJobIndexBut V w (numbers_of w (p ∷ left)) old
    → IsJobIndexBut V w (numbers_of w left) new
looked_at V w p left old new owned look index =
    one_less V w p.doc.no (numbers_of w left) old new look
    (subst (λ (l : List ℕ). IsJobIndexBut V w l old) here index)
  where
    here : numbers_of w (p ∷ left) ≡ p.doc.no ∷ numbers_of w left
    here = rw (eq-eqb p.doc.ws w owned) refl

-- a job of another workstation is passed
pub passed_by : (V : View) (w : ℕ) (p : StreamJob) (left : List StreamJob) (index : JobIndex) → (p.doc.ws == w) ≡ false
    → IsJobIndexBut V w (numbers_of w (p ∷ left)) index → IsJobIndexBut V w (numbers_of w left) index
passed_by V w p left index other h = subst (λ (l : List ℕ). IsJobIndexBut V w l index) there h
  where
    there : numbers_of w (p ∷ left) ≡ numbers_of w left
    there = rw other refl

-- and all are looked at where none is left
pub walk_ends : (V : View) (w : ℕ) (left : List StreamJob) (index : JobIndex) → left ≡ []
    → IsJobIndexBut V w (numbers_of w left) index → IsJobIndexOf V w index
walk_ends V w left index e h = subst (λ (l : List StreamJob). IsJobIndexBut V w (numbers_of w l) index) e h

-- one of a list of numbers is looked at
pub one_further : (V : View) (w : ℕ) (numbers : List ℕ) (i : ℕ) (old new : JobIndex) → i < length numbers
    → IsLookedAt V w (get_or numbers i 0) old new → IsJobIndexBut V w (drop i numbers) old
    → IsJobIndexBut V w (drop (i + 1) numbers) new
one_further V w numbers i old new within look index =
    one_less V w (get_or numbers i 0) (drop (i + 1) numbers) old new look
    (subst (λ (l : List ℕ). IsJobIndexBut V w l old) next index)
  where
    next : drop i numbers ≡ get_or numbers i 0 ∷ drop (i + 1) numbers
    next = rw (add-one, drop-cons numbers i 0) refl

-- a job that is not w's, or not in play, need not be looked at
pub not_in_play : (V : View) (w : ℕ) (p : StreamJob) (index : JobIndex) → IsPlannedJob V p → is_in_play V w p ≡ false
    → IsLookedAt V w p.doc.no index index
not_in_play V w p index planned idle =
    nothing_looked_at V w p.doc.no index
    (λ q here e play.
    clash (subst (λ (r : StreamJob). is_in_play V w r ≡ true) (one_by_number V w p q planned here e) play))
  where
    clash : is_in_play V w p ≡ true → ⊥
    clash t = cc

pub not_there : (V : View) (w number : ℕ) (index : JobIndex) → job V number ≡ None → IsLookedAt V w number index index
not_there V w number index none =
    nothing_looked_at V w number index (λ q here e play. clash q e (planned_here V w q here).found)
  where
    clash : (q : StreamJob) → q.doc.no ≡ number → job V q.doc.no ≡ Some q → ⊥
    clash q e f = let g : job V number ≡ Some q = subst (λ n. job V n ≡ Some q) e f in cc

pub not_owned : (V : View) (w : ℕ) (p : StreamJob) (index : JobIndex) → IsPlannedJob V p → (p.doc.ws == w) ≡ false
    → IsLookedAt V w p.doc.no index index
unfolding jobs_of
not_owned V w p index planned other =
    nothing_looked_at V w p.doc.no index (λ q here e play. clash q (one_by_number V w p q planned here e) here)
  where
    clash : (q : StreamJob) → q ≡ p → Among q (filter (λ (r : StreamJob). r.doc.ws == w) (jobs V)) → ⊥
    clash q e here =
        let t : (q.doc.ws == w) ≡ true = (filter_has (λ (r : StreamJob). r.doc.ws == w) (jobs V) q here).1 in
        let f : (q.doc.ws == w) ≡ false = ap (λ (r : StreamJob). r.doc.ws == w) e ∙ other in cc

-- a job that is not due is not in play
pub idle_by_due : (V : View) (w : ℕ) (p : StreamJob) → is_due p.doc.no (V (Events w)) ≡ false → is_in_play V w p ≡ false
unfolding is_in_play
idle_by_due V w p h = rw h refl

-- what is first awaited is awaited
pub first_is_awaited : (V : View) (p : StreamJob) (t : Target) → first_awaited V p ≡ Some t → IsAwaited V p t
unfolding first_awaited
first_is_awaited V p t h = go (is_released p.parent.no (V (Events p.parent.ws))) refl h
  where
    go : (b : Bool) → is_released p.parent.no (V (Events p.parent.ws)) ≡ b
        → cond b (slice_get (held_back_by V (Job p.doc.no)) 0) (Some (ReleaseOf p.parent.no)) ≡ Some t → IsAwaited V p t
    go true r k = inr (first_among (held_back_by V (Job p.doc.no)) t k)
    go false r k = let s : t ≡ ReleaseOf p.parent.no = cc in inl (s, r)

-- the index of no entries
pub none_known : (w : ℕ) (index : JobIndex) → index.candidates ≡ [] → IsJobIndexOf (view_of []) w index
unfolding jobs_of jobs catalogue list_of
none_known w index none = record {
  known = λ p here play. absurd here;
  real = λ place h. absurd (subst (λ (l : List ℕ). Among place l) none h);
}

-- the same of a job that its owner tells to be not due
pub idle_by_owner : (V : View) (w : ℕ) (p : StreamJob) → IsPlannedJob V p → (p.doc.ws == w) ≡ true
    → told_by_owner false (is_due p.doc.no) V (Job p.doc.no) ≡ false → is_in_play V w p ≡ false
idle_by_owner V w p planned owned h =
    idle_by_due V w p
    (subst (λ v. is_due p.doc.no (V (Events v)) ≡ false) (eqb-true p.doc.ws w owned)
    (sym
    (ap (λ (o : Option ℕ). option_map_or (λ v. is_due p.doc.no (V (Events v))) o false) planned.owned)
    ∙ h))
