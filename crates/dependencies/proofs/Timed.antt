-- What a time brings about is brought about at objects that have a time.
use Rattle.std.proofs.Common.{◌≡◌, ◌∙◌, ◌∷◌, ◌++◌, ◌+◌, [], ℕ, Bool, List, None, Option, ap, cond, false, filter, flat_map}
use Rattle.std.proofs.Common.{is_some, not, option_map, refl, slice_get, subst, suc, sym, take, true, zero}
use Rattle.std.proofs.lemmas.Bool.{eqb-true}
use Rattle.std.specs.List.{list_any}
use Rattle.std.specs.Option.{option_map_or}
use Rattle.std.specs.Prelude.{◌&&◌, ◌==◌, ◌||◌}
use Rattle.lemmas.proofs.Booleans.{or_made_right}
use Rattle.lemmas.proofs.Lists.{any_append, filter_filter}
use Rattle.model.specs.Types.{Body, Deadline, Dep, Events, Job, Obj, Stream, StreamDoc, Until as UntilDep}
use Rattle.model.specs.Words.{least}
use Rattle.model.specs.History.{View}
use Rattle.model.specs.Catalogue.{StreamJob, catalogue, is_member, jobs, jobs_of, streams_of}
use Rattle.model.specs.Dependencies.{NumberedDep, deps, deps_added_by, document_deps, is_waived, numbered_deps, owner_events}
use Rattle.model.specs.Dependencies.{unwaived_deps}
use Rattle.model.specs.Facts.{commands, is_cancelled, is_complete}
use Rattle.model.specs.Lateness.{due_lates, is_late_due, late_at}
use Rattle.model.specs.OwnMembers.{due_untils, has_begun, is_until_due, own_job_numbers, own_jobs, own_numbers, own_streams}
use Rattle.model.specs.OwnMembers.{until_at}
use Rattle.owner_fold.specs.Given.{has_time, is_timed}
use Rattle.owner_fold.specs.Times.{timed_jobs, timed_streams}
use Rattle.owner_fold.proofs.Additions.{added_such}
use Rattle.dependencies.specs.Dues.{due_at}
use Rattle.dependencies.specs.Planned.{ArePlannedJobs, ArePlannedStreams, IsPlannedJob, IsPlannedStream}
use Rattle.dependencies.specs.declared.dues.Due.{Due}
use Rattle.dependencies.specs.declared.dues.Due.TheVariants.{Late, Until}
use Rattle.dependencies.proofs.Found.{jobs_planned, streams_planned}
use Rattle.model_laws.proofs.Lists.{all_filter}
use Rattle.dependencies.proofs.Lowest.{lower_of, numbers_among, numbers_of}

or_more : (t a b : Bool) → (a ≡ true → b ≡ true) → (t || a) ≡ true → (t || b) ≡ true
or_more true a b f h = refl
or_more false a b f h = f h

filtered_any : {X : Type 0} (f q : X → Bool) (xs : List X) → list_any f (filter q xs) ≡ true → list_any f xs ≡ true
filtered_any f q [] h = cc
filtered_any {X} f q (x ∷ xs) h = go (q x) h (filtered_any f q xs)
  where
    go : (b : Bool) → list_any f (cond b (x ∷ filter q xs) (filter q xs)) ≡ true
        → (list_any f (filter q xs) ≡ true → list_any f xs ≡ true) → (f x || list_any f xs) ≡ true
    go true k ih = or_more (f x) (list_any f (filter q xs)) (list_any f xs) ih k
    go false k ih = or_made_right (f x) (list_any f xs) (ih k)

taken_any : {X : Type 0} (f : X → Bool) (n : ℕ) (xs : List X) → list_any f (take n xs) ≡ true → list_any f xs ≡ true
taken_any f zero [] h = h
taken_any f (suc n) [] h = h
taken_any f zero (x ∷ xs) h = cc
taken_any f (suc n) (x ∷ xs) h = or_more (f x) (list_any f (take n xs)) (list_any f xs) (taken_any f n xs) h

numbered_any : (f : NumberedDep → Bool) → ((p : NumberedDep) → f p ≡ true → has_time p.dep ≡ true) → (n : ℕ)
    (ds : List Dep) → list_any f (numbered_deps n ds) ≡ true → list_any has_time ds ≡ true
numbered_any f timed n [] h = cc
numbered_any f timed n (d ∷ ds) h =
    go (f (record { number = n; dep = d })) (has_time d) (timed (record { number = n; dep = d })) h
    (numbered_any f timed (n + 1) ds)
  where
    go : (a b : Bool) → (a ≡ true → b ≡ true) → (a || list_any f (numbered_deps (n + 1) ds)) ≡ true
        → (list_any f (numbered_deps (n + 1) ds) ≡ true → list_any has_time ds ≡ true)
        → (b || list_any has_time ds) ≡ true
    go a true g k ih = refl
    go true false g k ih = absurd (let q : false ≡ true = g refl in cc)
    go false false g k ih = ih k

-- a dependency that is not waived and has a time is written or added
pub timed_if : (V : View) (w : ℕ) (o : Obj) (written : List Dep) (f : NumberedDep → Bool)
    → document_deps V o ≡ written → owner_events V o ≡ V (Events w)
    → ((p : NumberedDep) → f p ≡ true → has_time p.dep ≡ true) → list_any f (unwaived_deps V o) ≡ true
    → is_timed o written (V (Events w)) ≡ true
unfolding unwaived_deps deps
timed_if V w o written f docs events timed h =
    let all : List Dep = document_deps V o ++ flat_map (deps_added_by o) (commands (owner_events V o)) in
    let a : list_any f (numbered_deps 1 (take 65535 all)) ≡ true =
    filtered_any f (λ (p : NumberedDep). not (is_waived V o p.number)) (numbered_deps 1 (take 65535 all)) h in
    let b : list_any has_time all ≡ true =
    taken_any has_time 65535 all (numbered_any f timed 1 (take 65535 all) a) in
    sym
    (any_append has_time (document_deps V o) (flat_map (deps_added_by o) (commands (owner_events V o)))
    ∙ (λ j. list_any has_time (docs j)
    || (ap (λ (l : List Body). list_any has_time (flat_map (deps_added_by o) (commands l))) events
    ∙ added_such has_time o (commands (V (Events w)))) j))
    ∙ b

pub stream_given : (V : View) (w : ℕ) (d : StreamDoc) → IsPlannedStream V d → (d.ws == w) ≡ true
    → (document_deps V (Stream d.no) ≡ d.deps) × (owner_events V (Stream d.no) ≡ V (Events w))
unfolding document_deps owner_events
stream_given V w d h e = (
  rw h.found refl,
  ap (λ (o : Option ℕ). option_map_or (λ v. V (Events v)) o []) h.owned
      ∙ ap (λ (v : ℕ). V (Events v)) (eqb-true d.ws w e),
)

pub job_given : (V : View) (w : ℕ) (p : StreamJob) → IsPlannedJob V p → (p.doc.ws == w) ≡ true
    → (document_deps V (Job p.doc.no) ≡ p.doc.deps) × (owner_events V (Job p.doc.no) ≡ V (Events w))
unfolding document_deps owner_events
job_given V w p h e = (
  rw h.found refl,
  ap (λ (o : Option ℕ). option_map_or (λ v. V (Events v)) o []) h.owned
      ∙ ap (λ (v : ℕ). V (Events v)) (eqb-true p.doc.ws w e),
)

first_any : {X Y : Type 0} (f : X → Bool) (g : X → Y) (xs : List X)
    → is_some (option_map g (slice_get (filter f xs) 0)) ≡ true → list_any f xs ≡ true
first_any f g [] h = cc
first_any {X} {Y} f g (x ∷ xs) h = go (f x) h (first_any f g xs)
  where
    go : (b : Bool) → is_some (option_map g (slice_get (cond b (x ∷ filter f xs) (filter f xs)) 0)) ≡ true
        → (is_some (option_map g (slice_get (filter f xs) 0)) ≡ true → list_any f xs ≡ true)
        → (b || list_any f xs) ≡ true
    go true k ih = refl
    go false k ih = ih k

first_unless : {X Y : Type 0} (over : Bool) (f : X → Bool) (g : X → Y) (xs : List X)
    → is_some (option_map g (slice_get (cond over [] (filter f xs)) 0)) ≡ true → list_any f xs ≡ true
first_unless true f g xs h = cc
first_unless false f g xs h = first_any f g xs h

until_has_time : (events : List Body) (o : Obj) (p : NumberedDep) → is_until_due events o p ≡ true
    → has_time p.dep ≡ true
until_has_time events o p h = go p.dep p.number h
  where
    go : (d : Dep) (n : ℕ) → is_until_due events o (record { number = n; dep = d }) ≡ true → has_time d ≡ true
    go (UntilDep t mark) n k = refl
    go d n k = cc

late_has_time : (events : List Body) (o : Obj) (p : NumberedDep) → is_late_due events o p ≡ true
    → has_time p.dep ≡ true
late_has_time events o p h = go p.dep p.number h
  where
    go : (d : Dep) (n : ℕ) → is_late_due events o (record { number = n; dep = d }) ≡ true → has_time d ≡ true
    go (Deadline t) n k = refl
    go d n k = cc

-- what is due is due at an object with a time
due_is_timed : (due : Due) (V : View) (w : ℕ) (o : Obj) (written : List Dep) → document_deps V o ≡ written
    → owner_events V o ≡ V (Events w) → is_some (due_at due V w o) ≡ true → is_timed o written (V (Events w)) ≡ true
unfolding until_at due_untils late_at due_lates
due_is_timed Until V w o written docs events h =
    timed_if V w o written (is_until_due (V (Events w)) o) docs events (until_has_time (V (Events w)) o)
    (first_unless (is_cancelled o (V (Events w)) || has_begun (V (Events w)) o) (is_until_due (V (Events w)) o)
    (λ (p : NumberedDep). (o, p.number)) (unwaived_deps V o) h)
due_is_timed Late V w o written docs events h =
    timed_if V w o written (is_late_due (V (Events w)) o) docs events (late_has_time (V (Events w)) o)
    (first_unless (is_cancelled o (V (Events w)) || is_complete (V (Events w)) o) (is_late_due (V (Events w)) o)
    (λ (p : NumberedDep). (o, p.number)) (unwaived_deps V o) h)

-- the third of three tests in the place of another
pub both_and : (a b c d : Bool) → (a ≡ true → c ≡ true → d ≡ true) → (a && (b && c)) ≡ true → (a && (b && d)) ≡ true
both_and true true true d f h = f refl refl
both_and true true false d f h = cc
both_and true false c d f h = cc
both_and false b c d f h = cc

-- the streams and jobs with a time are planned
pub timed_streams_planned : (V : View) (w : ℕ) (left : List StreamDoc) → left ≡ timed_streams V w
    → ArePlannedStreams V left
unfolding own_streams streams_of
timed_streams_planned V w left e =
    subst (λ (ds : List StreamDoc). ArePlannedStreams V ds) (sym e)
    (all_filter (IsPlannedStream V) (λ (d : StreamDoc). is_timed (Stream d.no) d.deps (V (Events w)))
    (own_streams V w)
    (all_filter (IsPlannedStream V) (λ (d : StreamDoc). is_member V d.no) (streams_of V w)
    (all_filter (IsPlannedStream V) (λ (d : StreamDoc). d.ws == w) (catalogue V) (streams_planned V))))

pub timed_jobs_planned : (V : View) (w : ℕ) (left : List StreamJob) → left ≡ timed_jobs V w → ArePlannedJobs V left
unfolding own_jobs jobs_of
timed_jobs_planned V w left e =
    subst (λ (ps : List StreamJob). ArePlannedJobs V ps) (sym e)
    (all_filter (IsPlannedJob V) (λ (p : StreamJob). is_timed (Job p.doc.no) p.doc.deps (V (Events w)))
    (own_jobs V w)
    (all_filter (IsPlannedJob V) (λ (p : StreamJob). is_member V p.parent.no) (jobs_of V w)
    (all_filter (IsPlannedJob V) (λ (p : StreamJob). p.doc.ws == w) (jobs V) (jobs_planned V))))

-- they are those that pass three tests at once
pub timed_streams_all : (V : View) (w : ℕ)
    → timed_streams V w
    ≡ filter (λ (d : StreamDoc). (d.ws == w) && (is_member V d.no && is_timed (Stream d.no) d.deps (V (Events w))))
    (catalogue V)
unfolding own_streams streams_of
timed_streams_all V w =
    filter_filter (λ (d : StreamDoc). is_timed (Stream d.no) d.deps (V (Events w)))
    (λ (d : StreamDoc). is_member V d.no) (filter (λ (d : StreamDoc). d.ws == w) (catalogue V))
    ∙ filter_filter (λ (d : StreamDoc). is_member V d.no && is_timed (Stream d.no) d.deps (V (Events w)))
    (λ (d : StreamDoc). d.ws == w) (catalogue V)

pub timed_jobs_all : (V : View) (w : ℕ)
    → timed_jobs V w
    ≡ filter (λ (p : StreamJob). (p.doc.ws == w) && (is_member V p.parent.no && is_timed (Job p.doc.no) p.doc.deps (V (Events w))))
    (jobs V)
unfolding own_jobs jobs_of
timed_jobs_all V w =
    filter_filter (λ (p : StreamJob). is_timed (Job p.doc.no) p.doc.deps (V (Events w)))
    (λ (p : StreamJob). is_member V p.parent.no) (filter (λ (p : StreamJob). p.doc.ws == w) (jobs V))
    ∙ filter_filter (λ (p : StreamJob). is_member V p.parent.no && is_timed (Job p.doc.no) p.doc.deps (V (Events w)))
    (λ (p : StreamJob). p.doc.ws == w) (jobs V)

-- before the walks
pub due_streams_at_first : (due : Due) (V : View) (w : ℕ) (left : List StreamDoc) → left ≡ timed_streams V w
    → least (filter (λ n. is_some (due_at due V w (Stream n))) (own_numbers V w))
    ≡ lower_of None
    (least (numbers_of (λ (d : StreamDoc). d.ws == w) (λ (d : StreamDoc). is_member V d.no)
    (λ n. is_some (due_at due V w (Stream n))) (λ (d : StreamDoc). d.no) left))
unfolding own_streams streams_of
due_streams_at_first due V w left e =
    ap least
    (sym
    (numbers_among (IsPlannedStream V) (λ (d : StreamDoc). d.ws == w) (λ (d : StreamDoc). is_member V d.no)
    (λ n. is_some (due_at due V w (Stream n))) (λ (d : StreamDoc). d.no)
    (λ (d : StreamDoc). (d.ws == w) && (is_member V d.no && is_timed (Stream d.no) d.deps (V (Events w)))) (catalogue V)
    (λ d h t.
    both_and (d.ws == w) (is_member V d.no) (is_some (due_at due V w (Stream d.no)))
    (is_timed (Stream d.no) d.deps (V (Events w)))
    (λ a c.
    due_is_timed due V w (Stream d.no) d.deps (stream_given V w d h a).0 (stream_given V w d h a).1 c)
    t)
    (streams_planned V))
    ∙ ap
    (λ (l : List StreamDoc).
    numbers_of (λ (d : StreamDoc). d.ws == w) (λ (d : StreamDoc). is_member V d.no)
    (λ n. is_some (due_at due V w (Stream n))) (λ (d : StreamDoc). d.no) l)
    (sym (e ∙ timed_streams_all V w)))

pub due_jobs_at_first : (due : Due) (V : View) (w : ℕ) (left : List StreamJob) → left ≡ timed_jobs V w
    → least (filter (λ n. is_some (due_at due V w (Job n))) (own_job_numbers V w))
    ≡ lower_of None
    (least (numbers_of (λ (p : StreamJob). p.doc.ws == w) (λ (p : StreamJob). is_member V p.parent.no)
    (λ n. is_some (due_at due V w (Job n))) (λ (p : StreamJob). p.doc.no) left))
unfolding own_jobs jobs_of
due_jobs_at_first due V w left e =
    ap least
    (sym
    (numbers_among (IsPlannedJob V) (λ (p : StreamJob). p.doc.ws == w) (λ (p : StreamJob). is_member V p.parent.no)
    (λ n. is_some (due_at due V w (Job n))) (λ (p : StreamJob). p.doc.no)
    (λ (p : StreamJob). (p.doc.ws == w) && (is_member V p.parent.no && is_timed (Job p.doc.no) p.doc.deps (V (Events w))))
    (jobs V)
    (λ p h t.
    both_and (p.doc.ws == w) (is_member V p.parent.no) (is_some (due_at due V w (Job p.doc.no)))
    (is_timed (Job p.doc.no) p.doc.deps (V (Events w)))
    (λ a c.
    due_is_timed due V w (Job p.doc.no) p.doc.deps (job_given V w p h a).0 (job_given V w p h a).1 c)
    t)
    (jobs_planned V))
    ∙ ap
    (λ (l : List StreamJob).
    numbers_of (λ (p : StreamJob). p.doc.ws == w) (λ (p : StreamJob). is_member V p.parent.no)
    (λ n. is_some (due_at due V w (Job n))) (λ (p : StreamJob). p.doc.no) l)
    (sym (e ∙ timed_jobs_all V w)))
