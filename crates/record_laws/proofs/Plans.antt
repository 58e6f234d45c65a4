-- Fit rows make fit plans.
use Rattle.std.proofs.Common.{[], ℕ, ◌∷◌, ◌≤◌, arith, Bool, Err, if◌then◌else◌, IfSome, length, List, nat_lt, None, Ok}
use Rattle.std.proofs.Common.{Option, Result, Some, true, false, unwrap_or}
use Rattle.std.proofs.lemmas.List.{length-map}
use Rattle.std.proofs.lemmas.List.Elements.{All-cons, All-head, All-map, All-nil, All-tail, All-weaker}
use Rattle.std.specs.List.{All, cons_option, filter_map}
use Rattle.std.specs.Option.{option_map_or}
use Rattle.model.specs.Types.{Command, CondOp}
use Rattle.model.specs.Fit.{AreFit, IsFitCond, IsFitDraft, IsFitDraftDep, IsFitJobDraft, IsFitText, IsFitWork}
use Rattle.rc_conditions.specs.Machine.{read_of}
use Rattle.rc_conditions.specs.declared.CondFault.{CondFault}
use Rattle.rc_conditions.proofs.Readings.{Cause, read_has_cause}
use Rattle.record_rows.specs.declared.rows.Ranged.{Ranged}
use Rattle.record_rows.specs.declared.rows.Ranged.TheVariants.{Within, OutOfRange}
use Rattle.record_rows.specs.declared.rows.Row.{Row}
use Rattle.record_rows.specs.declared.rows.Row.TheVariants as row
use Rattle.record_rows.specs.declared.rows.PartRow.TheVariants as part
use Rattle.record_rows.specs.declared.rows.DepRow.{DepRow}
use Rattle.record_rows.specs.declared.rows.DepRow.TheVariants as dep
use Rattle.record_rows.specs.declared.rows.StreamRow.{StreamRow}
use Rattle.record_rows.specs.declared.rows.JobRow.{JobRow}
use Rattle.record_faults.specs.Known.{begins_stream, is_object, until}
use Rattle.record_script.specs.Numbers.{Numbered, within}
use Rattle.record_script.specs.Networks.{first_or}
use Rattle.record_script.specs.Plans.{cond_in, condition, dep_in, draft_of, each, ends_section, job_draft, job_in, logon_in}
use Rattle.record_script.specs.Plans.{operations, plans_with, section_in, stream_draft, stream_in, streams_in, work_in}
use Rattle.night_records.proofs.Sections.{each_short, until_short}
use Rattle.record_laws.proofs.Fits.{AreFitPlans, IsFitPlan}
use Rattle.record_laws.proofs.FitRows.{IsFitDepRow, IsFitRanged, IsFitRow}

within_fit : (t : Ranged (List ℕ)) → IsFitRanged t → IsFitText (within [] t)
within_fit (Within t) h = h
within_fit OutOfRange h = omega arith

-- conditions
operations_fit : (text : List ℕ) (r : Result (List CondOp) CondFault) → Cause text r → IsFitCond (operations r)
operations_fit text (Ok ops) h = h.1
operations_fit text (Err f) h = omega arith

condition_fit : (text : List ℕ) → IsFitCond (condition text)
condition_fit text = go (nat_lt 4096 (length text))
  where
    go : (b : Bool) → IsFitCond (if b then [] else operations (read_of text))
    go true = omega arith
    go false = operations_fit text (read_of text) (read_has_cause text)

-- the first that is picked, or another
first_fit : {A : Type 0} (P : A → Type 0) (other : A) (pick : Row → Option A) → P other
    → ((r : Row) → IsFitRow r → IfSome (pick r) P) → (rows : List Row) → All IsFitRow rows
    → P (first_or other pick rows)
first_fit P other pick h each_ [] fit = h
first_fit {A = A} P other pick h each_ (r ∷ rows) fit =
    go (pick r) (each_ r (All-head IsFitRow r rows fit))
    (first_fit P other pick h each_ rows (All-tail IsFitRow r rows fit))
  where
    go : (o : Option A) → IfSome o P → P (first_or other pick rows) → P (unwrap_or o (first_or other pick rows))
    go None k more = more
    go (Some a) k more = k

work_fit : (r : Row) → IsFitRow r → IfSome (work_in r) IsFitWork
work_fit (row.Part (part.Command t)) h = within_fit t h
work_fit (row.Part (part.Script t)) h = within_fit t h
work_fit r h = tt

logon_fit : (r : Row) → IsFitRow r → IfSome (logon_in r) IsFitText
logon_fit (row.Part (part.Logon t)) h = within_fit t h
logon_fit r h = tt

cond_fit : (r : Row) → IsFitRow r → IfSome (cond_in r) IsFitCond
cond_fit (row.Part (part.Cond t)) h = condition_fit (within [] t)
cond_fit r h = tt

-- dependencies
draft_fit : (n : Numbered) (s : StreamRow) (ws : List ℕ) (d : DepRow) → IsFitText s.name → IsFitDepRow d
    → IsFitDraftDep (draft_of n s ws d)
unfolding draft_of
draft_fit n s ws (dep.At t) name h = tt
draft_fit n s ws (dep.Until t passed) name h = tt
draft_fit n s ws (dep.Deadline t) name h = tt
draft_fit n s ws (dep.FollowsStream w stream) name h = (h, tt)
draft_fit n s ws (dep.FollowsJob w stream job) name h = h
draft_fit n s ws (dep.FollowsOwn job) name h = (name, h)
draft_fit n s ws (dep.Needs units resource) name h = tt
draft_fit n s ws (dep.AskGlobal prompt) name h = tt
draft_fit n s ws (dep.AskOwn t) name h = within_fit t h
draft_fit n s ws (dep.Opens t) name h = within_fit t h

dep_fit : (n : Numbered) (s : StreamRow) (ws : List ℕ) → IsFitText s.name → (r : Row) → IsFitRow r
    → IfSome (dep_in n s ws r) IsFitDraftDep
dep_fit n s ws name (row.Dep d) h = draft_fit n s ws d name h
dep_fit n s ws name r h = tt

picked_fit : {A : Type 0} (P : A → Type 0) (pick : Row → Option A) → ((r : Row) → IsFitRow r → IfSome (pick r) P)
    → (rows : List Row) → All IsFitRow rows → All P (filter_map pick rows)
picked_fit P pick h [] fit = All-nil P
picked_fit {A = A} P pick h (r ∷ rows) fit =
    go (pick r) (h r (All-head IsFitRow r rows fit)) (picked_fit P pick h rows (All-tail IsFitRow r rows fit))
  where
    go : (o : Option A) → IfSome o P → All P (filter_map pick rows) → All P (cons_option o (filter_map pick rows))
    go None k more = more
    go (Some a) k more = All-cons P a (filter_map pick rows) k more

picked_few : {A : Type 0} (pick : Row → Option A) (rows : List Row) → length (filter_map pick rows) ≤ length rows
picked_few pick [] = omega arith
picked_few {A = A} pick (r ∷ rows) = go (pick r) (picked_few pick rows)
  where
    go : (o : Option A) → length (filter_map pick rows) ≤ length rows
        → length (cons_option o (filter_map pick rows)) ≤ length (r ∷ rows)
    go None h = omega (arith, h)
    go (Some a) h = omega (arith, h)

-- the rows up to one
until_fit : (p : Row → Bool) (rows : List Row) → All IsFitRow rows → All IsFitRow (until p rows)
until_fit p [] fit = All-nil IsFitRow
until_fit p (r ∷ rows) fit = go (p r) (until_fit p rows (All-tail IsFitRow r rows fit))
  where
    go : (b : Bool) → All IsFitRow (until p rows) → All IsFitRow (if b then [] else r ∷ until p rows)
    go true more = All-nil IsFitRow
    go false more = All-cons IsFitRow r (until p rows) (All-head IsFitRow r rows fit) more

-- fit rows, no more than a count can tell
pub record AreFitRows (rows : List Row) : Type 0 where
  pub texts : All IsFitRow rows
  pub few : length rows ≤ 4294967295

before_fit : (p : Row → Bool) (rows : List Row) → AreFitRows rows → AreFitRows (until p rows)
before_fit p rows h =
    record { texts = until_fit p rows h.texts; few = omega (arith, until_short p rows, h.few) }

deps_fit : (n : Numbered) (s : StreamRow) (ws : List ℕ) (rows : List Row) → IsFitText s.name → AreFitRows rows
    → AreFit IsFitDraftDep (filter_map (dep_in n s ws) rows)
deps_fit n s ws rows name h = (
  omega (arith, picked_few (dep_in n s ws) rows, h.few),
  picked_fit IsFitDraftDep (dep_in n s ws) (dep_fit n s ws name) rows h.texts,
)

-- what is picked, with the rows behind it
abbrev IsFitPick : {A : Type 0} → (A → Type 0) → A × List Row → Type 0
IsFitPick P p = P p.0 × AreFitRows p.1

each_fit : {A : Type 0} (P : A → Type 0) (pick : Row → Option A) → ((r : Row) → IsFitRow r → IfSome (pick r) P)
    → (rows : List Row) → All IsFitRow rows → length rows ≤ 4294967296
    → All (λ (p : A × List Row). IsFitPick P p) (each pick rows)
each_fit {A = A} P pick h [] fit few = All-nil (λ (p : A × List Row). IsFitPick P p)
each_fit {A = A} P pick h (r ∷ rows) fit few =
    go (pick r) (h r (All-head IsFitRow r rows fit))
    (each_fit P pick h rows (All-tail IsFitRow r rows fit) (omega (arith, few)))
  where
    go : (o : Option A) → IfSome o P → All (λ (p : A × List Row). IsFitPick P p) (each pick rows)
        → All (λ (p : A × List Row). IsFitPick P p) (option_map_or (λ a. (a, rows) ∷ each pick rows) o (each pick rows))
    go None k more = more
    go (Some a) k more =
        All-cons (λ (p : A × List Row). IsFitPick P p) (a, rows) (each pick rows)
        (k, record { texts = All-tail IsFitRow r rows fit; few = omega (arith, few) }) more

-- jobs, streams, plans
job_fit : (n : Numbered) (s : StreamRow) (j : JobRow) (behind : List Row) → IsFitText s.name → IsFitText j.name
    → AreFitRows behind → IsFitJobDraft (job_draft n s j behind)
unfolding job_draft
job_fit n s j behind stream name h =
    let own : AreFitRows (until is_object behind) = before_fit is_object behind h in
    record {
      name_ = name;
      work_ = first_fit IsFitWork (Command []) work_in (omega arith) work_fit (until is_object behind) own.texts;
      logon_ = first_fit IsFitText [] logon_in (omega arith) logon_fit (until is_object behind) own.texts;
      cond_ = first_fit IsFitCond [] cond_in (omega arith) cond_fit (until is_object behind) own.texts;
      deps_ = deps_fit n s j.ws (until is_object behind) stream own;
    }

job_named : (r : Row) → IsFitRow r → IfSome (job_in r) (λ j. IsFitText j.name)
job_named (row.Job j) h = h
job_named r h = tt

stream_named : (r : Row) → IsFitRow r → IfSome (stream_in r) (λ s. IsFitText s.name)
stream_named (row.Stream s) h = h
stream_named r h = tt

section_there : (r : Row) → IsFitRow r → IfSome (section_in r) (λ u. Unit {0})
section_there row.Plan h = tt
section_there r h = tt

stream_fit : (n : Numbered) (s : StreamRow) (behind : List Row) → IsFitText s.name → AreFitRows behind
    → IsFitDraft (stream_draft n s behind)
unfolding stream_draft
stream_fit n s behind name h =
    let own : AreFitRows (until begins_stream behind) = before_fit begins_stream behind h in
    record {
      name_ = name;
      deps_ =
          deps_fit n s s.ws (until is_object (until begins_stream behind)) name
          (before_fit is_object (until begins_stream behind) own);
      jobs_ = (
        omega (
          arith,
          each_short job_in (until begins_stream behind),
          own.few,
          length-map (each job_in (until begins_stream behind)) (λ (p : JobRow × List Row). job_draft n s p.0 p.1),
        ),
        All-map IsFitJobDraft (λ (p : JobRow × List Row). job_draft n s p.0 p.1)
            (each job_in (until begins_stream behind))
            (All-weaker (λ (p : JobRow × List Row). IsFitPick (λ (j : JobRow). IsFitText j.name) p)
            (λ (p : JobRow × List Row). IsFitJobDraft (job_draft n s p.0 p.1))
            (λ p k. job_fit n s p.0 p.1 name k.0 k.1) (each job_in (until begins_stream behind))
            (each_fit (λ (j : JobRow). IsFitText j.name) job_in job_named (until begins_stream behind) own.texts
            (omega (arith, own.few)))),
      );
    }

section_fit : (n : Numbered) (rows : List Row) → AreFitRows rows → IsFitPlan (streams_in n rows)
section_fit n rows h = (
  omega (
    arith,
    each_short stream_in rows,
    h.few,
    length-map (each stream_in rows) (λ (p : StreamRow × List Row). stream_draft n p.0 p.1),
  ),
  All-map IsFitDraft (λ (p : StreamRow × List Row). stream_draft n p.0 p.1) (each stream_in rows)
      (All-weaker (λ (p : StreamRow × List Row). IsFitPick (λ (s : StreamRow). IsFitText s.name) p)
      (λ (p : StreamRow × List Row). IsFitDraft (stream_draft n p.0 p.1))
      (λ p k. stream_fit n p.0 p.1 k.0 k.1) (each stream_in rows)
      (each_fit (λ (s : StreamRow). IsFitText s.name) stream_in stream_named rows h.texts (omega (arith, h.few)))),
)

pub plans_fit : (n : Numbered) (rows : List Row) → All IsFitRow rows → length rows ≤ 4294967296
    → AreFitPlans (plans_with n rows)
plans_fit n rows texts few =
    All-map IsFitPlan (λ (p : Unit {0} × List Row). streams_in n (until ends_section p.1)) (each section_in rows)
    (All-weaker (λ (p : Unit {0} × List Row). IsFitPick (λ (u : Unit {0}). Unit {0}) p)
    (λ (p : Unit {0} × List Row). IsFitPlan (streams_in n (until ends_section p.1)))
    (λ p k. section_fit n (until ends_section p.1) (before_fit ends_section p.1 k.1)) (each section_in rows)
    (each_fit (λ (u : Unit {0}). Unit {0}) section_in section_there rows texts few))
