-- The plans of a record without definitions name workstations of its network, and have no more streams and jobs than the
-- record has lines.
use Rattle.std.proofs.Common.{◌≡◌, ◌≤◌, ◌+◌, ◌^◌, ℕ, Bool, List, [], ◌∷◌, Option, Some, None, arith, false, length, not, true}
use Rattle.std.proofs.lemmas.List.{length-map}
use Rattle.std.proofs.lemmas.List.Sums.{sum_by-cons}
use Rattle.std.specs.List.{AllByRecursion, list_any}
use Rattle.std.specs.Option.{option_map_or}
use Rattle.std.specs.Prelude.{filter_map, flat_map, if◌then◌else◌}
use Rattle.lemmas.proofs.Booleans.{neither, not_fails}
use Rattle.lemmas.proofs.Lists.{all_append}
use Rattle.model.specs.Types.{Net, StreamDraft}
use Rattle.model.specs.NewPlan.{jobs_in_drafts}
use Rattle.model.specs.Workstations.{ws_in_draft, ws_in_draft_dep, ws_in_job_draft}
use Rattle.model_laws.proofs.Inside.{AreIn, IsIn, all_in}
use Rattle.record_faults.specs.Faults.{lacks_station}
use Rattle.record_faults.specs.Known.{Station, begins_stream, is_object, is_station, until}
use Rattle.record_rows.specs.declared.rows.Row.{Row}
use Rattle.record_rows.specs.declared.rows.Row.TheVariants as row
use Rattle.record_rows.specs.declared.rows.DepRow.{DepRow}
use Rattle.record_rows.specs.declared.rows.DepRow.TheVariants as dep
use Rattle.record_rows.specs.declared.rows.JobRow.{JobRow}
use Rattle.record_rows.specs.declared.rows.StreamRow.{StreamRow}
use Rattle.record_script.specs.Numbers.{Numbered, ws_no}
use Rattle.record_script.specs.Plans.{dep_in, draft_of, each, ends_section, job_draft, job_in, jobs_in, plans_with}
use Rattle.record_script.specs.Plans.{stream_draft, stream_in, streams_in}
use Rattle.record_runs.specs.Never.{IsPlanFor}

-- rows that lack no workstation
pub none_lack : (all : List Station) (rows : List Row) → list_any (lacks_station all) rows ≡ false
    → AllByRecursion (λ r. lacks_station all r ≡ false) rows
none_lack all [] h = tt
none_lack all (r ∷ rows) h =
    let t = neither (lacks_station all r) (list_any (lacks_station all) rows) h in (t.0, none_lack all rows t.1)

-- rows up to one
until_all : (P : Row → Type 0) (p : Row → Bool) (rows : List Row) → AllByRecursion P rows
    → AllByRecursion P (until p rows)
until_all P p [] h = tt
until_all P p (r ∷ rows) h = go (p r) (until_all P p rows h.1)
  where
    go : (b : Bool) → AllByRecursion P (until p rows) → AllByRecursion P (if b then [] else r ∷ until p rows)
    go true more = tt
    go false more = (h.0, more)

pub until_short : (p : Row → Bool) (rows : List Row) → length (until p rows) ≤ length rows
until_short p [] = omega arith
until_short p (r ∷ rows) = go (p r) (until_short p rows)
  where
    go : (b : Bool) → length (until p rows) ≤ length rows
        → length (if b then [] else r ∷ until p rows) ≤ length (r ∷ rows)
    go true h = omega arith
    go false h = omega (arith, h)

pub each_short : {A : Type 0} (pick : Row → Option A) (rows : List Row) → length (each pick rows) ≤ length rows
each_short pick [] = omega arith
each_short {A} pick (r ∷ rows) = go (pick r) (each_short pick rows)
  where
    go : (o : Option A) → length (each pick rows) ≤ length rows
        → length (option_map_or (λ a. (a, rows) ∷ each pick rows) o (each pick rows)) ≤ length (r ∷ rows)
    go None h = omega (arith, h)
    go (Some a) h = omega (arith, h)

module _ (all : List Station) (n : Numbered) (net : Net)
    (there : (w : List ℕ) → is_station all w ≡ true → IsIn net (ws_no n w)) where
  abbrev IsNamed : Row → Type 0
  IsNamed r = lacks_station all r ≡ false

  known : (w : List ℕ) → not (is_station all w) ≡ false → IsIn net (ws_no n w)
  known w h = there w (not_fails (is_station all w) h)

  -- dependencies
  draft_in : (s : StreamRow) (ws : List ℕ) (d : DepRow) → IsIn net (ws_no n s.ws) → IsNamed (row.Dep d)
      → AreIn net (ws_in_draft_dep (draft_of n s ws d))
  unfolding draft_of lacks_station
  draft_in s ws (dep.At t) own h = tt
  draft_in s ws (dep.Until t passed) own h = tt
  draft_in s ws (dep.Deadline t) own h = tt
  draft_in s ws (dep.FollowsStream w name) own h = (known w h, tt)
  draft_in s ws (dep.FollowsJob w name job) own h = (known w h, tt)
  draft_in s ws (dep.FollowsOwn job) own h = (own, tt)
  draft_in s ws (dep.Needs units name) own h = tt
  draft_in s ws (dep.AskGlobal name) own h = tt
  draft_in s ws (dep.AskOwn t) own h = tt
  draft_in s ws (dep.Opens t) own h = tt

  deps_in : (s : StreamRow) (ws : List ℕ) (rows : List Row) → IsIn net (ws_no n s.ws) → AllByRecursion IsNamed rows
      → AreIn net (flat_map ws_in_draft_dep (filter_map (dep_in n s ws) rows))
  deps_in s ws [] own h = tt
  deps_in s ws (row.Dep d ∷ rows) own h =
      all_append (IsIn net) (ws_in_draft_dep (draft_of n s ws d))
      (flat_map ws_in_draft_dep (filter_map (dep_in n s ws) rows)) (draft_in s ws d own h.0)
      (deps_in s ws rows own h.1)
  deps_in s ws (r ∷ rows) own h = deps_in s ws rows own h.1

  -- jobs
  job_named : (s : StreamRow) (j : JobRow) (behind : List Row) → IsIn net (ws_no n s.ws) → IsNamed (row.Job j)
      → AllByRecursion IsNamed behind → AreIn net (ws_in_job_draft (job_draft n s j behind))
  unfolding job_draft lacks_station
  job_named s j behind own h more = (
    known j.ws h,
    deps_in s j.ws (until is_object behind) own (until_all IsNamed is_object behind more),
  )

  jobs_named : (s : StreamRow) (rows : List Row) → IsIn net (ws_no n s.ws) → AllByRecursion IsNamed rows
      → AreIn net (flat_map ws_in_job_draft (jobs_in n s rows))
  jobs_named s [] own h = tt
  jobs_named s (row.Job j ∷ rows) own h =
      all_append (IsIn net) (ws_in_job_draft (job_draft n s j rows)) (flat_map ws_in_job_draft (jobs_in n s rows))
      (job_named s j rows own h.0 h.1) (jobs_named s rows own h.1)
  jobs_named s (r ∷ rows) own h = jobs_named s rows own h.1

  -- streams
  stream_named : (s : StreamRow) (behind : List Row) → IsIn net (ws_no n s.ws) → AllByRecursion IsNamed behind
      → AreIn net (ws_in_draft (stream_draft n s behind))
  unfolding stream_draft
  stream_named s behind own h =
      let rows : AllByRecursion IsNamed (until begins_stream behind) = until_all IsNamed begins_stream behind h in (
        own,
        all_append (IsIn net)
            (flat_map ws_in_draft_dep (filter_map (dep_in n s s.ws) (until is_object (until begins_stream behind))))
            (flat_map ws_in_job_draft (jobs_in n s (until begins_stream behind)))
            (deps_in s s.ws (until is_object (until begins_stream behind)) own
            (until_all IsNamed is_object (until begins_stream behind) rows))
            (jobs_named s (until begins_stream behind) own rows),
      )

  own_known : (s : StreamRow) → IsNamed (row.Stream s) → IsIn net (ws_no n s.ws)
  unfolding lacks_station
  own_known s h = known s.ws h

  streams_named : (rows : List Row) → AllByRecursion IsNamed rows → AreIn net (flat_map ws_in_draft (streams_in n rows))
  streams_named [] h = tt
  streams_named (row.Stream s ∷ rows) h =
      all_append (IsIn net) (ws_in_draft (stream_draft n s rows)) (flat_map ws_in_draft (streams_in n rows))
      (stream_named s rows (own_known s h.0) h.1) (streams_named rows h.1)
  streams_named (r ∷ rows) h = streams_named rows h.1

  -- how many there are
  streams_few : (rows : List Row) → length (streams_in n rows) ≤ length rows
  streams_few rows =
      omega (
        arith,
        length-map (each stream_in rows) (λ (p : StreamRow × List Row). stream_draft n p.0 p.1),
        each_short stream_in rows,
      )

  own_jobs : (s : StreamRow) (behind : List Row)
      → length (stream_draft n s behind).jobs ≤ length (until begins_stream behind)
  unfolding stream_draft
  own_jobs s behind =
      omega (
        arith,
        length-map (each job_in (until begins_stream behind)) (λ (p : JobRow × List Row). job_draft n s p.0 p.1),
        each_short job_in (until begins_stream behind),
      )

  jobs_few : (rows : List Row) → jobs_in_drafts (streams_in n rows) + length (until begins_stream rows) ≤ length rows
  jobs_few [] = omega arith
  jobs_few (row.Stream s ∷ rows) =
      omega (
        arith,
        sum_by-cons (λ (d : StreamDraft). length d.jobs) (stream_draft n s rows) (streams_in n rows),
        own_jobs s rows,
        jobs_few rows,
      )
  jobs_few (r ∷ rows) = let h = jobs_few rows in omega (arith, h)

  section_for : (rows : List Row) → AllByRecursion IsNamed rows → length rows ≤ 2 ^ 31
      → IsPlanFor net (streams_in n rows)
  section_for rows h few =
      record {
        inside = all_in net (flat_map ws_in_draft (streams_in n rows)) (streams_named rows h);
        streams = let some = streams_few rows in omega (arith, some, few);
        jobs_ = let some = jobs_few rows in omega (arith, some, few);
      }

  pub sections_for : (rows : List Row) → AllByRecursion IsNamed rows → length rows ≤ 2 ^ 31
      → AllByRecursion (IsPlanFor net) (plans_with n rows)
  sections_for [] h few = tt
  sections_for (row.Plan ∷ rows) h few = (
    section_for (until ends_section rows) (until_all IsNamed ends_section rows h.1)
        (let short = until_short ends_section rows in omega (arith, short, few)),
    sections_for rows h.1 (omega (arith, few)),
  )
  sections_for (r ∷ rows) h few = sections_for rows h.1 (omega (arith, few))
