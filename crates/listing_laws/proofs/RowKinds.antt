-- Kinds of rows in a listing.
use Rattle.std.proofs.Common.{◌≡◌, ℕ, Bool, true, false, List, [], ◌∷◌, ◌++◌, refl, flat_map, map}
use Rattle.model.specs.Types.{DraftDep, JobDraft, Net, Node, StreamDraft}
use Rattle.history_laws.proofs.Printed.{told}
use Rattle.history_laws.proofs.Sections.{prompt_row, resource_row, station_row}
use Rattle.record_rows.specs.declared.rows.Row.{Row}
use Rattle.record_rows.specs.declared.rows.Row.TheVariants as row
use Rattle.listing_laws.proofs.DepLines.{dep_row}
use Rattle.listing_laws.proofs.HeadLines.{job_part, stream_part}
use Rattle.listing_laws.proofs.ObjectLines.{cond_parts, dep_rows, job_rows, logon_parts, part_rows, recovery_parts}
use Rattle.listing_laws.proofs.ObjectLines.{stream_rows, work_parts}
use Rattle.listing_laws.proofs.Picks.{All, all_both, all_each, all_map, all_row}
use Rattle.listing_laws.proofs.Placed.{front_rows, plan_rows}

-- below a job, below a stream, and below a section of a plan
abbrev pub in_job : Row → Bool
in_job (row.Part p) = true
in_job (row.Dep d) = true
in_job r = false

abbrev pub in_stream : Row → Bool
in_stream (row.Job j) = true
in_stream (row.Part p) = true
in_stream (row.Dep d) = true
in_stream r = false

abbrev pub in_plan : Row → Bool
in_plan (row.Stream s) = true
in_plan (row.Job j) = true
in_plan (row.Part p) = true
in_plan (row.Dep d) = true
in_plan r = false

-- a dependency
abbrev pub is_dep : Row → Bool
is_dep (row.Dep d) = true
is_dep r = false

parts_are : (q : Row → Bool) (j : JobDraft) → All q (map row.Part (work_parts j.work)) → All q (map row.Part (logon_parts j.logon))
    → All q (map row.Part (cond_parts j.cond)) → All q (map row.Part (recovery_parts j.recovery)) → All q (part_rows j)
parts_are q j work logon cond recovery =
    all_both q (map row.Part (work_parts j.work)) _ work
    (all_both q (map row.Part (logon_parts j.logon)) _ logon
    (all_both q (map row.Part (cond_parts j.cond)) (map row.Part (recovery_parts j.recovery)) cond recovery))

pub parts_in_job : (j : JobDraft) → All in_job (part_rows j)
parts_in_job j =
    parts_are in_job j (all_map in_job row.Part (λ p. refl) (work_parts j.work))
    (all_map in_job row.Part (λ p. refl) (logon_parts j.logon)) (all_map in_job row.Part (λ p. refl) (cond_parts j.cond))
    (all_map in_job row.Part (λ p. refl) (recovery_parts j.recovery))

pub deps_in_job : (net : Net) (deps : List DraftDep) → All in_job (dep_rows net deps)
deps_in_job net deps = all_map in_job (dep_row net) (λ d. refl) deps

pub deps_in_stream : (net : Net) (deps : List DraftDep) → All in_stream (dep_rows net deps)
deps_in_stream net deps = all_map in_stream (dep_row net) (λ d. refl) deps

pub deps_are : (net : Net) (deps : List DraftDep) → All is_dep (dep_rows net deps)
deps_are net deps = all_map is_dep (dep_row net) (λ d. refl) deps

pub inside_job : (net : Net) (j : JobDraft) → All in_job (part_rows j ++ dep_rows net j.deps)
inside_job net j = all_both in_job (part_rows j) (dep_rows net j.deps) (parts_in_job j) (deps_in_job net j.deps)

-- rows of a kind that has what stands below a job
job_below : (q : Row → Bool) → ((r : Row) → in_job r ≡ true → q r ≡ true) → (net : Net) (j : JobDraft)
    → All q (part_rows j ++ dep_rows net j.deps)
job_below q more net j =
    all_both q (part_rows j) (dep_rows net j.deps)
    (parts_are q j (all_map q row.Part (λ p. more (row.Part p) refl) (work_parts j.work))
    (all_map q row.Part (λ p. more (row.Part p) refl) (logon_parts j.logon))
    (all_map q row.Part (λ p. more (row.Part p) refl) (cond_parts j.cond))
    (all_map q row.Part (λ p. more (row.Part p) refl) (recovery_parts j.recovery)))
    (all_map q (dep_row net) (λ d. more (dep_row net d) refl) j.deps)

job_in_stream : (r : Row) → in_job r ≡ true → in_stream r ≡ true
job_in_stream (row.Part p) e = refl
job_in_stream (row.Dep d) e = refl
job_in_stream r e = absurd (cc)

job_in_plan : (r : Row) → in_job r ≡ true → in_plan r ≡ true
job_in_plan (row.Part p) e = refl
job_in_plan (row.Dep d) e = refl
job_in_plan r e = absurd (cc)

pub jobs_in_stream : (net : Net) (jobs : List JobDraft) → All in_stream (flat_map (job_rows net) jobs)
jobs_in_stream net jobs =
    all_each in_stream (job_rows net)
    (λ j.
    all_both in_stream (row.Job (job_part net j) ∷ []) (part_rows j ++ dep_rows net j.deps)
    (all_row in_stream (row.Job (job_part net j)) refl) (job_below in_stream job_in_stream net j)) jobs

pub inside_stream : (net : Net) (s : StreamDraft) → All in_stream (dep_rows net s.deps ++ flat_map (job_rows net) s.jobs)
inside_stream net s =
    all_both in_stream (dep_rows net s.deps) (flat_map (job_rows net) s.jobs) (deps_in_stream net s.deps) (jobs_in_stream net s.jobs)

pub rows_in_plan : (net : Net) (drafts : List StreamDraft) → All in_plan (plan_rows net drafts)
rows_in_plan net drafts = all_each in_plan (stream_rows net) one drafts
  where
    one_job : (j : JobDraft) → All in_plan (job_rows net j)
    one_job j =
        all_both in_plan (row.Job (job_part net j) ∷ []) (part_rows j ++ dep_rows net j.deps)
        (all_row in_plan (row.Job (job_part net j)) refl) (job_below in_plan job_in_plan net j)

    one : (s : StreamDraft) → All in_plan (stream_rows net s)
    one s =
        all_both in_plan (row.Stream (stream_part net s) ∷ []) (dep_rows net s.deps ++ flat_map (job_rows net) s.jobs)
        (all_row in_plan (row.Stream (stream_part net s)) refl)
        (all_both in_plan (dep_rows net s.deps) (flat_map (job_rows net) s.jobs)
        (all_map in_plan (dep_row net) (λ d. refl) s.deps) (all_each in_plan (job_rows net) one_job s.jobs))

-- the front, by a kind that has its rows
pub front_are : (q : Row → Bool) → q row.Network ≡ true → ((n : List ℕ) → q (row.Master n) ≡ true) → (net : Net) (m : Node)
    (others : List Node) → All q (map (station_row net) others) → All q (map (resource_row net) net.resources)
    → All q (map prompt_row net.prompts) → All q (map row.CarryForward (told net.carry)) → All q (front_rows net m others)
front_are q network master net m others stations resources prompts carry =
    all_both q (row.Network ∷ row.Master m.name ∷ []) _
    (all_both q (row.Network ∷ []) (row.Master m.name ∷ []) (all_row q row.Network network) (all_row q (row.Master m.name) (master m.name)))
    (all_both q (map (station_row net) others) _ stations
    (all_both q (map (resource_row net) net.resources) _ resources
    (all_both q (map prompt_row net.prompts) (map row.CarryForward (told net.carry)) prompts carry)))
