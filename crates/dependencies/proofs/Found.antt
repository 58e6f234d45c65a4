-- Each job and each stream of the catalogue is found by its number.
use Rattle.std.proofs.Common.{◌≡◌, ◌∷◌, [], ℕ, List, Some, refl, subst, sym, true}
use Rattle.std.specs.List.{AllByRecursion}
use Rattle.std.specs.Prelude.{◌==◌, flat_map, map}
use Rattle.model_laws.proofs.Inside.{firsts_all}
use Rattle.lemmas.proofs.Lists.{all_such, flat_all}
use Rattle.model.specs.Types.{Events, JobDoc, StreamDoc}
use Rattle.model.specs.Words.{firsts}
use Rattle.model.specs.History.{View}
use Rattle.model.specs.Catalogue.{StreamJob, catalogue, docs_in, job, jobs, jobs_in, jobs_of_stream, owner, stream}
use Rattle.dependencies.specs.Planned.{ArePlannedJobs, ArePlannedStreams, IsPlannedJob, IsPlannedStream}
use Rattle.model_laws.proofs.Firsts.{IsFound, first_found}
use Rattle.model_laws.proofs.Lists.{all_both, all_filter}
use Rattle.model_laws.proofs.Options.{there_if}
use Rattle.dependencies.proofs.Lists.{all_found}

-- a stream that is found by its number is planned
planned_stream : (V : View) (d : StreamDoc) → stream V d.no ≡ Some d → IsPlannedStream V d
unfolding owner
planned_stream V d e = record { found = e; owned = rw e refl }

-- the streams of the catalogue are planned
pub streams_planned : (V : View) → ArePlannedStreams V (catalogue V)
unfolding stream catalogue
streams_planned V =
    all_such
    (IsFound (λ (d : StreamDoc). d.no) (firsts (λ (d : StreamDoc). d.no) [] (flat_map docs_in (V (Events 0)))))
    (IsPlannedStream V) _ (λ d e. planned_stream V d e)
    (first_found (λ (d : StreamDoc). d.no) [] (flat_map docs_in (V (Events 0))))

parents_in : (V : View) (d : StreamDoc) (placed : List JobDoc) → IsPlannedStream V d
    → AllByRecursion (λ (p : StreamJob). IsPlannedStream V p.parent)
    (map (λ (j : JobDoc). record { parent = d; doc = j }) placed)
parents_in V d [] h = tt
parents_in V d (j ∷ js) h = (h, parents_in V d js h)

-- so are the streams of its jobs
parents_planned : (V : View) → AllByRecursion (λ (p : StreamJob). IsPlannedStream V p.parent) (jobs V)
unfolding jobs
parents_planned V =
    firsts_all (λ (p : StreamJob). IsPlannedStream V p.parent) (λ (p : StreamJob). p.doc.no) []
    (flat_map jobs_in (catalogue V))
    (flat_all (λ (p : StreamJob). IsPlannedStream V p.parent) jobs_in (catalogue V)
    (all_such (IsPlannedStream V)
    (λ (d : StreamDoc). AllByRecursion (λ (p : StreamJob). IsPlannedStream V p.parent) (jobs_in d)) (catalogue V)
    (λ d h. parents_in V d d.jobs h) (streams_planned V)))

planned_job : (V : View) (p : StreamJob) → job V p.doc.no ≡ Some p → IsPlannedStream V p.parent → IsPlannedJob V p
unfolding owner
planned_job V p e h = record { found = e; owned = rw e refl; parent = h }

-- and its jobs
pub jobs_planned : (V : View) → ArePlannedJobs V (jobs V)
unfolding job jobs
jobs_planned V =
    all_both (λ (p : StreamJob). job V p.doc.no ≡ Some p) (λ (p : StreamJob). IsPlannedStream V p.parent)
    (IsPlannedJob V) (jobs V) (λ p e h. planned_job V p e h)
    (first_found (λ (p : StreamJob). p.doc.no) [] (flat_map jobs_in (catalogue V))) (parents_planned V)

found_job : (V : View) (j : ℕ) (p : StreamJob) → job V j ≡ Some p → IsPlannedJob V p × ((p.doc.no == j) ≡ true)
unfolding job
found_job V j p e =
    there_if (λ (p : StreamJob). IsPlannedJob V p × ((p.doc.no == j) ≡ true)) (job V j) p
    (all_found (IsPlannedJob V) (λ (p : StreamJob). p.doc.no == j) (jobs V) (jobs_planned V)) e

-- and is planned
pub job_planned : (V : View) (j : ℕ) (p : StreamJob) → job V j ≡ Some p → IsPlannedJob V p
job_planned V j p e = (found_job V j p e).0

found_stream : (V : View) (s : ℕ) (d : StreamDoc) → stream V s ≡ Some d → IsPlannedStream V d × ((d.no == s) ≡ true)
unfolding stream
found_stream V s d e =
    there_if (λ (d : StreamDoc). IsPlannedStream V d × ((d.no == s) ≡ true)) (stream V s) d
    (all_found (IsPlannedStream V) (λ (d : StreamDoc). d.no == s) (catalogue V) (streams_planned V)) e

-- and is planned
pub stream_planned : (V : View) (s : ℕ) (d : StreamDoc) → stream V s ≡ Some d → IsPlannedStream V d
stream_planned V s d e = (found_stream V s d e).0

-- the jobs that a walk begins with
pub jobs_left_planned : (V : View) (left : List StreamJob) → left ≡ jobs V → ArePlannedJobs V left
jobs_left_planned V left e = subst (λ (ps : List StreamJob). ArePlannedJobs V ps) (sym e) (jobs_planned V)

-- the streams that a walk begins with
pub streams_left_planned : (V : View) (left : List StreamDoc) → left ≡ catalogue V → ArePlannedStreams V left
streams_left_planned V left e = subst (λ (ds : List StreamDoc). ArePlannedStreams V ds) (sym e) (streams_planned V)

-- the jobs of a stream that a walk begins with
pub stream_jobs_left_planned : (V : View) (s : ℕ) (left : List StreamJob) → left ≡ jobs_of_stream V s
    → ArePlannedJobs V left
unfolding jobs_of_stream
stream_jobs_left_planned V s left e =
    subst (λ (ps : List StreamJob). ArePlannedJobs V ps) (sym e)
    (all_filter (IsPlannedJob V) (λ (p : StreamJob). p.parent.no == s) (jobs V) (jobs_planned V))
