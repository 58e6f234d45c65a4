-- What the iterators have still to give.
use Rattle.std.specs.Prelude.{◌==◌, List, filter, filter_map}
use Rattle.model.specs.Types.{StreamDoc}
use Rattle.model.specs.Catalogue.{StreamJob}
use Rattle.owner_fold.specs.Sets.{job_coded}
use Rattle.owner_fold.specs.DocPlaces.{doc_at, job_at}
use Rattle.owner_fold.specs.declared.catalogue.Streams.{Streams}
use Rattle.owner_fold.specs.declared.catalogue.PlannedJobs.{PlannedJobs}
use Rattle.owner_fold.specs.declared.catalogue.StreamJobs.{StreamJobs}

-- the streams that are left
unfoldable pub streams_left : Streams → List StreamDoc
streams_left it = filter_map (doc_at it.entries.now) it.doc_places.now

-- the jobs that are left, each with its stream
unfoldable pub jobs_left : PlannedJobs → List StreamJob
jobs_left it = filter_map (job_at it.entries.now) it.doc_places.now

-- those of one stream
unfoldable pub stream_jobs_left : StreamJobs → List StreamJob
stream_jobs_left it =
    filter (λ (p : StreamJob). p.parent.no == it.stream)
    (filter_map (job_coded it.owners.now it.stream) it.codes.now)
