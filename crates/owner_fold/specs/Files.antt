-- Which objects of a workstation were given a dependency on a file.
use Rattle.std.specs.Prelude.{ℕ, List, filter, filter_map}
use Rattle.model.specs.Types.{StreamDoc}
use Rattle.model.specs.History.{View, view_of}
use Rattle.model.specs.Catalogue.{StreamJob}
use Rattle.model.specs.StepFaults.{is_outside}
use Rattle.owner_fold.specs.Given.{given_jobs, given_streams, is_given_job_here, is_given_stream_here}
use Rattle.owner_fold.specs.Sets.{job_coded, stream_coded}
use Rattle.owner_fold.specs.declared.filed.FiledJobs.{FiledJobs}
use Rattle.owner_fold.specs.declared.filed.FiledStreams.{FiledStreams}

-- the own members of w with one
abbrev pub filed_streams : View → ℕ → List StreamDoc
filed_streams V w = given_streams is_outside V w

-- and the own members' jobs
abbrev pub filed_jobs : View → ℕ → List StreamJob
filed_jobs V w = given_jobs is_outside V w

-- what the iterators have still to give
unfoldable pub filed_streams_left : FiledStreams → List StreamDoc
filed_streams_left it =
    filter (is_given_stream_here is_outside (view_of it.owners.now) it.ws)
    (filter_map (stream_coded it.owners.now it.ws) it.codes.now)

unfoldable pub filed_jobs_left : FiledJobs → List StreamJob
filed_jobs_left it =
    filter (is_given_job_here is_outside (view_of it.owners.now) it.ws)
    (filter_map (job_coded it.owners.now it.ws) it.codes.now)
