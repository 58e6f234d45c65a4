-- Which objects of a workstation have a time: an AT, an UNTIL or a DEADLINE.
use Rattle.std.specs.Prelude.{ℕ, List, filter, filter_map}
use Rattle.model.specs.Types.{StreamDoc}
use Rattle.model.specs.History.{View, view_of}
use Rattle.model.specs.Catalogue.{StreamJob}
use Rattle.owner_fold.specs.Given.{given_jobs, given_streams, has_time, is_given_job_here, is_given_stream_here}
use Rattle.owner_fold.specs.Sets.{job_coded, stream_coded}
use Rattle.owner_fold.specs.declared.timed.TimedJobs.{TimedJobs}
use Rattle.owner_fold.specs.declared.timed.TimedStreams.{TimedStreams}

-- the own members of w with a time
abbrev pub timed_streams : View → ℕ → List StreamDoc
timed_streams V w = given_streams has_time V w

-- and the own members' jobs
abbrev pub timed_jobs : View → ℕ → List StreamJob
timed_jobs V w = given_jobs has_time V w

-- what the iterators have still to give
unfoldable pub timed_streams_left : TimedStreams → List StreamDoc
timed_streams_left it =
    filter (is_given_stream_here has_time (view_of it.owners.now) it.ws)
    (filter_map (stream_coded it.owners.now it.ws) it.codes.now)

unfoldable pub timed_jobs_left : TimedJobs → List StreamJob
timed_jobs_left it =
    filter (is_given_job_here has_time (view_of it.owners.now) it.ws)
    (filter_map (job_coded it.owners.now it.ws) it.codes.now)
