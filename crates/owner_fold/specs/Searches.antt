-- What is asked of streams and jobs, and those at the codes of a workstation that pass.
use Rattle.std.specs.Prelude.{ℕ, Bool, List, filter, filter_map}
use Rattle.model.specs.Types.{Entry, Events, StreamDoc}
use Rattle.model.specs.History.{list_of, view_of}
use Rattle.model.specs.Catalogue.{StreamJob}
use Rattle.owner_fold.specs.Given.{given_job_by, given_stream_by, is_given_job_here, is_given_stream_here, is_of}
use Rattle.owner_fold.specs.Holders.{is_open_here, is_under_way}
use Rattle.owner_fold.specs.Sets.{began_by, is_waiting_here, job_coded, opened_by, stream_coded, waits_by}
use Rattle.owner_fold.specs.declared.searches.JobTest.{JobTest}
use Rattle.owner_fold.specs.declared.searches.JobTest.TheVariants as job_test
use Rattle.owner_fold.specs.declared.searches.StreamTest.{StreamTest}
use Rattle.owner_fold.specs.declared.searches.StreamTest.TheVariants as stream_test

-- a stream of w passes a test
abbrev pub stream_passes : StreamTest → List Entry → ℕ → StreamDoc → Bool
stream_passes stream_test.Waits kept w = is_waiting_here w (list_of kept (Events w))
stream_passes stream_test.Begun kept w = is_under_way w (list_of kept (Events w))
stream_passes (stream_test.Given kind) kept w = is_given_stream_here (is_of kind) (view_of kept) w

-- a job of w does
abbrev pub job_passes : JobTest → List Entry → ℕ → StreamJob → Bool
job_passes job_test.Opened kept w = λ p. is_open_here w (list_of kept (Events w)) p.doc
job_passes (job_test.Given kind) kept w = is_given_job_here (is_of kind) (view_of kept) w

-- those at these codes
abbrev pub streams_passing : StreamTest → List Entry → ℕ → List ℕ → List StreamDoc
streams_passing test kept w codes = filter (stream_passes test kept w) (filter_map (stream_coded kept w) codes)

abbrev pub jobs_passing : JobTest → List Entry → ℕ → List ℕ → List StreamJob
jobs_passing test kept w codes = filter (job_passes test kept w) (filter_map (job_coded kept w) codes)

-- a stream counts by the events of its workstation, where these are the members
abbrev pub stream_counts : StreamTest → List ℕ → List Entry → StreamDoc → Bool
stream_counts stream_test.Waits ms kept = waits_by kept
stream_counts stream_test.Begun ms kept = began_by kept
stream_counts (stream_test.Given kind) ms kept = given_stream_by (is_of kind) ms kept

-- a job does
abbrev pub job_counts : JobTest → List ℕ → List Entry → StreamJob → Bool
job_counts job_test.Opened ms kept = opened_by kept
job_counts (job_test.Given kind) ms kept = given_job_by (is_of kind) ms kept
