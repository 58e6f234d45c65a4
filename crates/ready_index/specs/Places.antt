-- The place of a job in the order in which the best job is chosen, as a number: the lowest comes first.
use Rattle.std.specs.Prelude.{ℕ, ◌%◌, ◌*◌, ◌+◌, ◌<◌, ◌≡◌}
use Rattle.model.specs.History.{View}
use Rattle.model.specs.Catalogue.{StreamJob, jobs_of}
use Rattle.model.specs.Readiness.{job_priority, stream_priority}
use Rattle.ready_index.specs.Lists.{Among}

-- the place of a job, by how far the priorities lie below 255, and by its number
pub record IsPlaceOf (V : View) (p : StreamJob) (place : ℕ) : Type 0 where
  pub below_stream : ℕ
  pub below_job : ℕ
  pub stream : stream_priority V p.parent + below_stream ≡ 255
  pub job : job_priority V p + below_job ≡ 255
  pub number : p.doc.no < 4294967296
  pub place_is : place ≡ (below_stream * 256 + below_job) * 4294967296 + p.doc.no

-- the number of the job at a place
abbrev pub number_at : ℕ → ℕ
number_at place = place % 4294967296

-- it is the place of a job of w
pub record IsPlaceHere (V : View) (w place : ℕ) : Type 0 where
  pub job : StreamJob
  pub here : Among job (jobs_of V w)
  pub placed : IsPlaceOf V job place
