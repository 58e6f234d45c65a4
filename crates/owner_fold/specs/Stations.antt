-- The workstations that are kept of the catalogue's streams and jobs.
use Rattle.std.specs.Prelude.{ℕ, ◌≡◌, List, None, Option, Some, map}
use Rattle.model.specs.Types.{StreamDoc}
use Rattle.model.specs.Catalogue.{StreamJob}
use Rattle.owner_fold.specs.declared.stations.Stations.{Stations}

-- the workstation of a stream, 0 where there is none
abbrev pub stream_owner : Option StreamDoc → ℕ
stream_owner None = 0
stream_owner (Some d) = d.ws

-- the workstation of a job, 0 where there is none
abbrev pub job_owner : Option StreamJob → ℕ
job_owner None = 0
job_owner (Some p) = p.doc.ws

-- these are the workstations of these streams and jobs
pub record AreStationsOf (docs : List StreamDoc) (placed : List StreamJob) (owners : Stations) : Type 0 where
  pub streams : owners.streams ≡ map (λ (d : StreamDoc). d.ws) docs
  pub jobs : owners.jobs ≡ map (λ (p : StreamJob). p.doc.ws) placed
