-- A job or a stream as a view has it.
use Rattle.std.specs.List.{AllByRecursion}
use Rattle.std.specs.Prelude.{◌≡◌, List, Some}
use Rattle.model.specs.Types.{Job, Stream, StreamDoc}
use Rattle.model.specs.History.{View}
use Rattle.model.specs.Catalogue.{StreamJob, job, owner, stream}

-- it is the stream of its number, and its workstation owns it
pub record IsPlannedStream (V : View) (d : StreamDoc) : Type 0 where
  pub found : stream V d.no ≡ Some d
  pub owned : owner V (Stream d.no) ≡ Some d.ws

-- it is the job of its number, its workstation owns it, and its stream is planned
pub record IsPlannedJob (V : View) (p : StreamJob) : Type 0 where
  pub found : job V p.doc.no ≡ Some p
  pub owned : owner V (Job p.doc.no) ≡ Some p.doc.ws
  pub parent : IsPlannedStream V p.parent

-- each of them is
abbrev pub ArePlannedJobs : View → List StreamJob → Type 0
ArePlannedJobs V ps = AllByRecursion (IsPlannedJob V) ps

-- each of them is
abbrev pub ArePlannedStreams : View → List StreamDoc → Type 0
ArePlannedStreams V ds = AllByRecursion (IsPlannedStream V) ds
