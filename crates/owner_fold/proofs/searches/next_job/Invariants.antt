use Rattle.std.proofs.Common.{◌≡◌, drop}
use Rattle.owner_fold.specs.Searches.{jobs_passing}
use Rattle.owner_fold.proofs.searches.next_job.Given as goal

abbrev pub invariant-loop-i : goal.invariant-loop-i
invariant-loop-i l = jobs_passing l.test l.owners l.w l.codes ≡ jobs_passing l.test l.owners l.w (drop l.i l.codes)
