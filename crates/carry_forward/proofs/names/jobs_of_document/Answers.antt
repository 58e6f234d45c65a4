use Rattle.std.proofs.Common.{◌-◌, ◌∷◌, List, arith, subst}
use Rattle.model.specs.Types.{JobDoc}
use Rattle.model.specs.NewPlan.{NamedJob}
use Rattle.carry_forward.specs.Known.{AreJobsOf, named_job}
use Rattle.carry_forward.proofs.Indexed.{jobs_at}
use Rattle.carry_forward.proofs.names.jobs_of_document.Goals as goal

pub loop-i-preserved : goal.loop-i-preserved
loop-i-preserved c =
    jobs_at c.loop-i.names.entries c.put_job.new.names.entries c.args.jobs.now (c.loop-i.i - 1) c.loop-i.i
    c.index-jobs-i.result (named_job c.index-jobs-i.result.name c.index-jobs-i.result.no) (omega arith) (omega arith)
    c.index-jobs-i.is (λ j. named_job c.index-jobs-i.result.name c.index-jobs-i.result.no)
    (subst
    (λ (d : JobDoc). (jobs : List NamedJob) → AreJobsOf c.loop-i.names.entries jobs
    → AreJobsOf c.put_job.new.names.entries (named_job d.name d.no ∷ jobs))
    c.job.view_is c.in_ok-put_job.ensures)
    c.loop-i.invariant
