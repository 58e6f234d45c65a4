use Rattle.std.proofs.Common.{List, arith, filter_map, subst}
use Rattle.lemmas.proofs.Lists.{take_whole}
use Rattle.composer_parser.specs.declared.JobDef.{JobDef}
use Rattle.composer_parser.specs.declared.Lined.{Lined}
use Rattle.definition_faults.specs.Conditions.{HasBad, IsLeastOf, IsNoted, condition_of_job}
use Rattle.definition_faults.proofs.Least.{job_more}
use Rattle.definition_faults.proofs.conditions.bad_job.Goals as goal

pub loop-job-preserved : goal.loop-job-preserved
loop-job-preserved c =
    job_more c.args.jobs.now c.loop-job.job-index c.job-item.result c.loop-job.least c.in_ok-least.least (omega arith)
    c.job-item.is c.loop-job.invariant
    (subst (λ o. IsNoted c.loop-job.least c.job-item.result.line o c.in_ok-least.least) c.of_work.ensures
    c.in_ok-least.ensures)

pub returns : goal.returns
returns c =
    subst (λ (l : List (Lined JobDef)). IsLeastOf (HasBad (filter_map condition_of_job l)) c.loop-job.least)
    (take_whole c.args.jobs.now c.loop-job.job-index c.loop-job-test.false) c.loop-job.invariant
