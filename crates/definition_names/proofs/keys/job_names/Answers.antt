use Rattle.composer_parser.specs.declared.Lined.{Lined}
use Rattle.composer_parser.specs.declared.JobDef.{JobDef}
use Rattle.definition_names.specs.Keys.{seen_pair}
use Rattle.definition_names.proofs.Steps.{keys_more}
use Rattle.definition_names.proofs.keys.job_names.Goals as goal

pub loop-job-preserved : goal.loop-job-preserved
loop-job-preserved c =
    keys_more seen_pair (λ (x : Lined JobDef). (x.item.ws, x.item.name)) c.args.jobs.now c.loop-job.job-index c.job-item.result
    c.loop-job.names.items _ _ c.loop-job-test.true c.job-item.is c.in_ok-push.ensures.items c.loop-job.invariant
    (let e = c.job-item.is in cc)
