use Rattle.std.proofs.Common.{◌-◌, ◌+◌, arith}
use Rattle.carry_forward.specs.Known.{named_job}
use Rattle.carry_forward.proofs.Indexed.{drafts_at}
use Rattle.carry_forward.proofs.names.jobs_of_draft.Goals as goal

pub loop-i-preserved : goal.loop-i-preserved
loop-i-preserved c =
    drafts_at c.loop-i.names.entries c.put_job.new.names.entries c.args.jobs.now c.args.first (c.loop-i.i - 1) c.loop-i.i
    c.index-jobs-i.result (named_job c.index-jobs-i.result.name (c.args.first + (c.loop-i.i - 1))) (omega arith)
    (omega arith) c.index-jobs-i.is
    (λ j. named_job c.index-jobs-i.result.name (c.args.first + (c.loop-i.i - 1))) c.in_ok-put_job.ensures
    c.loop-i.invariant
