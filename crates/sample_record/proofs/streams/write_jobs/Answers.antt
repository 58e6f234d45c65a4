use Rattle.std.proofs.Common.{◌≡◌, ◌+◌, ◌-◌, ◌∙◌, suc, ap, append_assoc, arith}
use Rattle.sample_record.specs.Draws.{after}
use Rattle.sample_record.specs.Streams.{further_job, jobs_part}
use Rattle.sample_record.proofs.Counting.{further, at_end}
use Rattle.sample_record.proofs.streams.write_jobs.Goals as goal

pub loop-further-preserved : goal.loop-further-preserved
unfolding further_job
loop-further-preserved c =
    let e : c.loop-further.further + 1 - 1 ≡ suc (c.loop-further.further - 1) = omega arith in record {
      drawn = rw e (c.write_follows.ensures.drawn ∙ ap after c.loop-further.invariant.drawn);
      wrote =
          further (further_job c.args.host c.args.draws.now.x c.args.first) _ _ _ _ _ c.loop-further-test.true
          c.loop-further.invariant.wrote
          (rw (c.in_ok-write_follows.ensures.wrote, c.in_ok-write_job-2.ensures, c.loop-further.invariant.drawn)
          (simp append_assoc));
    }

pub returns-clause-wrote : goal.returns-clause-wrote
unfolding jobs_part
returns-clause-wrote c =
    at_end (further_job c.args.host c.args.draws.now.x c.args.first) _ _ _ _ c.loop-further-test.false
    c.loop-further.invariant.wrote
    ∙ rw c.in_ok-write_job.ensures (simp append_assoc)
