use Rattle.std.proofs.Common.{List, codes, flat_map, map, refl, sym, ◌∙◌}
use Rattle.composer_parser.specs.declared.definitions.JobDef.{JobDef}
use Rattle.composer_parser.specs.declared.definitions.Lined.{Lined}
use Rattle.composer_print.specs.Groups.{job_line}
use Rattle.composer_print.specs.Normal.{bare}
use Rattle.composer_print.proofs.Lists.{group_all, part_more}
use Rattle.composer_print.proofs.groups.write_jobs.Goals as goal

pub loop-job-preserved : goal.loop-job-preserved
loop-job-preserved c =
    part_more (λ (ys : List (Lined JobDef)). flat_map (λ x. job_line x.item) (map bare ys))
    (λ (y : Lined JobDef). job_line y.item) (λ y ys. refl) _ _ _ c.args.jobs.now c.loop-job.job-index c.job-item.result
    c.loop-job-test.true c.job-item.is c.in_ok-write_job.ensures c.loop-job.invariant

pub returns : goal.returns
returns c =
    group_all (λ (ys : List (Lined JobDef)). flat_map (λ x. job_line x.item) (map bare ys)) refl bare
    (codes "$JOBS\n") _ _ _ c.args.jobs.now c.loop-job.job-index (sym c.is_empty.ensures ∙ c.if-is_empty.false)
    c.in_ok-write.ensures.bytes c.loop-job-test.false c.loop-job.invariant
