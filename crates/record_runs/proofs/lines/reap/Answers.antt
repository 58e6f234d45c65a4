use Rattle.std.proofs.Common.{◌∙◌, ap, map, sym}
use Rattle.lemmas.proofs.Results.{if_err}
use Rattle.record_runs.specs.Lines.{live_jobs}
use Rattle.record_runs.proofs.Tables.{ends, halts_as, leads_as, on_ok}
use Rattle.record_runs.proofs.lines.reap.Goals as goal

pub returns-clause-taken : goal.returns-clause-taken
returns-clause-taken c =
    on_ok _ _ c.end_jobs.result
    (leads_as c.args.world.now c.end_jobs.new.world (λ x. map (ends c.args.w c.args.code.now) (live_jobs x c.args.w))
    (λ x. map (ends c.args.w c.args.code.now) c.as_slice.result.now)
    (λ x s. ap (map (ends c.args.w c.args.code.now)) (sym (c.as_slice.ensures ∙ c.in_ok-jobs.ensures x s))))
    c.end_jobs.ensures.taken

pub returns-clause-stopped : goal.returns-clause-stopped
returns-clause-stopped c =
    if_err _ _ c.end_jobs.result
    (λ t. halts_as c.args.world.now (λ x. map (ends c.args.w c.args.code.now) (live_jobs x c.args.w))
    (λ x. map (ends c.args.w c.args.code.now) c.as_slice.result.now) t
    (λ x s. ap (map (ends c.args.w c.args.code.now)) (sym (c.as_slice.ensures ∙ c.in_ok-jobs.ensures x s))))
    c.end_jobs.ensures.stopped
