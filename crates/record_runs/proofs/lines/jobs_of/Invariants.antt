use Rattle.std.proofs.Common.{◌≡◌, drop, map}
use Rattle.model.specs.Types.{LiveJob}
use Rattle.model.specs.Words.{ascending}
use Rattle.batchman_core.specs.Gathered.{with_all}
use Rattle.record_runs.proofs.lines.jobs_of.Given as goal

abbrev pub invariant-loop-launch : goal.invariant-loop-launch
invariant-loop-launch l =
    with_all (map (λ (p : LiveJob). p.job) (drop l.launch-index l.live)) l.jobs.keys
    ≡ ascending (map (λ (p : LiveJob). p.job) l.live)
