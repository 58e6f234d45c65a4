use Rattle.std.proofs.Common.{◌≡◌, ◌++◌, ◌-◌, filter}
use Rattle.std.specs.List.{range_with_len}
use Rattle.run_cycles.specs.Runs.{runs}
use Rattle.plan_builder.proofs.limits.running.Given as goal

abbrev pub invariant-loop-n : goal.invariant-loop-n
invariant-loop-n l =
    filter (λ n. runs l.w n l.day) (range_with_len 0 l.count)
    ≡ l.streams.items ++ filter (λ n. runs l.w n l.day) (range_with_len l.n (l.count - l.n))
