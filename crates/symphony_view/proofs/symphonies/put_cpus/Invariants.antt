use Rattle.std.proofs.Common.{◌≡◌, ◌++◌, flat_map}
use Rattle.model.specs.Words.{below}
use Rattle.model.specs.History.{view_of}
use Rattle.symphony_view.specs.Symphonies.{cpu_bytes}
use Rattle.symphony_view.proofs.symphonies.put_cpus.Given as goal

abbrev pub invariant-loop-w : goal.invariant-loop-w
invariant-loop-w l = l.out ≡ l.initial.out ++ flat_map (cpu_bytes (view_of l.o)) (below l.w)
