use Rattle.std.proofs.Common.{◌≡◌, ◌++◌, flat_map}
use Rattle.model.specs.Words.{below}
use Rattle.model.specs.History.{view_of}
use Rattle.symphony_view.specs.Listings.{cpu_line}
use Rattle.symphony_view.proofs.listings.write_cpus.Given as goal

abbrev pub invariant-loop-w : goal.invariant-loop-w
invariant-loop-w l = l.out.items ≡ l.initial.out.items ++ flat_map (cpu_line l.net (view_of l.o)) (below l.w)
