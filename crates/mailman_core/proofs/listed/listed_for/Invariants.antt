use Rattle.std.proofs.Common.{◌≡◌, ◌<◌, ℕ}
use Rattle.std.specs.List.{AllByRecursion}
use Rattle.std.specs.Prelude.{filter, map}
use Rattle.model.specs.Types.{Events}
use Rattle.model.specs.Words.{below}
use Rattle.model.specs.Network.{node_count}
use Rattle.model.specs.History.{view_of}
use Rattle.model.specs.Forwarding.{forwards}
use Rattle.mailman_core.proofs.listed.listed_for.Given as goal

abbrev pub invariant-loop-w : goal.invariant-loop-w
invariant-loop-w l =
    record {
      inside : AllByRecursion (λ (u : ℕ). u < node_count l.net) l.listed;
      same :
          filter (forwards l.net (view_of l.o) l.fn.me l.fn.to) (map Events l.listed)
          ≡ filter (forwards l.net (view_of l.o) l.fn.me l.fn.to) (map Events (below l.w));
    }
