use Rattle.std.proofs.Common.{◌≡◌, ◌+◌, drop}
use Rattle.std.specs.Prelude.{filter, not}
use Rattle.model.specs.History.{view_of}
use Rattle.model.specs.Dependencies.{NumberedDep, deps, is_waived, numbered_deps}
use Rattle.dependencies.specs.Left.{deps_left}
use Rattle.dependencies.proofs.walks.UnwaivedDepsIterator.next.Given as goal

abbrev pub invariant-loop-passed : goal.invariant-loop-passed
invariant-loop-passed l =
    record {
      still : l.self ≡ l.initial.self;
      left : deps_left l.self
          ≡ filter (λ (p : NumberedDep). not (is_waived (view_of l.owners) l.self.obj p.number))
          (numbered_deps (l.passed + 1) (drop l.passed (deps (view_of l.owners) l.self.obj)));
    }
