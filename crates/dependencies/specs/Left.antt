-- What the walk over the dependencies of an object has still to give.
use Rattle.std.specs.Prelude.{ℕ, ◌+◌, List, drop, filter, not}
use Rattle.model.specs.Types.{Dep}
use Rattle.model.specs.History.{view_of}
use Rattle.model.specs.Dependencies.{NumberedDep, deps, is_waived, numbered_deps}
use Rattle.dependencies.specs.declared.walks.UnwaivedDeps.{UnwaivedDeps}

-- a dependency with its number
abbrev pub numbered : ℕ → Dep → NumberedDep
numbered n d = record { number = n; dep = d }

-- the dependencies that are left and not waived
abbrev pub deps_left : UnwaivedDeps → List NumberedDep
deps_left it =
    let V = view_of it.owners.now in
    filter (λ (p : NumberedDep). not (is_waived V it.obj p.number))
    (numbered_deps (it.passed + 1) (drop it.passed (deps V it.obj)))
