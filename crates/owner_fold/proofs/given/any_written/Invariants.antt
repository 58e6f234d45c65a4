use Rattle.std.proofs.Common.{◌≡◌, drop}
use Rattle.std.specs.List.{list_any}
use Rattle.owner_fold.specs.Given.{is_of}
use Rattle.owner_fold.proofs.given.any_written.Given as goal

abbrev pub invariant-loop-dep : goal.invariant-loop-dep
invariant-loop-dep l = list_any (is_of l.kind) l.deps ≡ list_any (is_of l.kind) (drop l.dep-index l.deps)
