use Rattle.std.proofs.Common.{◌≡◌, drop, flat_map}
use Rattle.std.specs.List.{list_any}
use Rattle.model.specs.Types.{Events}
use Rattle.model.specs.History.{list_of}
use Rattle.model.specs.Dependencies.{deps_added_by}
use Rattle.model.specs.Facts.{commands}
use Rattle.owner_fold.specs.Given.{adds, is_of}
use Rattle.owner_fold.proofs.given.any_added.Given as goal

abbrev pub invariant-loop-i : goal.invariant-loop-i
invariant-loop-i l =
    list_any (adds (is_of l.kind) l.o) (commands (list_of l.kept (Events l.fn.w)))
    ≡ list_any (is_of l.kind) (drop l.i (flat_map (deps_added_by l.o) (commands (list_of l.kept (Events l.fn.w)))))
