use Rattle.std.proofs.Common.{◌≡◌, ◌++◌, drop, flat_map}
use Rattle.model.specs.History.{view_of}
use Rattle.waiting_lines.specs.Lines.{lack_line}
use Rattle.waiting_lines.proofs.lines.write_lacks.Given as goal

abbrev pub invariant-loop-lack : goal.invariant-loop-lack
invariant-loop-lack l =
    l.initial.out.items ++ flat_map (lack_line l.net (view_of l.o) l.obj) l.lacks
    ≡ l.out.items ++ flat_map (lack_line l.net (view_of l.o) l.obj) (drop l.lack-index l.lacks)
