use Rattle.std.proofs.Common.{[], filter_map, map, take}
use Rattle.model.specs.History.{view_of}
use Rattle.model.specs.Catalogue.{stream}
use Rattle.model.specs.NewPlan.{named_doc}
use Rattle.carry_forward.specs.Known.{IsIndexOf}
use Rattle.carry_forward.proofs.names.earlier_names.Given as goal

abbrev pub invariant-loop-s : goal.invariant-loop-s
invariant-loop-s l =
    IsIndexOf l.names.entries [] (map named_doc (filter_map (stream (view_of l.o)) (take l.s-index l.earlier)))
