use Rattle.std.proofs.Common.{◌≡◌, filter, take}
use Rattle.model.specs.History.{view_of}
use Rattle.model.specs.NewPlan.{is_carried}
use Rattle.carry_forward.proofs.carried_streams.carried_streams.Given as goal

abbrev pub invariant-loop-s : goal.invariant-loop-s
invariant-loop-s l = l.carried ≡ filter (is_carried l.net (view_of l.o)) (take l.s-index l.s-items)
