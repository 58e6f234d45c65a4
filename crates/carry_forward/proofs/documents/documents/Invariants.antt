use Rattle.std.proofs.Common.{◌≡◌, map, take}
use Rattle.model.specs.NewPlan.{doc_of}
use Rattle.carry_forward.proofs.documents.documents.Given as goal

abbrev pub invariant-loop-stream : goal.invariant-loop-stream
invariant-loop-stream l =
    l.docs ≡ map (doc_of l.names.fresh l.names.earlier) (take l.stream-index l.fresh)
