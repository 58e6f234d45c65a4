use Rattle.std.proofs.Common.{◌≡◌, filter_map, take}
use Rattle.model.specs.NewPlan.{resolve_dep}
use Rattle.carry_forward.proofs.documents.dependencies.Given as goal

abbrev pub invariant-loop-draft : goal.invariant-loop-draft
invariant-loop-draft l =
    l.deps ≡ filter_map (resolve_dep l.names.fresh l.names.earlier) (take l.draft-index l.drafts)
