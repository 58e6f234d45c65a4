use Rattle.std.proofs.Common.{◌≡◌, drop}
use Rattle.std.specs.List.{list_any}
use Rattle.model.specs.Versions.{is_draft_deadline}
use Rattle.entry_codec.proofs.versions.any_draft_deadline.Given as goal

abbrev pub invariant-loop-dep : goal.invariant-loop-dep
invariant-loop-dep l =
    list_any is_draft_deadline l.deps
    ≡ list_any is_draft_deadline (drop l.dep-index l.deps)
