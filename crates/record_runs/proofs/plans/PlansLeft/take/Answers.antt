use Rattle.std.proofs.Common.{◌∙◌, ◌+◌, List, ap, drop}
use Rattle.model.specs.Types.{StreamDraft}
use Rattle.record_runs.proofs.Shifts.{others_left}
use Rattle.record_runs.proofs.plans.PlansLeft.take.Goals as goal

pub returns-clause-left : goal.returns-clause-left
returns-clause-left c =
    ap (λ (l : List (List StreamDraft)). drop (c.self.inside.taken + 1) l) c.taken_at.ensures.left
    ∙ (others_left c.self.inside.plans c.self.inside.taken c.new-empty.result
    ∙ ap (λ (l : List (List StreamDraft)). drop 1 l) c.self.view_is)
