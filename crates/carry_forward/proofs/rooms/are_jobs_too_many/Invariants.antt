use Rattle.std.proofs.Common.{◌≡◌, ◌+◌, filter, length}
use Rattle.model.specs.Words.{has}
use Rattle.model.specs.History.{view_of}
use Rattle.model.specs.Catalogue.{StreamJob, jobs}
use Rattle.model.specs.NewPlan.{jobs_in_drafts}
use Rattle.owner_fold.specs.Left.{jobs_left}
use Rattle.carry_forward.proofs.rooms.are_jobs_too_many.Given as goal

abbrev pub invariant-loop-parent : goal.invariant-loop-parent
invariant-loop-parent l =
    l.left + length (filter (λ (p : StreamJob). has l.earlier p.parent.no) (jobs (view_of l.o)))
    + jobs_in_drafts l.drafts
    ≡ 16384 + length (filter (λ (p : StreamJob). has l.earlier p.parent.no) (jobs_left l.parent-iterator))
