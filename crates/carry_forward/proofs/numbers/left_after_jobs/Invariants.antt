use Rattle.std.proofs.Common.{◌≡◌, ◌+◌, ◌<◌, ◌^◌, drop}
use Rattle.model.specs.NewPlan.{jobs_in_drafts}
use Rattle.carry_forward.proofs.numbers.left_after_jobs.Given as goal

abbrev pub invariant-loop-draft : goal.invariant-loop-draft
invariant-loop-draft l =
    record {
      so_far : l.left + jobs_in_drafts l.drafts
          ≡ l.fn.most + jobs_in_drafts (drop l.draft-index l.drafts);
      fits : l.left < 2 ^ 32;
    }
