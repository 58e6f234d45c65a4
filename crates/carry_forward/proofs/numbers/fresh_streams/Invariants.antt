use Rattle.std.proofs.Common.{◌≡◌, ◌+◌, ◌++◌, ◌≤◌, ◌^◌, drop, length}
use Rattle.model.specs.NewPlan.{fresh_from, jobs_in_drafts}
use Rattle.carry_forward.proofs.numbers.fresh_streams.Given as goal

abbrev pub invariant-loop-draft : goal.invariant-loop-draft
invariant-loop-draft l =
    record {
      so_far : l.fresh ++ fresh_from l.number l.first_job (drop l.draft-index l.drafts)
          ≡ fresh_from (1 + l.fn.last_stream) (1 + l.fn.last_job) l.drafts;
      streams : l.number + length (drop l.draft-index l.drafts) ≤ 2 ^ 32;
      jobs : l.first_job + jobs_in_drafts (drop l.draft-index l.drafts) ≤ 2 ^ 32;
    }
