use Rattle.std.proofs.Common.{◌≡◌, ◌++◌, drop, flat_map}
use Rattle.std.specs.Option.{option_copied}
use Rattle.model.specs.History.{view_of}
use Rattle.model.specs.Types.{JobDoc}
use Rattle.waiting_lines.specs.Answers.{numbered_job_answer}
use Rattle.waiting_lines.proofs.answers.write_jobs.Given as goal

abbrev pub invariant-loop-job : goal.invariant-loop-job
invariant-loop-job l =
    l.initial.out.items
    ++ flat_map (λ (j : JobDoc). numbered_job_answer l.net (view_of l.o) l.w l.next (option_copied l.pattern) j.no)
    l.jobs
    ≡ l.out.items
    ++ flat_map (λ (j : JobDoc). numbered_job_answer l.net (view_of l.o) l.w l.next (option_copied l.pattern) j.no)
    (drop l.job-index l.jobs)
