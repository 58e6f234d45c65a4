use Rattle.std.proofs.Common.{◌+◌, ◌≡◌, drop}
use Rattle.event_audit.specs.Numbers.{GoOnFrom}
use Rattle.event_audit.proofs.numbers.last_after.Given as goal

abbrev pub invariant-loop-job : goal.invariant-loop-job
invariant-loop-job l =
    record {
      forth : GoOnFrom l.fn.last l.jobs → GoOnFrom l.last (drop l.job-index l.jobs);
      back : GoOnFrom l.last (drop l.job-index l.jobs) → GoOnFrom l.fn.last l.jobs;
      here : l.last ≡ l.fn.last + l.job-index;
    }
