use Rattle.std.proofs.Common.{drop}
use Rattle.event_audit.proofs.Running.{JobsGoOn}
use Rattle.event_audit.proofs.numbers.jobs_go_on.Given as goal

abbrev pub invariant-loop-doc : goal.invariant-loop-doc
invariant-loop-doc l =
    record {
      forth : JobsGoOn l.fn.last l.docs → JobsGoOn l.last (drop l.doc-index l.docs);
      back : JobsGoOn l.last (drop l.doc-index l.docs) → JobsGoOn l.fn.last l.docs;
    }
