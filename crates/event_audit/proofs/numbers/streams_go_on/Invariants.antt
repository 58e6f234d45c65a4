use Rattle.std.proofs.Common.{drop}
use Rattle.event_audit.proofs.Running.{StreamsGoOn}
use Rattle.event_audit.proofs.numbers.streams_go_on.Given as goal

abbrev pub invariant-loop-doc : goal.invariant-loop-doc
invariant-loop-doc l =
    record {
      forth : StreamsGoOn l.fn.last l.docs → StreamsGoOn l.last (drop l.doc-index l.docs);
      back : StreamsGoOn l.last (drop l.doc-index l.docs) → StreamsGoOn l.fn.last l.docs;
    }
