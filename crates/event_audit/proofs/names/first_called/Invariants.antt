use Rattle.std.proofs.Common.{◌≡◌, drop, find}
use Rattle.event_audit.specs.Meanings.{is_called}
use Rattle.event_audit.proofs.names.first_called.Given as goal

abbrev pub invariant-loop-doc : goal.invariant-loop-doc
invariant-loop-doc l =
    find (is_called l.fn.ws l.name) l.docs ≡ find (is_called l.fn.ws l.name) (drop l.doc-index l.docs)
