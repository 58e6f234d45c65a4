use Rattle.std.proofs.Common.{◌≡◌, drop}
use Rattle.std.specs.List.{list_any}
use Rattle.model.specs.Versions.{doc_has_deadline}
use Rattle.entry_codec.proofs.versions.any_has_deadline.Given as goal

abbrev pub invariant-loop-doc : goal.invariant-loop-doc
invariant-loop-doc l =
    list_any doc_has_deadline l.docs
    ≡ list_any doc_has_deadline (drop l.doc-index l.docs)
