use Rattle.std.proofs.Common.{◌≡◌, ◌+◌, drop}
use Rattle.std.specs.Prelude.{sum_by}
use Rattle.model.specs.Sizes.{stream_doc_size}
use Rattle.entry_checks.proofs.documents.stream_docs.Given as goal

abbrev pub invariant-loop-item : goal.invariant-loop-item
invariant-loop-item l =
    l.rest + 4 + sum_by stream_doc_size l.docs ≡ l.left + sum_by stream_doc_size (drop l.item-index l.item-items)
