use Rattle.std.proofs.Common.{◌+◌, ℕ, List, subst}
use Rattle.model.specs.Sizes.{list_size, seen_size, stream_doc_size}
use Rattle.model.specs.Types.{StreamDoc}
use Rattle.entry_checks.specs.Left.{Takes}
use Rattle.entry_checks.proofs.Takings.{takes_then}
use Rattle.entry_checks.proofs.entries.plan.Goals as goal

pub returns : goal.returns
returns c =
    takes_then c.args.left (4 + seen_size c.args.cut.now + list_size (λ (s : ℕ). 4) c.args.carried.now)
    (list_size stream_doc_size c.args.docs.now) c.in_ok-rest.rest c.stream_docs.result c.in_ok-rest.ensures
    (subst (λ (docs : List StreamDoc). Takes c.in_ok-rest.rest (list_size stream_doc_size docs) c.stream_docs.result)
    c.docs.ensures c.stream_docs.ensures)
