use Rattle.std.proofs.Common.{sym, subst}
use Rattle.std.specs.Bool.{Decides}
use Rattle.model_laws.proofs.Orders.{document_is}
use Rattle.model.specs.Types.{Cmd}
use Rattle.model.specs.History.{view_of}
use Rattle.model.specs.Sound.{IsDocumentOf, IsSubmit}
use Rattle.event_audit.proofs.additions.is_submit_of.Goals as goal

pub returns-in-Submit : goal.returns-in-Submit
returns-in-Submit c =
    subst (λ (d : Cmd). Decides c.is_document_of.result (IsSubmit c.args.owners.now c.args.doc.now d))
    (sym c.in-Submit.is) (
      λ t. document_is (view_of c.args.owners.now) c.in-Submit.draft c.args.doc.now (c.is_document_of.ensures.0 t),
      λ (h : IsDocumentOf (view_of c.args.owners.now) c.in-Submit.draft c.args.doc.now).
          c.is_document_of.ensures.1 h.is_it,
    )
