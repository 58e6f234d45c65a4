use Rattle.std.proofs.Common.{◌∙◌, ap, map}
use Rattle.model.specs.History.{view_of}
use Rattle.model.specs.NewPlan.{named_fresh}
use Rattle.carry_forward.proofs.Causes.{documents_so}
use Rattle.carry_forward.proofs.plans.fresh_documents.Goals as goal

pub returns : goal.returns
returns c =
    documents_so (view_of c.args.o.now) c.args.earlier.now c.args.drafts.now c.last_stream.result c.last_job.result
    c.in_ok-fresh.fresh c.as_slice-2.result.now c.in_ok-names.names.fresh c.in_ok-names.names.earlier
    c.documents.result c.last_stream.ensures c.last_job.ensures c.in_ok-fresh.ensures c.as_slice-2.ensures
    (c.in_ok-names.ensures.fresh ∙ ap (map named_fresh) c.as_slice.ensures) c.in_ok-names.ensures.earlier
    c.documents.ensures
