use Rattle.std.proofs.Common.{◌∙◌, ap, sym}
use Rattle.model.specs.History.{view_of}
use Rattle.event_audit.specs.Drafts.{gives}
use Rattle.event_audit.proofs.draft_deps.resolved.Goals as goal

pub returns-in-Plain : goal.returns-in-Plain
returns-in-Plain c =
    c.plain.ensures (view_of c.args.owners.now) c.args.draft.now
    ∙ ap (gives (view_of c.args.owners.now) c.args.draft.now) (sym c.in-Plain.is)
