use Rattle.std.proofs.Common.{◌∙◌, sym}
use Rattle.model.specs.History.{view_of}
use Rattle.event_audit.proofs.Named.{stream_none, stream_some}
use Rattle.event_audit.proofs.draft_names.followed_stream.Goals as goal

pub returns-in-None : goal.returns-in-None
returns-in-None c =
    stream_none (view_of c.args.owners.now) c.args.draft.now c.args.ws c.args.name.now
    (sym c.is_itself.ensures ∙ c.if-is_itself.false) c.in-None.ensures

pub returns-in-Some : goal.returns-in-Some
returns-in-Some c =
    stream_some (view_of c.args.owners.now) c.args.draft.now c.args.ws c.args.name.now c.in-Some.doc.now
    c.stream_number.result (sym c.is_itself.ensures ∙ c.if-is_itself.false) c.in-Some.ensures c.stream_number.ensures
