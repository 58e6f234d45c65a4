use Rattle.std.proofs.Common.{◌∙◌, sym}
use Rattle.std.specs.List.{list_any}
use Rattle.model.specs.Types.{Events}
use Rattle.model.specs.History.{list_of}
use Rattle.event_audit.specs.Times.{is_reading}
use Rattle.event_audit.proofs.Clock.{reading_found, reading_passed}
use Rattle.event_audit.proofs.times.has_reading.Goals as goal

pub returns-then-is_reading : goal.returns-then-is_reading
returns-then-is_reading c =
    reading_found (list_of c.args.owners.now (Events c.args.w)) c.loop-passed.passed c.in-Some.body.now
    (list_any is_reading (list_of c.args.owners.now (Events c.args.w))) (sym c.in-Some.ensures)
    (sym c.is_reading.ensures ∙ c.if-is_reading.true) c.loop-passed.invariant

pub loop-passed-preserved : goal.loop-passed-preserved
loop-passed-preserved c =
    reading_passed (list_of c.args.owners.now (Events c.args.w)) c.loop-passed.passed c.in-Some.body.now
    (list_any is_reading (list_of c.args.owners.now (Events c.args.w))) (sym c.in-Some.ensures)
    (sym c.is_reading.ensures ∙ c.if-is_reading.false) c.loop-passed.invariant
