use Rattle.std.proofs.Common.{◌∙◌, Some, ap, sym}
use Rattle.std.proofs.lemmas.Option.{slice_get-get_or}
use Rattle.counted_decisions.specs.Sights.{seen_in}
use Rattle.event_audit.proofs.Taken.{not_the_taken, taken_further, told_apart, told_same}
use Rattle.event_audit.proofs.carried_streams.are_the_taken.Goals as goal

pub returns-then-has-is_carried : goal.returns-then-has-is_carried
returns-then-has-is_carried c = (
  λ f. cc,
  λ h. absurd
      (not_the_taken c.args.net.now (seen_in c.args.sight.now) c.args.carried.now c.args.members.now
      c.loop-s.s-index c.s-item.result
      (slice_get-get_or c.args.members.now c.loop-s.s-index c.s-item.result c.loop-s-test.true
      ∙ ap Some (sym c.s-item.is))
      (λ e. told_apart c.has.result c.is_carried.result c.if-has-is_carried.true
      (c.has.ensures ∙ e ∙ sym c.is_carried.ensures)) h),
)

pub loop-s-preserved : goal.loop-s-preserved
loop-s-preserved c =
    taken_further c.args.net.now (seen_in c.args.sight.now) c.args.carried.now c.args.members.now c.loop-s.s-index
    c.s-item.result
    (slice_get-get_or c.args.members.now c.loop-s.s-index c.s-item.result c.loop-s-test.true
    ∙ ap Some (sym c.s-item.is))
    (sym c.has.ensures ∙ told_same c.has.result c.is_carried.result c.if-has-is_carried.false ∙ c.is_carried.ensures)
    c.loop-s.invariant
