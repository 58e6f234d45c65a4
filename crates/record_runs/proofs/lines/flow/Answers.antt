use Rattle.std.proofs.Common.{◌+◌, map}
use Rattle.model.specs.Types.{Deliver}
use Rattle.record_runs.specs.Lines.{undelivered}
use Rattle.record_runs.proofs.Tables.{both_inside, flow_ends, flow_next, flowing, handed_on}
use Rattle.record_runs.proofs.Ways.{arrives, breaks_off, goes_on, same_way}
use Rattle.record_runs.proofs.lines.flow.Goals as goal

pub take_step-requires : goal.take_step-requires
take_step-requires c =
    both_inside c.args.world.now.net c.loop-k.world c.args.a c.args.b c.loop-k.invariant.net_ c.requires.from c.requires.to

pub returns-in_err-take_step-clause-stopped : goal.returns-in_err-take_step-clause-stopped
returns-in_err-take_step-clause-stopped c =
    handed_on _ c.in_err-take_step.field-0.0 c.from_residual.result c.from_residual.ensures.1
    (breaks_off c.args.world.now (λ x. map (λ k. Deliver c.args.a c.args.b k) (undelivered x c.args.a c.args.b))
    c.loop-k.world (Deliver c.args.a c.args.b (c.loop-k.k + 1))
    (flowing c.args.a c.args.b c.packets-sent.result (c.loop-k.k + 1)) c.in_err-take_step.field-0.0
    (same_way _ _ _ _ _ (flow_next c.args.a c.args.b c.packets-sent.result c.loop-k.k c.loop-k-test.true)
    c.loop-k.invariant) c.in_err-take_step.ensures.stopped)

pub loop-k-preserved : goal.loop-k-preserved
loop-k-preserved c =
    goes_on c.args.world.now (λ x. map (λ k. Deliver c.args.a c.args.b k) (undelivered x c.args.a c.args.b))
    c.loop-k.world c.take_step.new.world (Deliver c.args.a c.args.b (c.loop-k.k + 1))
    (flowing c.args.a c.args.b c.packets-sent.result (c.loop-k.k + 1))
    (same_way _ _ _ _ _ (flow_next c.args.a c.args.b c.packets-sent.result c.loop-k.k c.loop-k-test.true)
    c.loop-k.invariant) c.in_ok-take_step.ensures.taken

pub returns-clause-taken : goal.returns-clause-taken
returns-clause-taken c =
    arrives c.args.world.now (λ x. map (λ k. Deliver c.args.a c.args.b k) (undelivered x c.args.a c.args.b))
    c.loop-k.world
    (same_way _ _ _ _ _ (flow_ends c.args.a c.args.b c.packets-sent.result c.loop-k.k c.loop-k-test.false)
    c.loop-k.invariant)
