use Rattle.std.proofs.Common.{◌∙◌, ◌+◌, drop}
use Rattle.std.proofs.lemmas.List.{drop_all}
use Rattle.record_runs.specs.Runs.{take_line}
use Rattle.record_runs.specs.Taken.{StopsIn}
use Rattle.record_runs.proofs.Nights.{all_taken, as_far_as, goes_further, no_end, rest_is, stop_told, stops_here}
use Rattle.record_runs.proofs.runs.take_lines.Goals as goal

pub loop-line-preserved : goal.loop-line-preserved
loop-line-preserved g c =
    record {
      same = c.in-Ok.ensures.net ∙ c.loop-line.invariant.same;
      far = λ day is.
          goes_further c.args.world.now day c.args.world.now.net c.args.plans.now c.args.lines.now c.loop-line.world
          c.take_any_line.new.world c.loop-line.plans c.take_any_line.new.plans c.line-item.result
          (drop (c.loop-line.line-index + 1) c.args.lines.now) c.loop-line.invariant.same
          (as_far_as c.args.world.now day c.args.world.now.net c.args.plans.now c.args.lines.now c.loop-line.world
          c.loop-line.plans _ _
          (rest_is c.args.lines.now c.loop-line.line-index c.line-item.result c.loop-line-test.true c.line-item.is)
          (c.loop-line.invariant.far day is))
          (c.in-Ok.ensures.taken day is) c.in-Ok.ensures.left;
    }

pub returns-in-Err-clause-net : goal.returns-in-Err-clause-net
returns-in-Err-clause-net g c =
    no_end c.line-item.result.line c.in-Err.halt c.stopped_in.result _ c.stopped_in.ensures

pub returns-in-Err-clause-all : goal.returns-in-Err-clause-all
returns-in-Err-clause-all g c = λ day is.
    no_end c.line-item.result.line c.in-Err.halt c.stopped_in.result _ c.stopped_in.ensures

pub returns-in-Err-clause-stopped : goal.returns-in-Err-clause-stopped
returns-in-Err-clause-stopped g c = λ day is.
    stop_told c.loop-line.world
    (take_line day c.loop-line.world.net c.loop-line.plans c.line-item.result.form) c.line-item.result.line c.in-Err.halt
    c.stopped_in.result
    (StopsIn c.args.world.now day c.args.world.now.net c.args.plans.now c.args.lines.now) c.stopped_in.ensures
    (c.in-Err.ensures.stopped day is)
    (λ stop.
    stops_here c.args.world.now day c.args.world.now.net c.args.plans.now c.args.lines.now c.loop-line.world
    c.loop-line.plans c.line-item.result (drop (c.loop-line.line-index + 1) c.args.lines.now) stop
    c.loop-line.invariant.same
    (as_far_as c.args.world.now day c.args.world.now.net c.args.plans.now c.args.lines.now c.loop-line.world
    c.loop-line.plans _ _
    (rest_is c.args.lines.now c.loop-line.line-index c.line-item.result c.loop-line-test.true c.line-item.is)
    (c.loop-line.invariant.far day is)))

pub returns-clause-all : goal.returns-clause-all
returns-clause-all g c = λ day is e.
    all_taken c.args.world.now day c.args.world.now.net c.args.plans.now c.args.lines.now c.loop-line.world
    c.loop-line.plans (drop c.loop-line.line-index c.args.lines.now)
    (drop_all c.loop-line.line-index c.args.lines.now c.loop-line-test.false) (c.loop-line.invariant.far day is)
