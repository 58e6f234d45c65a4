use Rattle.model.specs.History.{view_of}
use Rattle.batchman_core.proofs.Times.{due_by_jobs, due_by_streams}
use Rattle.batchman_core.proofs.clocks.is_clock_due.Goals as goal

pub returns-then-is_time_of_streams_reached : goal.returns-then-is_time_of_streams_reached
returns-then-is_time_of_streams_reached c =
    due_by_streams (view_of c.args.o.now) c.args.me c.args.t c.now-now.result c.is_time_of_streams_reached.result
    c.now-now.ensures c.is_time_of_streams_reached.ensures c.if-is_time_of_streams_reached.true

pub returns-else-is_time_of_streams_reached : goal.returns-else-is_time_of_streams_reached
returns-else-is_time_of_streams_reached c =
    due_by_jobs (view_of c.args.o.now) c.args.me c.args.t c.now-now.result c.is_time_of_streams_reached.result
    c.is_time_of_jobs_reached.result c.now-now.ensures c.is_time_of_streams_reached.ensures c.if-is_time_of_streams_reached.false
    c.is_time_of_jobs_reached.ensures
