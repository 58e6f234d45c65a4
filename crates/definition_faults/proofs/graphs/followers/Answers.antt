use Rattle.definition_faults.specs.Graphs.{stream_objects}
use Rattle.definition_faults.proofs.Walks.{placed_lists_more}
use Rattle.definition_faults.proofs.graphs.followers.Goals as goal

pub loop-n-preserved : goal.loop-n-preserved
loop-n-preserved c =
    placed_lists_more (stream_objects c.args.names.now) c.as_slice-schedules.result.now c.loop-n.n
    c.index-schedules-n.result _ c.loop-n.objects.items c.put_stream.new.objects.items c.loop-n-test.true
    c.index-schedules-n.is c.in_ok-put_stream.ensures c.loop-n.invariant
