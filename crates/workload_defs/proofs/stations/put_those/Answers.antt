use Rattle.std.proofs.Common.{arith}
use Rattle.workload_defs.specs.Tables.{cpus_seen}
use Rattle.workload_defs.proofs.Puts.{those_more}
use Rattle.workload_defs.proofs.stations.put_those.Goals as goal

pub loop-cpu-preserved : goal.loop-cpu-preserved
loop-cpu-preserved c =
    those_more c.args.names.now c.args.masters c.args.cpus.now c.loop-cpu.cpu-index c.cpu-item.result _
    (cpus_seen c.loop-cpu.stations.items) (cpus_seen c.put_one.new.stations.items) (omega arith) c.cpu-item.is
    c.in_ok-put_one.ensures c.loop-cpu.invariant
