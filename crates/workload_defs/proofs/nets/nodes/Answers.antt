use Rattle.std.proofs.Common.{Bor}
use Rattle.composer_parser.specs.declared.CpuDef.{CpuDef}
use Rattle.workload_defs.specs.Nets.{node_of}
use Rattle.workload_defs.proofs.Puts.{made_more}
use Rattle.workload_defs.proofs.nets.nodes.Goals as goal

pub loop-cpu-preserved : goal.loop-cpu-preserved
loop-cpu-preserved c =
    made_more (λ (r : Bor CpuDef). r.now) (node_of c.args.names.now) c.args.stations.now c.loop-cpu.cpu-index c.cpu-item.result
    c.loop-cpu.nodes c.push.new.self c.in_ok-node_of.field-0 c.loop-cpu-test.true c.cpu-item.is c.in_ok-push.ensures.ok
    c.in_ok-node_of.ensures c.loop-cpu.invariant
