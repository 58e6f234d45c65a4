use Rattle.std.proofs.Common.{Bor, subst, sym}
use Rattle.composer_parser.specs.declared.CpuDef.{CpuDef}
use Rattle.workload_defs.specs.Nets.{HasPort, peer_of}
use Rattle.workload_defs.proofs.Puts.{fits_at, numbered_more}
use Rattle.workload_defs.proofs.nets.peers_of.Goals as goal

pub loop-i-preserved : goal.loop-i-preserved
loop-i-preserved c =
    λ fit.
    let seen = λ (r : Bor CpuDef). r.now in
    let port : HasPort c.index-stations-i.result.now =
    subst (λ (r : Bor CpuDef). HasPort r.now) (sym c.index-stations-i.is)
    (fits_at seen HasPort c.args.stations.now c.loop-i.i c.index-stations-i.result c.loop-i-test.true fit) in
    numbered_more peer_of seen c.args.stations.now c.loop-i.i c.index-stations-i.result c.loop-i.peers c.push.new.self _
    c.loop-i-test.true c.index-stations-i.is c.in_ok-push.ensures.ok
    (λ j. record { ws = c.loop-i.i; host = c.in_ok-copy.ensures j; port = c.port_of.ensures port j })
    (c.loop-i.invariant fit)
