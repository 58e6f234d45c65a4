use Rattle.std.proofs.Common.{◌∙◌, arith}
use Rattle.network_world.proofs.Beginning.{stations_begin, stations_next}
use Rattle.network_world.proofs.worlds.new_stations.Goals as goal

pub loop-w-init : goal.loop-w-init
loop-w-init c = stations_begin c.args.net.now c.new-stations.result c.new-stations.ensures

pub new-requires : goal.new-requires
new-requires c = omega (arith, c.loop-w-test.true, c.count-w-end.ensures.value)

pub loop-w-preserved : goal.loop-w-preserved
loop-w-preserved c =
    stations_next c.args.net.now c.loop-w.w c.loop-w.stations c.push.new.self c.in_ok-new.field-0
    c.loop-w.invariant.0 c.loop-w.invariant.1 c.in_ok-new.ensures c.in_ok-push.ensures.ok

pub returns : goal.returns
returns c =
    record {
      count = c.loop-w.invariant.0 ∙ omega (arith, c.loop-w-test.false, c.count-w-end.ensures.value);
      each = c.loop-w.invariant.1;
    }
