use Rattle.std.proofs.Common.{arith, unwrap_or}
use Rattle.model_laws.proofs.Numbers.{map_below_more}
use Rattle.model.specs.Network.{hop}
use Rattle.network_tree.proofs.Trees.{few}
use Rattle.network_tree.proofs.rows.own_hops.Goals as goal

pub overflow_cast-w-end : goal.overflow_cast-w-end
overflow_cast-w-end c = omega (arith, (few c.args.net.now c.requires).1)

pub loop-w-preserved : goal.loop-w-preserved
loop-w-preserved c =
    let more = map_below_more (λ w. unwrap_or (hop c.args.net.now w) w) c.loop-w.w in
    let pushed = c.in_ok-push.ensures.ok in
    cc
