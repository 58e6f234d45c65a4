use Rattle.std.proofs.Common.{arith}
use Rattle.model_laws.proofs.Numbers.{map_below_more}
use Rattle.network_tree.specs.Ways.{row}
use Rattle.network_tree.proofs.Trees.{few}
use Rattle.network_tree.proofs.rows.table.Goals as goal

pub overflow_cast-b-end : goal.overflow_cast-b-end
overflow_cast-b-end c = omega (arith, (few c.args.net.now c.requires).1)

pub loop-b-preserved : goal.loop-b-preserved
loop-b-preserved c =
    let more = map_below_more (row c.args.net.now) c.loop-b.b in
    let pushed = c.in_ok-push.ensures.ok in
    let made = c.in_ok-row.ensures in
    cc
