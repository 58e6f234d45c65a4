use Rattle.std.proofs.Common.{ap, arith, ◌≡◌, ◌∙◌}
use Rattle.model.specs.Network.{node_count}
use Rattle.network_tree.proofs.Trees.{few}
use Rattle.network_tree.proofs.networks.Network.count.Goals as goal

pub overflow_cast-result : goal.overflow_cast-result
overflow_cast-result c =
    let count : c.len.result ≡ node_count c.args.self.now = c.len.ensures ∙ ap node_count c.net.ensures.value in
    omega (arith, count, (few c.args.self.now c.net.ensures.faultless).1)

pub returns-clause-some : goal.returns-clause-some
returns-clause-some c =
    let count : c.len.result ≡ node_count c.args.self.now = c.len.ensures ∙ ap node_count c.net.ensures.value in
    omega (arith, count, (few c.args.self.now c.net.ensures.faultless).0)

pub returns-clause-few : goal.returns-clause-few
returns-clause-few c =
    let count : c.len.result ≡ node_count c.args.self.now = c.len.ensures ∙ ap node_count c.net.ensures.value in
    omega (arith, count, (few c.args.self.now c.net.ensures.faultless).1)
