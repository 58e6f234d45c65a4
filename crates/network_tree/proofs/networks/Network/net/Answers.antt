use Rattle.std.proofs.Common.{subst}
use Rattle.model.specs.Network.{IsTree}
use Rattle.network_tree.proofs.Trees.{tree}
use Rattle.network_tree.proofs.networks.Network.net.Goals as goal

pub returns-clause-tree : goal.returns-clause-tree
returns-clause-tree c = subst IsTree c.self.view_is (tree c.self.inside.net.value c.self.invariant.0)
