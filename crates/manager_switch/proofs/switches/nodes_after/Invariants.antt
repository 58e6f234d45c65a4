use Rattle.std.proofs.Common.{◌≡◌, ℕ, drop, length, map}
use Rattle.std.specs.List.{enumerate_from}
use Rattle.std.specs.Prelude.{◌++◌}
use Rattle.model.specs.Types.{Node}
use Rattle.model.specs.PresentNet.{node_after}
use Rattle.manager_switch.proofs.switches.nodes_after.Given as goal

abbrev pub invariant-loop-node : goal.invariant-loop-node
invariant-loop-node l =
    record {
      placed : length l.after ≡ l.node-index;
      told :
          l.after
          ++ map (λ (p : ℕ × Node). node_after l.switch.to l.switch.from l.switch.up p.0 p.1)
          (enumerate_from l.node-index (drop l.node-index l.node-items))
          ≡ map (λ (p : ℕ × Node). node_after l.switch.to l.switch.from l.switch.up p.0 p.1)
          (enumerate_from 0 l.nodes);
    }
