use Rattle.std.proofs.Common.{◌≡◌, ◌+◌, ◌-◌}
use Rattle.model.specs.Network.{chain, climb, node_count}
use Rattle.model.specs.Words.{last_or}
use Rattle.network_tree.proofs.hops.ends_at_master.Given as goal

abbrev pub invariant-loop-step : goal.invariant-loop-step
invariant-loop-step l =
    last_or l.fn.w (chain l.net l.fn.w) ≡ last_or l.last (climb l.net (node_count l.net + 1 - l._step) l.last)
