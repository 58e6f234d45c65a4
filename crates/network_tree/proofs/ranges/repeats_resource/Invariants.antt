use Rattle.network_tree.proofs.Keys.{Seen, are_one_key, key_of, resource_key}
use Rattle.network_tree.proofs.ranges.repeats_resource.Given as goal

abbrev pub invariant-loop-resource : goal.invariant-loop-resource
invariant-loop-resource l = Seen key_of resource_key are_one_key l.seen.keys l.resources l.resource-index
