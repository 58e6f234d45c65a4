use Rattle.std.proofs.Common.{ℕ, ◌-◌, ◌≡◌, List, Option}
use Rattle.model.specs.Network.{node_count}
use Rattle.model.specs.Words.{numbers_from}
use Rattle.agent_core.specs.Nodes.{NodeState}
use Rattle.file_watch.specs.Asked.{Probe}
use Rattle.outside.specs.Calls.{SpawnerCalls}
use Rattle.node_inputs.specs.Actions.{Each}
use Rattle.node_inputs.specs.Inputs.{Raise, RaiseNew}
use Rattle.node_inputs.specs.Stepping.{TellNeighbours}
use Rattle.node_inputs.specs.Tellings.{told_by}
use Rattle.node_inputs.proofs.Doing.{CompletingOutside}
use Rattle.node_inputs.proofs.links.raise_new.Given as goal

abbrev pub invariant-loop-x : goal.invariant-loop-x
invariant-loop-x g l =
    (old : NodeState) (jobs : SpawnerCalls) (clock : Option (List ℕ)) (files : Option (List Probe))
    → TellNeighbours old l.before → node_count old.net ≡ node_count l.agent.net
    → CompletingOutside (Each (RaiseNew old l.agent) (numbers_from l.x (node_count l.agent.net - l.x))) (Raise old) l.agent l.agent
    (told_by (g.L.Link.calls l.link) jobs clock files) (told_by (g.L.Link.calls l.fn.link) jobs clock files)
