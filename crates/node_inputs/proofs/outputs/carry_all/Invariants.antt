use Rattle.std.proofs.Common.{ℕ, List, Option, drop}
use Rattle.file_watch.specs.Asked.{Probe}
use Rattle.node_inputs.specs.Actions.{Each}
use Rattle.node_inputs.specs.Inputs.{Carry, CarryOut, carried_with, nothing_carried}
use Rattle.node_inputs.specs.Stepping.{TellLost}
use Rattle.node_inputs.specs.Tellings.{told_by}
use Rattle.node_inputs.proofs.Doing.{CompletingOutside}
use Rattle.node_inputs.proofs.outputs.carry_all.Given as goal

abbrev pub invariant-loop-out : goal.invariant-loop-out
invariant-loop-out g l =
    (clock : Option (List ℕ)) (files : Option (List Probe))
    → (lost : List ℕ) × TellLost l.carried.lost lost
    × CompletingOutside (Each (CarryOut l.agent) (drop l.out-index l.outs)) (Carry l.agent l.outs) (carried_with lost l.carried.started) nothing_carried
    (told_by (g.L.Link.calls l.link) (g.J.Spawner.calls l.jobs) clock files) (told_by (g.L.Link.calls l.fn.link) (g.J.Spawner.calls l.fn.jobs) clock files)
