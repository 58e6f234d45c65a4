use Rattle.std.proofs.Common.{◌≡◌, take}
use Rattle.model.specs.Sessions.{without_job}
use Rattle.agent_core.proofs.processes.without.Given as goal

abbrev pub invariant-loop-launch : goal.invariant-loop-launch
invariant-loop-launch l = l.others ≡ without_job l.fn.j (take l.launch-index l.launch-items)
