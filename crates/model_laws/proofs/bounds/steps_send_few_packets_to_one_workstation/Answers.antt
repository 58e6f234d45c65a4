use Rattle.model_laws.proofs.Lanes.{step_sends_to}
use Rattle.model_laws.proofs.bounds.steps_send_few_packets_to_one_workstation.Goals as goal

pub returns : goal.returns
returns c = λ net V me s input d e to. step_sends_to net V me s input d e to
