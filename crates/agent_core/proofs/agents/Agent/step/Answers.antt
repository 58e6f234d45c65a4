use Rattle.agent_core.proofs.Splitting.{told_kept, told_me, told_net, told_refused, told_same, told_taken}
use Rattle.agent_core.proofs.agents.Agent.step.Goals as goal

pub returns : goal.returns
returns c =
    let old = c.args.self.now in
    let mid = c.renew.new.self in
    let new = c.step_whole.new.self in
    let r = c.step_whole.result in
    let e = c.renew.ensures in
    let h = c.step_whole.ensures in
    record {
      taken = told_taken old mid new c.args.input.now r e h;
      kept = told_kept old mid new c.args.input.now r e h;
      refused = told_refused old mid new c.args.input.now r e h;
      err = told_same old mid new c.args.input.now r e h;
      net = told_net old mid new c.args.input.now r e h;
      me = told_me old mid new c.args.input.now r e h;
    }
