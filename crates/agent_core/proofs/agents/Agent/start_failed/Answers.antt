use Rattle.std.proofs.Common.{◌∙◌, ap, refl}
use Rattle.model.specs.Sessions.{without_job}
use Rattle.agent_core.proofs.OwnEntries.{fail_step}
use Rattle.agent_core.proofs.agents.Agent.start_failed.Goals as goal

pub returns-in-Err : goal.returns-in-Err
returns-in-Err c = (c.in-Err.ensures, refl)

pub keep-requires : goal.keep-requires
keep-requires c = c.in-Ok.ensures.next

pub returns : goal.returns
returns c =
    fail_step c.args.self.now c.keep.new.self c.args.j c.in-Ok.entry c.in_ok-live.live c.keep.result
    (c.in_ok-live.ensures ∙ ap (without_job c.args.j) c.live.ensures) c.in-Ok.ensures c.keep.ensures
