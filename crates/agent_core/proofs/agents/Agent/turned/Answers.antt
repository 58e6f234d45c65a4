use Rattle.std.proofs.Common.{Err, refl}
use Rattle.agent_core.proofs.Splitting.{as_old}
use Rattle.agent_core.proofs.Turning.{no_body, turn}
use Rattle.agent_core.proofs.agents.Agent.turned.Goals as goal

pub returns-in-Ok : goal.returns-in-Ok
returns-in-Ok c =
    as_old c.args.self.now c.list_feeds.new.self c.turn_by.new.self (turn c.args.t) c.turn_by.result
    c.list_feeds.ensures c.turn_by.ensures

pub returns-in-Err : goal.returns-in-Err
returns-in-Err c =
    as_old c.args.self.now c.list_feeds.new.self c.list_feeds.new.self (turn c.args.t) (Err c.in-Err.fault)
    c.list_feeds.ensures (no_body c.list_feeds.new.self c.args.t c.in-Err.fault c.in-Err.ensures, refl)
