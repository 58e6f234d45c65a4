use Rattle.std.proofs.Common.{◌≡◌, drop, take}
use Rattle.model.specs.Restore.{first_wrong, first_wrong_from}
use Rattle.agent_core.specs.Restoring.{IsNew}
use Rattle.agent_core.proofs.agents.Agent.take_all.Given as goal

abbrev pub invariant-loop-i : goal.invariant-loop-i
invariant-loop-i l =
    record {
      new : IsNew l.initial.self.net l.initial.self.me (take l.i l.kept) l.self;
      left :
          first_wrong l.initial.self.net l.kept
          ≡ first_wrong_from l.initial.self.net (take l.i l.kept) l.i (drop l.i l.kept);
    }
