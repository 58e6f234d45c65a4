use Rattle.std.proofs.Common.{◌∙◌, sym}
use Rattle.agent_core.proofs.Mailing.{mail_none, mail_some}
use Rattle.agent_core.proofs.agents.Agent.answered.Goals as goal

pub accepted-requires : goal.accepted-requires
accepted-requires c =
    record {
      made =
          record {
            passed = c.requires;
            made_ =
                mail_some c.args.self.now c.args.from c.args.e.now
                (sym c.accepts.ensures.value ∙ c.if-accepts.true);
          };
      next = c.accepts.ensures.next c.if-accepts.true;
    }

pub passed-requires : goal.passed-requires
passed-requires c =
    record {
      passed = c.requires;
      made_ =
          mail_none c.args.self.now c.args.from c.args.e.now (sym c.accepts.ensures.value ∙ c.if-accepts.false);
    }
