use Rattle.std.proofs.Common.{◌∙◌, sym}
use Rattle.agent_core.proofs.Causes.{not_near, outside_net}
use Rattle.agent_core.proofs.Mailing.{mail, mail_kept, mail_long, mail_passed}
use Rattle.agent_core.proofs.agents.Agent.mail_fault.Goals as goal

pub returns-then-not-has_mail : goal.returns-then-not-has_mail
returns-then-not-has_mail c =
    outside_net c.args.self.now (mail c.args.from c.args.e.now) (sym c.has_mail.ensures ∙ c.if-not-has_mail.true)

pub returns-then-is_itself : goal.returns-then-is_itself
returns-then-is_itself c =
    not_near c.args.self.now (mail c.args.from c.args.e.now) (sym c.has_mail.ensures ∙ c.if-not-has_mail.false)
    (sym c.is_itself.ensures ∙ c.if-is_itself.true)

pub returns-then-not-accepts : goal.returns-then-not-accepts
returns-then-not-accepts c =
    mail_passed c.args.self.now c.args.from c.args.e.now (sym c.has_mail.ensures ∙ c.if-not-has_mail.false)
    (sym c.is_itself.ensures ∙ c.if-is_itself.false) (sym c.accepts.ensures.value ∙ c.if-not-accepts.true)

pub returns-then-is_too_long : goal.returns-then-is_too_long
returns-then-is_too_long c =
    mail_long c.args.self.now c.args.from c.args.e.now (sym c.has_mail.ensures ∙ c.if-not-has_mail.false)
    (sym c.is_itself.ensures ∙ c.if-is_itself.false) (sym c.accepts.ensures.value ∙ c.if-not-accepts.false)
    c.is_too_long.ensures.place (sym c.is_too_long.ensures.value ∙ c.if-is_too_long.true)

pub returns : goal.returns
returns c =
    mail_kept c.args.self.now c.args.from c.args.e.now (sym c.has_mail.ensures ∙ c.if-not-has_mail.false)
    (sym c.is_itself.ensures ∙ c.if-is_itself.false) (sym c.accepts.ensures.value ∙ c.if-not-accepts.false)
    c.is_too_long.ensures.place (sym c.is_too_long.ensures.value ∙ c.if-is_too_long.false)
