use Rattle.std.proofs.Common.{◌∷◌, sym, subst}
use Rattle.mail_frames.specs.Nexts.{Follows, NextAfter}
use Rattle.mail_frames.specs.declared.nexts.Next.{Next}
use Rattle.mail_frames.proofs.nexts.Next.after.Goals as goal

pub returns-in-Lead : goal.returns-in-Lead
returns-in-Lead c =
    subst (λ (n : Next). NextAfter (λ bytes. Follows n (c.args.byte ∷ bytes)) c.after_lead.result) (sym c.in-Lead.is)
    c.after_lead.ensures
