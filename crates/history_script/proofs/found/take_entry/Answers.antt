use Rattle.std.proofs.Common.{subst}
use Rattle.std.specs.Prelude.{IfSome}
use Rattle.model.specs.Fit.{IsFit}
use Rattle.history_script.proofs.Fits.{fit_more}
use Rattle.history_script.proofs.found.take_entry.Goals as goal

pub returns-in_ok-push-in-Some-clause-fit : goal.returns-in_ok-push-in-Some-clause-fit
returns-in_ok-push-in-Some-clause-fit c =
    λ are. fit_more c.args.found.now.entries c.push.new.self c.in-Some.entry c.in_ok-push-in-Some.ensures.ok
    (subst (λ o. IfSome o IsFit) c.in-Some.is c.in_ok-entry.ensures.fit) are
