use Rattle.std.proofs.Common.{◌∙◌, Err, List, Ok, Option, refl, subst, sym}
use Rattle.std.specs.Prelude.{IfErr, IfOk}
use Rattle.composer_parser.specs.declared.Defs.{Defs}
use Rattle.model.specs.Types.{StreamDraft}
use Rattle.record_runs.specs.Causes.{no_moment}
use Rattle.record_runs.specs.Days.{GivesFault}
use Rattle.night_records.specs.Days.{Gives}
use Rattle.night_records.proofs.days.DaysDayPlans.drafts.Goals as goal

pub returns-in-None-clause-fault : goal.returns-in-None-clause-fault
returns-in-None-clause-fault c =
    subst (λ (w : Option Defs). Gives w c.args.day (Err no_moment)) (sym c.in-None.is ∙ c.self.view_is) refl

pub returns-in-Some-clause-drafts : goal.returns-in-Some-clause-drafts
returns-in-Some-clause-drafts c =
    subst (λ (w : Option Defs). IfOk c.given.result (λ (l : List StreamDraft). Gives w c.args.day (Ok l)))
    (sym c.in-Some.is ∙ c.self.view_is) c.given.ensures.drafts

pub returns-in-Some-clause-fault : goal.returns-in-Some-clause-fault
returns-in-Some-clause-fault c =
    subst (λ (w : Option Defs). IfErr c.given.result (GivesFault (Gives w c.args.day)))
    (sym c.in-Some.is ∙ c.self.view_is) c.given.ensures.fault
