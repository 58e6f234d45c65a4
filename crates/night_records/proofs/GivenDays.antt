-- What the drafts of a day are, and why there are none.
use Rattle.std.proofs.Common.{◌≡◌, ◌⊎◌, ℕ, List, Option, Some, None, Result, Ok, Err, inl, inr, refl, true}
use Rattle.std.specs.Prelude.{nat_le}
use Rattle.calendars.specs.Dates.{last_day}
use Rattle.composer_parser.specs.declared.Defs.{Defs}
use Rattle.model.specs.Types.{StreamDraft}
use Rattle.plan_builder.specs.Drafts.{AreDrafts}
use Rattle.plan_builder.specs.Limits.{plan_fault}
use Rattle.plan_builder.specs.declared.PlanFault.{PlanFault}
use Rattle.plan_builder.specs.declared.PlanFault.TheVariants.{NoMemory}
use Rattle.night_records.specs.Days.{GivesDay, drafts}

no_fault : (o : Option PlanFault) (l : List StreamDraft)
    → ((f : PlanFault) → o ≡ Some f
    → ◌⊎◌ (◌≡◌ {A = Result (List StreamDraft) PlanFault} (Ok l) (Err f)) (◌≡◌ {A = Result (List StreamDraft) PlanFault} (Ok l) (Err NoMemory)))
    → o ≡ None
no_fault None l h = refl
no_fault (Some f) l h = go (h f refl)
  where
    go : ◌⊎◌ (◌≡◌ {A = Result (List StreamDraft) PlanFault} (Ok l) (Err f)) (◌≡◌ {A = Result (List StreamDraft) PlanFault} (Ok l) (Err NoMemory)) → Some f ≡ None
    go (inl e) = absurd (cc)
    go (inr e) = absurd (cc)

pub drafts_given : (d : Defs) (day : ℕ) (l : List StreamDraft) → nat_le day last_day ≡ true
    → ((f : PlanFault) → plan_fault d day ≡ Some f
    → ◌⊎◌ (◌≡◌ {A = Result (List StreamDraft) PlanFault} (Ok l) (Err f)) (◌≡◌ {A = Result (List StreamDraft) PlanFault} (Ok l) (Err NoMemory)))
    → AreDrafts d day l → GivesDay d day (Ok l)
drafts_given d day l low refused are = drafts l low (no_fault (plan_fault d day) l refused) are
