-- The drafts of the first day.
use Rattle.std.proofs.Common.{[], ◌+◌, ◌<◌, ◌≡◌, ◌∙◌, ◌∷◌, ◌||◌, Bool, List, None, ap, arith, cond, inl, inr, refl, subst, suc, sym, true, zero, ℕ}
use Rattle.std.proofs.lemmas.Bool.Decides.{eqb_tells}
use Rattle.std.specs.List.{list_any}
use Rattle.lemmas.proofs.Booleans.{or_true}
use Rattle.calendars.specs.Dates.{last_day}
use Rattle.calendars.specs.Nth.{below}
use Rattle.run_cycles.specs.Runs.{runs}
use Rattle.run_cycles.specs.Shifts.{gives}
use Rattle.plan_builder.specs.Dependencies.{dependencies_of}
use Rattle.plan_builder.specs.Drafts.{AreDrafts, AreDraftsOf}
use Rattle.plan_builder.specs.Limits.{plan_fault, running, timeless_lines}
use Rattle.plan_builder.specs.Times.{plan_day}
use Rattle.workload_defs.specs.Days.{free_of_stream}
use Rattle.workload_defs.specs.Nets.{net_of}
use Rattle.workload_defs.specs.Stations.{stations}
use Rattle.worked_night.specs.Workload.{defs, draft, every_day, net, schedule}

pub net_is : net_of defs ≡ net
unfolding net_of stations
net_is = refl

-- one of the numbers below that passes
passes_below : (test : ℕ → Bool) (n k : ℕ) → k < n → test k ≡ true → list_any test (below n) ≡ true
unfolding below
passes_below test zero k low pass = absurd (omega (arith, low))
passes_below test (suc n) k low pass =
    elim (eqb_tells k n) [
      | inl same ↦ ap (λ (t : Bool). t || list_any test (below n)) (ap test (sym same.1) ∙ pass)
      | inr other ↦ ap (λ (t : Bool). test n || t) (passes_below test n k (omega (arith, low, other.1)) pass) ∙ or_true (test n)
    ]

gives_first : gives defs (free_of_stream defs schedule) 0 every_day ≡ true
gives_first = passes_below _ (last_day + 1) 0 (omega arith) refl

runs_first : runs defs 0 0 ≡ true
runs_first = rw gives_first refl

running_first : running defs 0 ≡ 0 ∷ []
unfolding running
running_first = ap (λ (t : Bool). cond t (0 ∷ []) []) runs_first

pub no_fault : plan_fault defs 0 ≡ None
unfolding timeless_lines
no_fault = rw running_first refl

pub drafts_first : AreDrafts defs 0 (draft ∷ [])
unfolding dependencies_of stations
drafts_first =
    subst (λ (l : List ℕ). AreDraftsOf defs (plan_day defs 0) l (draft ∷ [])) (sym running_first) (
      record {
        ws_ = refl;
        name_ = refl;
        priority_ = refl;
        limit_ = refl;
        carry_ = refl;
        deps_ = refl;
        jobs_ = (
          record {
            ws_ = refl;
            name_ = refl;
            priority_ = refl;
            run_ = record { work_ = refl; logon_ = refl; cond_ = refl; recovery_ = refl };
            deps_ = refl;
          },
          tt,
        );
      },
      tt,
    )
