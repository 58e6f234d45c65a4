-- Whose job is lost, and whose is the best, which is due.
use Rattle.std.proofs.Common.{◌≡◌, ◌∙◌, ◌∷◌, [], ℕ, Bool, List, None, Option, Some, ap, cond, false, map}
use Rattle.std.proofs.Common.{refl, subst, sym, true}
use Rattle.std.proofs.lemmas.Bool.{eqb-true}
use Rattle.std.specs.List.{AllByRecursion}
use Rattle.std.specs.Option.{option_map_or}
use Rattle.std.specs.Prelude.{◌==◌, filter, not}
use Rattle.lemmas.proofs.Lists.{all_map}
use Rattle.model_laws.proofs.Decisions.{all_true, job_number}
use Rattle.model.specs.Types.{Events, Job, LiveJob, Net}
use Rattle.model.specs.Words.{least}
use Rattle.model.specs.History.{View}
use Rattle.model.specs.Catalogue.{StreamJob, job, jobs, jobs_of, owner}
use Rattle.model.specs.Facts.{is_due, open_launch}
use Rattle.model.specs.Readiness.{best, is_ready, is_ready_in, ready_conditions}
use Rattle.model.specs.Turn.{is_alive, lost_jobs}
use Rattle.model_laws.proofs.Bests.{best_is}
use Rattle.model_laws.proofs.Growth.{ready_owner}
use Rattle.model_laws.proofs.Options.{there_if, least_all}
use Rattle.dependencies.specs.Planned.{IsPlannedJob}
use Rattle.dependencies.proofs.Found.{jobs_planned}
use Rattle.model_laws.proofs.Lists.{all_filter}

-- w owns the job of this number
abbrev Owns : View → ℕ → ℕ → Type 0
Owns V w j = owner V (Job j) ≡ Some w

owned_among : (V : View) (w : ℕ) (ps : List StreamJob) → AllByRecursion (IsPlannedJob V) ps
    → AllByRecursion (λ (p : StreamJob). Owns V w p.doc.no) (filter (λ (p : StreamJob). p.doc.ws == w) ps)
owned_among V w [] h = tt
owned_among V w (p ∷ ps) h = go (p.doc.ws == w) refl (owned_among V w ps h.1)
  where
    rest : List StreamJob
    rest = filter (λ (q : StreamJob). q.doc.ws == w) ps

    go : (b : Bool) → (p.doc.ws == w) ≡ b → AllByRecursion (λ (q : StreamJob). Owns V w q.doc.no) rest
        → AllByRecursion (λ (q : StreamJob). Owns V w q.doc.no) (cond b (p ∷ rest) rest)
    go true e k = (h.0.owned ∙ ap Some (eqb-true p.doc.ws w e), k)
    go false e k = k

owned_jobs : (V : View) (w : ℕ) → AllByRecursion (λ (p : StreamJob). Owns V w p.doc.no) (jobs_of V w)
unfolding jobs_of
owned_jobs V w = owned_among V w (jobs V) (jobs_planned V)

-- a lost job is w's
pub lost_owned : (V : View) (w : ℕ) (live : List LiveJob) (j : ℕ) → Some j ≡ least (lost_jobs V w live)
    → owner V (Job j) ≡ Some w
unfolding lost_jobs
lost_owned V w live j e =
    there_if (Owns V w) (least (lost_jobs V w live)) j
    (least_all (Owns V w) (lost_jobs V w live)
    (all_filter (Owns V w) (λ j. option_map_or (λ n. not (is_alive live j n)) (open_launch j (V (Events w))) false)
    (map (λ (p : StreamJob). p.doc.no) (jobs_of V w))
    (all_map (Owns V w) (λ (p : StreamJob). p.doc.no) (jobs_of V w) (owned_jobs V w)))) (sym e)

-- the best job is w's
pub best_owned : (net : Net) (V : View) (w j : ℕ) → Some j ≡ best net V w → owner V (Job j) ≡ Some w
best_owned net V w j e = ready_owner net V w j (best_is net V w j (sym e)).ready

-- a job that is ready is due
ready_due : (net : Net) (V : View) (w j : ℕ) → is_ready net V w j ≡ true → is_due j (V (Events w)) ≡ true
unfolding is_ready
ready_due net V w j h = go (job V j) refl h
  where
    go : (o : Option StreamJob) → job V j ≡ o → option_map_or (is_ready_in net V w) o false ≡ true
        → is_due j (V (Events w)) ≡ true
    go None e k = cc
    go (Some p) e k =
        let all : AllByRecursion (λ b. b ≡ true) (ready_conditions net V w p) =
        all_true (ready_conditions net V w p) k
        in
        let due : is_due p.doc.no (V (Events w)) ≡ true = all.1.1.1.1.1.1.0 in
        subst (λ (i : ℕ). is_due i (V (Events w)) ≡ true) (job_number V j p e) due

-- and so is the best
pub best_due : (net : Net) (V : View) (w j : ℕ) → Some j ≡ best net V w → is_due j (V (Events w)) ≡ true
best_due net V w j e = ready_due net V w j (best_is net V w j (sym e)).ready
