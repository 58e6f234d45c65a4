-- The lowest job for which there is advice, one job further.
use Rattle.std.proofs.Common.{◌≡◌, ◌∙◌, ℕ, List, None, ap, sym}
use Rattle.std.specs.Prelude.{◌==◌, ◌&&◌, filter}
use Rattle.lemmas.proofs.Booleans.{and_again}
use Rattle.model.specs.Words.{least}
use Rattle.model.specs.History.{View}
use Rattle.model.specs.Catalogue.{StreamJob, is_member, jobs, jobs_of}
use Rattle.model.specs.OwnMembers.{own_job_numbers, own_jobs}
use Rattle.dependencies.specs.Planned.{IsPlannedJob}
use Rattle.dependencies.proofs.Lowest.{lower_of, numbers_of}
use Rattle.recovery_watch.specs.Advice.{needs_advice, needs_advice_in}

-- it is an own member's job for which there is advice
pub advisable : (V : View) (w : ℕ) (p : StreamJob) → IsPlannedJob V p
    → ((p.doc.ws == w) && (is_member V p.parent.no && needs_advice V w p.doc.no)) ≡ needs_advice_in V w p
unfolding needs_advice
advisable V w p h = rw h.found (and_again (p.doc.ws == w) (is_member V p.parent.no) _)

-- the lowest of those among these
abbrev pub lowest_among : View → ℕ → List StreamJob → List ℕ
lowest_among V w left =
    numbers_of (λ (p : StreamJob). p.doc.ws == w) (λ (p : StreamJob). is_member V p.parent.no) (needs_advice V w)
    (λ (p : StreamJob). p.doc.no) left

-- before the walk
pub advised_at_first : (V : View) (w : ℕ) (left : List StreamJob) → left ≡ jobs V
    → least (filter (needs_advice V w) (own_job_numbers V w)) ≡ lower_of None (least (lowest_among V w left))
unfolding own_jobs jobs_of
advised_at_first V w left e = ap (λ (l : List StreamJob). least (lowest_among V w l)) (sym e)
