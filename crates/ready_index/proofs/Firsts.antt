-- The first candidate of an index that is ready is the best job.
use Rattle.std.proofs.Common.{[], ℕ, ◌≡◌, ◌⊎◌, inl, inr, true}
use Rattle.std.specs.Prelude.{◌==◌}
use Rattle.model.specs.History.{View}
use Rattle.model.specs.Catalogue.{StreamJob, jobs, jobs_of}
use Rattle.model.specs.Readiness.{is_ready}
use Rattle.dependencies.specs.Planned.{IsPlannedJob}
use Rattle.dependencies.proofs.Found.{jobs_planned}
use Rattle.ready_index.specs.Lists.{Among}
use Rattle.ready_index.specs.Standing.{FirstReadyIsBest, IsKnown}
use Rattle.ready_index.proofs.Bests.{IsPlacedAmong, first_best, open_to, waits_for_none}
use Rattle.ready_index.proofs.Elements.{all_among, filter_has}

-- a job of w is planned
pub planned_here : (V : View) (w : ℕ) (p : StreamJob) → Among p (jobs_of V w) → IsPlannedJob V p
unfolding jobs_of
planned_here V w p h =
    all_among (IsPlannedJob V) (jobs V) p (jobs_planned V) (filter_has (λ (q : StreamJob). q.doc.ws == w) (jobs V) p h).0

pub first_ready : FirstReadyIsBest
first_ready net V w index ordered stands =
    first_best net V w index.candidates ordered stands.real
    (λ q h. there q (filter_has (λ (p : StreamJob). is_ready net V w p.doc.no) (jobs_of V w) q h))
  where
    there : (q : StreamJob) → Among q (jobs_of V w) × (is_ready net V w q.doc.no ≡ true)
        → IsPlacedAmong V index.candidates q
    there q h = known (stands.known q h.0 (open_to net V w q (planned_here V w q h.0).found h.1).play)
      where
        known : IsKnown V index q ⊎ Among q.doc.no [] → IsPlacedAmong V index.candidates q
        known (inl (inl k)) = record { place = k.place; here = k.here; placed = k.placed }
        known (inl (inr k)) =
            absurd (waits_for_none net V w q k.target (open_to net V w q (planned_here V w q h.0).found h.1) k.waits)
        known (inr k) = absurd k
