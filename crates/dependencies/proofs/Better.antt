-- The best of the ready jobs, one further.
use Rattle.std.proofs.Common.{◌≡◌, ◌∙◌, ◌∷◌, ℕ, Bool, List, None, Option, Some, ap, cond, false, fold, refl, sym}
use Rattle.std.proofs.Common.{true}
use Rattle.std.specs.Prelude.{◌==◌, filter, option_map}
use Rattle.model.specs.Types.{Net}
use Rattle.model.specs.History.{View}
use Rattle.model.specs.Catalogue.{StreamJob, jobs, jobs_of}
use Rattle.model.specs.Readiness.{best, better_of, is_better, is_ready, is_ready_in}
use Rattle.dependencies.specs.Planned.{IsPlannedJob}
use Rattle.dependencies.specs.Ranks.{better_rank, rank_of}
use Rattle.decision_rules.specs.declared.Rank.{Rank}

-- the ready jobs of w among these
abbrev pub ready_among : Net → View → ℕ → List StreamJob → List StreamJob
ready_among net V w left =
    filter (λ (p : StreamJob). is_ready net V w p.doc.no) (filter (λ (p : StreamJob). p.doc.ws == w) left)

-- the number of a job
abbrev pub number : StreamJob → ℕ
number p = p.doc.no

-- the best so far is that of the jobs before, and what is left decides further
pub record IsBestSoFar (net : Net) (V : View) (w : ℕ) (so_far : Option Rank) (left : List StreamJob) : Type 0 where
  pub candidate : Option StreamJob
  pub ranked : option_map (rank_of V) candidate ≡ so_far
  pub walked : best net V w ≡ option_map number (fold (better_of V) candidate (ready_among net V w left))

-- before the walk
pub nothing_so_far : (net : Net) (V : View) (w : ℕ) (left : List StreamJob) → left ≡ jobs V
    → IsBestSoFar net V w None left
unfolding best jobs_of
nothing_so_far net V w left e = record { candidate = None; ranked = refl; walked = rw e refl }

-- a planned job is ready where its document is
ready_by_document : (net : Net) (V : View) (w : ℕ) (p : StreamJob) → IsPlannedJob V p
    → is_ready net V w p.doc.no ≡ is_ready_in net V w p
unfolding is_ready
ready_by_document net V w p h = rw h.found refl

among_here : (net : Net) (V : View) (w : ℕ) (p : StreamJob) (left : List StreamJob) → IsPlannedJob V p
    → is_ready_in net V w p ≡ true → ready_among net V w (p ∷ left) ≡ p ∷ ready_among net V w left
among_here net V w p left h e = go (p.doc.ws == w) refl
  where
    go : (b : Bool) → (p.doc.ws == w) ≡ b → ready_among net V w (p ∷ left) ≡ p ∷ ready_among net V w left
    go true f = rw (f, ready_by_document net V w p h, e) refl
    go false f = absurd (contradicts (sym (unready f) ∙ e))
      where
        unready : (p.doc.ws == w) ≡ false → is_ready_in net V w p ≡ false
        unready f = rw f refl

        contradicts : false ≡ true → ⊥
        contradicts k = cc

among_elsewhere : (net : Net) (V : View) (w : ℕ) (p : StreamJob) (left : List StreamJob) → IsPlannedJob V p
    → is_ready_in net V w p ≡ false → ready_among net V w (p ∷ left) ≡ ready_among net V w left
among_elsewhere net V w p left h e = go (p.doc.ws == w) refl
  where
    go : (b : Bool) → (p.doc.ws == w) ≡ b → ready_among net V w (p ∷ left) ≡ ready_among net V w left
    go true f = rw (f, ready_by_document net V w p h, e) refl
    go false f = rw f refl

-- the rank of the better one is the better rank
ranked_better : (V : View) (so_far : Option StreamJob) (p : StreamJob)
    → option_map (rank_of V) (better_of V so_far p)
    ≡ Some (better_rank (option_map (rank_of V) so_far) (rank_of V p))
unfolding is_better
ranked_better V None p = refl
ranked_better V (Some q) p = go (is_better V p q)
  where
    go : (b : Bool)
        → option_map (rank_of V) (cond b (Some p) (Some q)) ≡ Some (cond b (rank_of V p) (rank_of V q))
    go true = refl
    go false = refl

-- a job that is ready
pub further_by_ready : (net : Net) (V : View) (w : ℕ) (so_far : Option Rank) (p : StreamJob) (left : List StreamJob)
    (next : Rank) → IsPlannedJob V p → is_ready_in net V w p ≡ true → next ≡ better_rank so_far (rank_of V p)
    → IsBestSoFar net V w so_far (p ∷ left) → IsBestSoFar net V w (Some next) left
further_by_ready net V w so_far p left next h e f b =
    record {
      candidate = better_of V b.candidate p;
      ranked =
          ranked_better V b.candidate p ∙ ap (λ (r : Option Rank). Some (better_rank r (rank_of V p))) b.ranked
          ∙ ap Some (sym f);
      walked =
          b.walked
          ∙ ap (λ (l : List StreamJob). option_map number (fold (better_of V) b.candidate l))
          (among_here net V w p left h e);
    }

-- a job that is not
pub further_by_other : (net : Net) (V : View) (w : ℕ) (so_far : Option Rank) (p : StreamJob) (left : List StreamJob)
    → IsPlannedJob V p → is_ready_in net V w p ≡ false → IsBestSoFar net V w so_far (p ∷ left)
    → IsBestSoFar net V w so_far left
further_by_other net V w so_far p left h e b =
    record {
      candidate = b.candidate;
      ranked = b.ranked;
      walked =
          b.walked
          ∙ ap (λ (l : List StreamJob). option_map number (fold (better_of V) b.candidate l))
          (among_elsewhere net V w p left h e);
    }
