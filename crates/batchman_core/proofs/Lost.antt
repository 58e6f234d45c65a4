-- The lowest of the jobs that are lost, one job further.
use Rattle.std.proofs.Common.{◌≡◌, ◌∙◌, ◌∷◌, [], ℕ, Bool, List, None, Option, Some, ap, false, is_some, map, refl, subst}
use Rattle.std.proofs.Common.{sym, true}
use Rattle.std.specs.Option.{option_map_or}
use Rattle.std.specs.Prelude.{◌&&◌, ◌==◌, filter, not}
use Rattle.lemmas.proofs.Lists.{filter_filter}
use Rattle.model.specs.Types.{Events, LiveJob}
use Rattle.model.specs.Words.{least}
use Rattle.model.specs.History.{View}
use Rattle.model.specs.Catalogue.{StreamJob, jobs, jobs_of}
use Rattle.model.specs.Facts.{is_open, open_launch}
use Rattle.model.specs.Turn.{is_alive, lost_jobs}
use Rattle.dependencies.specs.Planned.{ArePlannedJobs, IsPlannedJob}
use Rattle.dependencies.proofs.Found.{jobs_planned}
use Rattle.model_laws.proofs.Lists.{all_filter}
use Rattle.dependencies.proofs.Lowest.{lower_of, numbers_among, numbers_of}

-- every item
abbrev pub any : {X : Type 0} → X → Bool
any x = true

-- the numbers of those that pass a test, and a test on the number
numbers_with : {X : Type 0} (p : X → Bool) (r : ℕ → Bool) (number : X → ℕ) (xs : List X)
    → filter r (map number (filter p xs)) ≡ numbers_of p any r number xs
numbers_with {X} p r number xs = ap (λ (l : List X). filter r (map number l)) (sym_all (filter p xs))
  where
    sym_all : (ys : List X) → ys ≡ filter any ys
    sym_all [] = refl
    sym_all (y ∷ ys) = ap (λ (l : List X). y ∷ l) (sym_all ys)

-- the launch of job j that is open has no live process
abbrev pub is_lost : View → ℕ → List LiveJob → ℕ → Bool
is_lost V w live j = option_map_or (λ n. not (is_alive live j n)) (open_launch j (V (Events w))) false

-- the jobs with an open launch are planned
pub open_planned : (V : View) (w : ℕ) (left : List StreamJob)
    → left ≡ filter (λ (p : StreamJob). is_open p.doc.no (V (Events w))) (jobs_of V w) → ArePlannedJobs V left
unfolding jobs_of
open_planned V w left e =
    subst (λ (ps : List StreamJob). ArePlannedJobs V ps) (sym e)
    (all_filter (IsPlannedJob V) (λ (p : StreamJob). is_open p.doc.no (V (Events w)))
    (filter (λ (p : StreamJob). p.doc.ws == w) (jobs V))
    (all_filter (IsPlannedJob V) (λ (p : StreamJob). p.doc.ws == w) (jobs V) (jobs_planned V)))

lost_is_open : (V : View) (w : ℕ) (live : List LiveJob) (j : ℕ) → is_lost V w live j ≡ true
    → is_open j (V (Events w)) ≡ true
unfolding is_open
lost_is_open V w live j h = go (open_launch j (V (Events w))) h
  where
    go : (o : Option ℕ) → option_map_or (λ n. not (is_alive live j n)) o false ≡ true → is_some o ≡ true
    go None k = cc
    go (Some n) k = refl

opened : (V : View) (w : ℕ) (live : List LiveJob) (p : StreamJob) → IsPlannedJob V p
    → ((p.doc.ws == w) && (any p && is_lost V w live p.doc.no)) ≡ true
    → ((p.doc.ws == w) && is_open p.doc.no (V (Events w))) ≡ true
opened V w live p planned h = go (p.doc.ws == w) h
  where
    go : (b : Bool) → (b && is_lost V w live p.doc.no) ≡ true → (b && is_open p.doc.no (V (Events w))) ≡ true
    go true k = lost_is_open V w live p.doc.no k
    go false k = cc

-- before the walk
pub lost_at_first : (V : View) (w : ℕ) (live : List LiveJob) (left : List StreamJob)
    → left ≡ filter (λ (p : StreamJob). is_open p.doc.no (V (Events w))) (jobs_of V w)
    → least (lost_jobs V w live)
    ≡ lower_of None
    (least (numbers_of (λ (p : StreamJob). p.doc.ws == w) any (is_lost V w live) (λ (p : StreamJob). p.doc.no) left))
unfolding lost_jobs jobs_of
lost_at_first V w live left e =
    ap least
    (numbers_with (λ (p : StreamJob). p.doc.ws == w) (is_lost V w live) (λ (p : StreamJob). p.doc.no) (jobs V)
    ∙ sym
    (numbers_among (IsPlannedJob V) (λ (p : StreamJob). p.doc.ws == w) any (is_lost V w live)
    (λ (p : StreamJob). p.doc.no) (λ (p : StreamJob). (p.doc.ws == w) && is_open p.doc.no (V (Events w))) (jobs V)
    (opened V w live) (jobs_planned V))
    ∙ ap
    (λ (l : List StreamJob).
    numbers_of (λ (p : StreamJob). p.doc.ws == w) any (is_lost V w live) (λ (p : StreamJob). p.doc.no) l)
    (sym
    (e
    ∙ filter_filter (λ (p : StreamJob). is_open p.doc.no (V (Events w))) (λ (p : StreamJob). p.doc.ws == w) (jobs V))))
