-- A job that is ready was told each file that it waits for.
use Rattle.std.proofs.Common.{◌≡◌, ◌∙◌, ◌∷◌, ◌+◌, [], ℕ, Bool, List, None, Option, Some, add-zero, ap, arith, drop, false}
use Rattle.std.proofs.Common.{length, refl, subst, suc, sym, true, zero}
use Rattle.std.proofs.lemmas.Bool.{eqb-true}
use Rattle.std.specs.List.{list_all}
use Rattle.std.specs.Option.{option_map_or}
use Rattle.std.specs.Prelude.{◌<◌, ◌==◌}
use Rattle.lemmas.proofs.Booleans.{and_left, and_right}
use Rattle.lemmas.proofs.Lists.{found_within}
use Rattle.model_laws.proofs.Decisions.{job_number}
use Rattle.model.specs.Types.{Dep, Events, Job, Net, Obj, Outside}
use Rattle.model.specs.Words.{all_of, numbers_from}
use Rattle.model.specs.History.{View}
use Rattle.model.specs.Catalogue.{StreamJob, job, owner}
use Rattle.model.specs.Facts.{is_fulfilled}
use Rattle.model.specs.Dependencies.{all_satisfied, dep, deps, is_met, is_satisfied, is_waived}
use Rattle.model.specs.Readiness.{is_ready, is_ready_in, ready_conditions}
use Rattle.model_laws.proofs.Satisfied.{each_satisfied}
use Rattle.dependencies.proofs.Found.{job_planned}

later : (n : ℕ) (bs : List Bool) → all_of bs ≡ true → all_of (drop n bs) ≡ true
later zero bs h = h
later (suc n) [] h = refl
later (suc n) (b ∷ bs) h = later n bs (and_right b (all_of bs) h)

numbers_all : (p : ℕ → Bool) (from n k : ℕ) → list_all p (numbers_from from n) ≡ true → k < n → p (from + k) ≡ true
numbers_all p from zero k h less = absurd (omega (arith, less))
numbers_all p from (suc n) zero h less =
    rw add-zero (and_left (p from) (list_all p (numbers_from (from + 1) n)) h)
numbers_all p from (suc n) (suc k) h less =
    let e : (from + 1) + k ≡ from + suc k = omega arith in
    subst (λ (m : ℕ). p m ≡ true) e
    (numbers_all p (from + 1) n k (and_right (p from) (list_all p (numbers_from (from + 1) n)) h) (omega (arith, less)))

satisfied_at : (net : Net) (V : View) (w : ℕ) (o : Obj) (i : ℕ) (d : Dep) → owner V o ≡ Some w
    → all_satisfied net V w o ≡ true → dep V o i ≡ Some d → is_satisfied net V o i ≡ true
satisfied_at net V w o zero d mine h e = cc
satisfied_at net V w o (suc k) d mine h e =
    let all : list_all (is_satisfied net V o) (numbers_from 1 (length (deps V o))) ≡ true =
    sym (each_satisfied net V w o mine) ∙ h
    in
    let n : 1 + k ≡ suc k = omega arith in
    subst (λ (m : ℕ). is_satisfied net V o m ≡ true) n
    (numbers_all (is_satisfied net V o) 1 (length (deps V o)) k all (found_within (deps V o) k d e))

file_told : (net : Net) (V : View) (w : ℕ) (o : Obj) (i : ℕ) (path : List ℕ) → owner V o ≡ Some w
    → dep V o i ≡ Some (Outside path) → is_waived V o i ≡ false → is_satisfied net V o i ≡ true
    → is_fulfilled o i (V (Events w)) ≡ true
unfolding is_satisfied is_met
file_told net V w o i path mine e waived h = sym (rw (mine, e, waived) refl) ∙ h

of_job : (net : Net) (V : View) (w j i : ℕ) (path : List ℕ) (o : Option StreamJob) → job V j ≡ o
    → option_map_or (is_ready_in net V w) o false ≡ true → dep V (Job j) i ≡ Some (Outside path)
    → is_waived V (Job j) i ≡ false → is_fulfilled (Job j) i (V (Events w)) ≡ true
of_job net V w j i path None found h e waived = cc
of_job net V w j i path (Some p) found h e waived =
    let planned = job_planned V j p found in
    let number : p.doc.no ≡ j = job_number V j p found in
    let here : p.doc.ws ≡ w =
    eqb-true p.doc.ws w (and_left (p.doc.ws == w) (all_of (drop 1 (ready_conditions net V w p))) h)
    in
    let mine : owner V (Job j) ≡ Some w =
    subst (λ (n : ℕ). owner V (Job n) ≡ Some w) number (planned.owned ∙ ap Some here)
    in
    let satisfied : all_satisfied net V w (Job j) ≡ true =
    subst (λ (n : ℕ). all_satisfied net V w (Job n) ≡ true) number
    (and_left (all_satisfied net V w (Job p.doc.no)) (all_of (drop 9 (ready_conditions net V w p)))
    (later 8 (ready_conditions net V w p) h))
    in
    file_told net V w (Job j) i path mine e waived (satisfied_at net V w (Job j) i (Outside path) mine satisfied e)

pub ready_was_told : (net : Net) (V : View) (w j i : ℕ) (path : List ℕ) → is_ready net V w j ≡ true
    → dep V (Job j) i ≡ Some (Outside path) → is_waived V (Job j) i ≡ false
    → is_fulfilled (Job j) i (V (Events w)) ≡ true
unfolding is_ready
ready_was_told net V w j i path h e waived = of_job net V w j i path (job V j) refl h e waived
