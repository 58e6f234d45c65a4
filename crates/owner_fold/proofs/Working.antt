-- Whose streams have a job on whom: exactly the pairs of the jobs that were walked over.
use Rattle.std.proofs.Common.{[], ℕ, ◌+◌, ◌++◌, ◌<◌, ◌^◌, ◌∙◌, ◌∷◌, ◌≡◌, ◌≤◌, ◌||◌, ◌&&◌, Bool, List, Option, None, add-one}
use Rattle.std.proofs.Common.{ap, arith, cond, eqb, false, flat_map, inl, inr, length, refl, slice_get, subst, suc, sym, take, true, zero}
use Rattle.std.proofs.lemmas.Bool.Decides.{eqb_tells}
use Rattle.std.specs.List.{list_any}
use Rattle.std.specs.Option.{option_map_or}
use Rattle.std.specs.Prelude.{nat_lt}
use Rattle.lemmas.proofs.Booleans.{or_assoc, or_false, or_regroup, or_turned}
use Rattle.lemmas.proofs.Lists.{take_whole}
use Rattle.grouped_places.specs.Codes.{code}
use Rattle.model.specs.Types.{Entry, StreamDoc}
use Rattle.model.specs.Words.{has, insert_once}
use Rattle.model.specs.History.{list_of}
use Rattle.model.specs.Catalogue.{StreamJob, catalogue, jobs, jobs_in}
use Rattle.owner_fold.specs.DocPlaces.{first_docs_among, first_jobs_among}
use Rattle.owner_fold.specs.Pairs.{AreWorksAmong, AreWorksOf, is_work}
use Rattle.owner_fold.specs.Plans.{is_planning}
use Rattle.owner_fold.proofs.Further.{docs_without}

or_again : (a b : Bool) → (a || b) ≡ ((a || b) || a)
or_again true b = refl
or_again false b = sym (or_false b)

-- what is there once a code was put in
put_in : (x : ℕ) (cs : List ℕ) (n : ℕ) → has (insert_once x cs) n ≡ (has cs n || eqb x n)
put_in x [] n = or_turned (eqb x n) false
put_in x (c ∷ cs) n =
    elim (eqb_tells x c) [
      | inl e ↦ (rw e.0 (subst (λ (y : ℕ). (eqb c n || has cs n) ≡ ((eqb c n || has cs n) || eqb y n)) (sym e.1)
          (or_again (eqb c n) (has cs n))))
      | inr e ↦ (rw e.0 (go (nat_lt x c) (put_in x cs n)))
    ]
  where
    go : (b : Bool) → has (insert_once x cs) n ≡ (has cs n || eqb x n)
        → has (cond b (x ∷ c ∷ cs) (c ∷ insert_once x cs)) n ≡ ((eqb c n || has cs n) || eqb x n)
    go true h = or_turned (eqb x n) (eqb c n || has cs n)
    go false h = ap (λ (t : Bool). eqb c n || t) h ∙ or_regroup (eqb c n) (has cs n) (eqb x n)

-- of two places of groups the codes are one where both are one
same_code : (w x v y : ℕ) → x < 2 ^ 32 → y < 2 ^ 32 → eqb (code w x) (code v y) ≡ (eqb w v && eqb x y)
same_code w x v y h k =
    elim (eqb_tells w v) [
      | inl a ↦ elim (eqb_tells x y) [
        | inl b ↦ elim (eqb_tells (code w x) (code v y)) [
          | inl e ↦ (rw (e.0, a.0, b.0) refl)
          | inr e ↦ absurd (e.1 (λ j. code (a.1 j) (b.1 j)))
        ]
        | inr b ↦ elim (eqb_tells (code w x) (code v y)) [
          | inl e ↦ absurd (b.1 (omega (arith, a.1, e.1, h, k)))
          | inr e ↦ (rw (e.0, a.0, b.0) refl)
        ]
      ]
      | inr a ↦ elim (eqb_tells (code w x) (code v y)) [
        | inl e ↦ absurd (a.1 (omega (arith, e.1, h, k)))
        | inr e ↦ (rw (e.0, a.0) refl)
      ]
    ]

pub put_exact : (g n w x : ℕ) (old new : List ℕ) → g ≡ w → n ≡ x → n < 2 ^ 32 → new ≡ insert_once (code g n) old
    → (v y : ℕ) → y < 2 ^ 32 → has new (code v y) ≡ (has old (code v y) || (eqb w v && eqb x y))
put_exact g n w x old new one same small put v y h =
    ap (λ (l : List ℕ). has l (code v y)) put ∙ put_in (code g n) old (code v y)
    ∙ ap (λ (b : Bool). has old (code v y) || b)
    (same_code g n v y small h ∙ (λ j. eqb (one j) v && eqb (same j) y))

-- where there is no job, none is put in
pub put_none : (test : StreamJob → Bool) (o : Option StreamJob) (b : Bool) → o ≡ None
    → b ≡ (b || option_map_or test o false)
put_none test o b e = sym (or_false b) ∙ ap (λ (p : Option StreamJob). b || option_map_or test p false) (sym e)

-- a walk, one job further
taken_any : {X : Type 0} (test : X → Bool) (xs : List X) (i : ℕ)
    → (list_any test (take i xs) || option_map_or test (slice_get xs i) false) ≡ list_any test (take (suc i) xs)
taken_any test [] zero = refl
taken_any test [] (suc i) = refl
taken_any {X} test (x ∷ xs) zero = go xs
  where
    go : (ys : List X) → test x ≡ (test x || list_any test (take 0 ys))
    go [] = sym (or_false (test x))
    go (y ∷ ys) = sym (or_false (test x))
taken_any test (x ∷ xs) (suc i) =
    or_assoc (test x) (list_any test (take i xs)) (option_map_or test (slice_get xs i) false)
    ∙ ap (λ (b : Bool). test x || b) (taken_any test xs i)

pub works_further : (placed : List StreamJob) (i : ℕ) (o : Option StreamJob) (mid new : List ℕ) → slice_get placed i ≡ o
    → AreWorksAmong (take i placed) mid
    → ((v x : ℕ) → x < 2 ^ 32
    → has new (code v x) ≡ (has mid (code v x) || option_map_or (is_work v x) o false))
    → AreWorksAmong (take (i + 1) placed) new
works_further placed i o mid new e h put v x small =
    put v x small ∙ ap (λ (b : Bool). b || option_map_or (is_work v x) o false) (h v x small)
    ∙ ap (λ (p : Option StreamJob). list_any (is_work v x) (take i placed) || option_map_or (is_work v x) p false) (sym e)
    ∙ taken_any (is_work v x) placed i
    ∙ ap (λ (n : ℕ). list_any (is_work v x) (take n placed)) (sym (add-one i))

pub works_begin : (placed : List StreamJob) (works : List ℕ) → works ≡ [] → AreWorksAmong (take 0 placed) works
works_begin [] works e v x small = ap (λ (l : List ℕ). has l (code v x)) e
works_begin (p ∷ placed) works e v x small = ap (λ (l : List ℕ). has l (code v x)) e

pub works_all : (placed : List StreamJob) (i : ℕ) (works : List ℕ) → length placed ≤ i
    → AreWorksAmong (take i placed) works → AreWorksAmong placed works
works_all placed i works h k = subst (λ (l : List StreamJob). AreWorksAmong l works) (take_whole placed i h) k

-- another entry leaves the jobs as they are
pub works_stay : (kept : List Entry) (e : Entry) (works : List ℕ) → is_planning e ≡ false → AreWorksOf kept works
    → AreWorksOf (kept ++ e ∷ []) works
unfolding catalogue jobs
works_stay kept e works other h =
    subst
    (λ (ds : List StreamDoc). AreWorksAmong (first_jobs_among (flat_map jobs_in (first_docs_among ds))) works)
    (sym (docs_without kept e other)) h

-- no entries
pub works_of_none : (works : List ℕ) → works ≡ [] → AreWorksOf [] works
unfolding list_of catalogue jobs
works_of_none works e v x small = ap (λ (l : List ℕ). has l (code v x)) e
