-- The first equal dependency of an object, one dependency further.
use Rattle.std.proofs.Common.{[], ℕ, ◌&&◌, ◌+◌, ◌<◌, ◌∷◌, ◌≡◌, ◌≤◌, Bool, List, None, Option, Some, arith, cond}
use Rattle.std.proofs.Common.{drop, false}
use Rattle.std.proofs.Common.{◌||◌, filter, find, is_some, length, not, option_map, refl, slice_get, suc, true, zero}
use Rattle.std.specs.List.{list_any}
use Rattle.lemmas.proofs.Lists.{first_left}
use Rattle.model.specs.Types.{Dep, Obj}
use Rattle.model.specs.Words.{nth}
use Rattle.model.specs.Equalities.{dep_eq}
use Rattle.model.specs.History.{View}
use Rattle.model.specs.Dependencies.{NumberedDep, deps, is_waived, numbered_deps, unwaived_deps}
use Rattle.conman_orders.specs.Equals.{first_equal, is_equal_at}

-- the first among these dependencies, which are numbered from n
abbrev pub equal_from : View → Obj → Dep → ℕ → List Dep → Option ℕ
equal_from V o d n ds =
    option_map (λ (p : NumberedDep). p.number)
    (find (λ (p : NumberedDep). dep_eq d p.dep)
    (filter (λ (p : NumberedDep). not (is_waived V o p.number)) (numbered_deps n ds)))

pub equal_all : (V : View) (o : Obj) (d : Dep) → first_equal V o d ≡ equal_from V o d 1 (deps V o)
unfolding first_equal unwaived_deps
equal_all V o d = refl

one_more : (V : View) (o : Obj) (d : Dep) (n : ℕ) (e : Dep) (ds : List Dep) → nth (deps V o) n ≡ Some e
    → equal_from V o d n (e ∷ ds) ≡ cond (is_equal_at V o d n) (Some n) (equal_from V o d (n + 1) ds)
one_more V o d n e ds h = rw h (go (dep_eq d e) (is_waived V o n) refl)
  where
    go : (a b : Bool) → dep_eq d e ≡ a
        → option_map (λ (p : NumberedDep). p.number)
        (find (λ (p : NumberedDep). dep_eq d p.dep)
        (cond (not b)
        (record { number = n; dep = e } ∷ filter (λ (p : NumberedDep). not (is_waived V o p.number))
        (numbered_deps (n + 1) ds))
        (filter (λ (p : NumberedDep). not (is_waived V o p.number)) (numbered_deps (n + 1) ds))))
        ≡ cond (a && not b) (Some n) (equal_from V o d (n + 1) ds)
    go true true k = refl
    go false true k = refl
    go true false k = rw k refl
    go false false k = rw k refl

pub equal_step : (V : View) (o : Obj) (d : Dep) (i : ℕ) → i < length (deps V o)
    → equal_from V o d (i + 1) (drop i (deps V o))
    ≡ cond (is_equal_at V o d (i + 1)) (Some (i + 1)) (equal_from V o d (i + 1 + 1) (drop (i + 1) (deps V o)))
equal_step V o d i h =
    let e : i + 1 ≡ suc i = omega arith in
    let f : (x : Dep) × ((drop i (deps V o) ≡ x ∷ drop (suc i) (deps V o)) × (slice_get (deps V o) i ≡ Some x)) =
    first_left (deps V o) i h
    in
    rw (e, f.1.0) (one_more V o d (suc i) f.0 (drop (suc i) (deps V o)) f.1.1)

past : (V : View) (o : Obj) (d : Dep) (n : ℕ) (ds : List Dep) (i : ℕ) → length ds ≤ i
    → equal_from V o d n (drop i ds) ≡ None
past V o d n [] zero h = refl
past V o d n [] (suc i) h = refl
past V o d n (e ∷ ds) zero h = absurd (omega arith)
past V o d n (e ∷ ds) (suc i) h = past V o d n ds i (omega arith)

pub equal_end : (V : View) (o : Obj) (d : Dep) (n i : ℕ) → length (deps V o) ≤ i
    → equal_from V o d n (drop i (deps V o)) ≡ None
equal_end V o d n i h = past V o d n (deps V o) i h

any_found : (test : NumberedDep → Bool) (ps : List NumberedDep)
    → list_any test ps ≡ is_some (option_map (λ (p : NumberedDep). p.number) (find test ps))
any_found test [] = refl
any_found test (p ∷ ps) = go (test p) (any_found test ps)
  where
    go : (b : Bool)
        → list_any test ps ≡ is_some (option_map (λ (q : NumberedDep). q.number) (find test ps))
        → (b || list_any test ps)
        ≡ is_some (option_map (λ (q : NumberedDep). q.number) (cond b (Some p) (find test ps)))
    go true h = refl
    go false h = h

-- an equal one that is not waived is there where there is a first one
pub equal_any : (V : View) (o : Obj) (d : Dep)
    → list_any (λ (p : NumberedDep). dep_eq d p.dep) (unwaived_deps V o) ≡ is_some (first_equal V o d)
unfolding first_equal
equal_any V o d = any_found (λ (p : NumberedDep). dep_eq d p.dep) (unwaived_deps V o)

-- what a walk over the dependencies needs
pub ruleset equal_steps = (equal_all, equal_step, equal_end)
